-- The rules of one nesting further in.
use Rattle.std.proofs.Common.{◌≡◌, ◌<◌, ℕ, zero, suc, ◌-◌, List, Result, Err, refl, ap, arith}
use Rattle.std.proofs.lemmas.List.{take-append-drop}
use Rattle.sql_grammar.specs.Grammar.{Tok, parse}
use Rattle.expr_parse.specs.declared.expression.Expr.{Expr}
use Rattle.expr_parse.specs.declared.fault.Fault.{Fault}
use Rattle.expr_parse.specs.declared.levels.Level.{Level}
use Rattle.expr_parse.specs.Reads.{Reads}
use Rattle.expr_parse.specs.Expressions.{level, deeper, by_level, expr, inner_expr, max_tokens}

pub deeper_none : (depth : ℕ) (l : Level) (ts : List Tok) → depth ≡ 0 → parse (deeper depth l) ts ≡ Err ts
unfolding deeper
deeper_none zero l ts e = refl
deeper_none (suc depth) l ts e = absurd (omega (arith, e))

sub_one : (depth : ℕ) → suc depth - 1 ≡ depth
sub_one depth = omega arith

pub deeper_some : (depth : ℕ) (l : Level) (ts end : List Tok) (r : Result Expr Fault) → 0 < depth → Reads (parse (level (depth - 1) l) ts) r end → Reads (parse (deeper depth l) ts) r end
unfolding deeper
deeper_some zero l ts end r some reads = absurd (omega (arith, some))
deeper_some (suc depth) l ts end r some reads = rw (sub_one depth) at reads

pub level_opens : (depth : ℕ) (l : Level) → level depth l ≡ by_level depth (deeper depth) l
unfolding level deeper
level_opens zero l = refl
level_opens (suc depth) l = refl

pub inner_none : (depth : ℕ) (ts : List Tok) → depth ≡ 0 → parse (inner_expr depth) ts ≡ Err ts
unfolding inner_expr deeper
inner_none zero ts e = ap (λ us. Err us) (take-append-drop max_tokens ts)
inner_none (suc depth) ts e = absurd (omega (arith, e))

pub inner_some : (depth : ℕ) (ts end : List Tok) (r : Result Expr Fault) → 0 < depth → Reads (parse (expr (depth - 1)) ts) r end → Reads (parse (inner_expr depth) ts) r end
unfolding inner_expr expr deeper
inner_some zero ts end r some reads = absurd (omega (arith, some))
inner_some (suc depth) ts end r some reads = rw (sub_one depth) at reads
