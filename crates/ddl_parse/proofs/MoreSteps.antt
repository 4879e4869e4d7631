-- Steps where none may nest, and where some may.
use Rattle.std.proofs.Common.{arith, ◌≡◌, ℕ, zero, suc, ◌-◌, List, [], Ok, refl}
use Rattle.sql_grammar.specs.Grammar.{Tok, parse}
use Rattle.ddl_parse.specs.declared.procedure.StepText.{StepText}
use Rattle.ddl_parse.specs.Procedures.{many, step, steps}

pub no_steps : (depth : ℕ) (ts : List Tok) (found : List StepText) → depth ≡ 0 → found ≡ [] → parse (steps depth) ts ≡ Ok (found, ts)
unfolding steps
no_steps zero ts found e f = rw f refl
no_steps (suc depth) ts found e f = absurd (omega arith)

pub some_steps : (depth : ℕ) (ts : List Tok) → (depth ≡ 0 → ⊥) → parse (steps depth) ts ≡ parse (many (step (depth - 1) (steps (depth - 1)))) ts
unfolding steps
some_steps zero ts some = absurd (some refl)
some_steps (suc depth) ts some =
    let one : suc depth - 1 ≡ depth = omega arith in
    rw one refl
