-- Reading the prefix of the tokens that a limit leaves.
use Rattle.std.proofs.Common.{◌≡◌, ℕ, ◌-◌, true, List, ◌++◌, length, take, drop, Result, Ok, Err, ap, sym, ◌∙◌, arith, append_assoc, length-append}
use Rattle.std.proofs.Math.Seq.{drop-append_seam}
use Rattle.std.proofs.lemmas.List.{take-append-drop}
use Rattle.sql_grammar.specs.Grammar.{Tok, G, parse, limit, ok, put_back, Derives, Starts, at}
use Rattle.sql_grammar.proofs.Langs.{Read, Refused}
use Rattle.sql_grammar.proofs.Exact.{exact}
use Rattle.expr_parse.specs.declared.fault.Fault.{Fault}
use Rattle.expr_parse.specs.declared.fault.Fault.TheVariants as fault
use Rattle.expr_parse.specs.Reads.{Reads}

behind : (n : ℕ) (ts prefix rest : List Tok) → take n ts ≡ prefix ++ rest → drop (length (take n ts) - length rest) ts ≡ rest ++ drop n ts
behind n ts prefix rest e =
    let count : length (take n ts) - length rest ≡ length prefix = omega (arith, ap length e, length-append prefix rest) in
    let all : ts ≡ prefix ++ (rest ++ drop n ts) = sym (take-append-drop n ts) ∙ ap (λ us. us ++ drop n ts) e ∙ append_assoc prefix rest (drop n ts) in
    ap (λ k. drop k ts) count ∙ ap (drop (length prefix)) all ∙ drop-append_seam prefix (rest ++ drop n ts)

pub cut : {A : Type 0} (g : G A) → ok g ≡ true → (n : ℕ) (ts rest end : List Tok) (r : Result A Fault) → Reads (parse g (take n ts)) r rest
    → end ≡ drop (length (take n ts) - length rest) ts → Reads (parse (limit n g) ts) r end
cut {A} g o n ts rest end (Ok x) reads is =
    let good : Read (Derives g) (Starts g) (at g (take n ts)) (take n ts) x rest = rw reads at (exact g o (take n ts)) in
    ap (put_back (drop n ts)) reads ∙ ap (λ us. Ok (x, us)) (sym (is ∙ behind n ts good.prefix rest good.is_prefix))
cut {A} g o n ts rest end (Err fault.Syntax) reads is =
    let good : Refused (Derives g) (Starts g) (at g (take n ts)) (take n ts) rest = rw reads at (exact g o (take n ts)) in
    ap (put_back (drop n ts)) reads ∙ ap (λ us. Err us) (sym (is ∙ behind n ts good.prefix rest good.is_prefix))
cut g o n ts rest end (Err fault.NoMemory) reads is = tt
