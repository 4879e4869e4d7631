-- A step of reading.
use Rattle.std.proofs.Common.{◌≡◌, false, List, [], ◌∷◌, Err, refl}
use Rattle.sql_grammar.specs.declared.kind.Kind.{Kind}
use Rattle.sql_grammar.specs.Grammar.{Tok, Outcome, next_is, after_tok, take_tok}

pub skip_refused : {A : Type 0} (k : Kind) (f : List Tok → Outcome A) (ts : List Tok) → next_is k ts ≡ false → after_tok k f ts ≡ Err ts
skip_refused k f [] e = refl
skip_refused k f (t ∷ ts) e = rw e refl

pub take_refused : (k : Kind) (ts : List Tok) → next_is k ts ≡ false → take_tok k ts ≡ Err ts
take_refused k [] e = refl
take_refused k (t ∷ ts) e = rw e refl

pub ruleset steps = (skip_refused, take_refused)
