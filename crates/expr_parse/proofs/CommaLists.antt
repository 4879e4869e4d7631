-- Lists with commas, turn by turn.
use Rattle.std.proofs.Common.{◌≡◌, ◌<◌, ℕ, ◌+◌, ◌-◌, true, false, List, [], ◌∷◌, ◌++◌, Ok, Err, refl, ◌∙◌}
use Rattle.sql_grammar.specs.declared.kind.Kind.TheVariants.{Comma}
use Rattle.sql_grammar.specs.Grammar.{Tok, Outcome, after_tok, joined, next_is, loop}
use Rattle.expr_parse.specs.Cursor.{Eats}
use Rattle.expr_parse.specs.Reads.{Reads}
use Rattle.expr_parse.specs.declared.fault.Fault.{Fault}
use Rattle.expr_parse.specs.declared.fault.Fault.TheVariants as fault
use Rattle.expr_parse.proofs.Loops.{one_more}

module _ {A : Type 0} (read : List Tok → Outcome A) where
  -- what is left to read of a list, with what was found of it
  abbrev pub Turns : ℕ → List A → List Tok → Outcome (List A)
  Turns n found ts = loop joined (next_is Comma) (after_tok Comma read) n found ts

  -- one more turn: a comma was read, and an item
  pub turn : (whole : Outcome (List A)) (n at : ℕ) (found new : List A) (old us rest : List Tok) (x : A)
      → at < n → whole ≡ Turns (n - at) found old → Eats Comma true old us → read us ≡ Ok (x, rest) → new ≡ found ++ x ∷ [] → whole ≡ Turns (n - (at + 1)) new rest
  turn whole n at found new old us rest x below before (t, is, same) reads pushed =
      rw pushed (one_more (λ m. Turns m found old) n at below before ∙ rw (is, same, reads) refl)

  -- a comma was read, and no item
  pub fail : (whole : Outcome (List A)) (n at : ℕ) (found : List A) (old us rest : List Tok) (why : Fault)
      → at < n → whole ≡ Turns (n - at) found old → Eats Comma true old us → Reads (read us) (Err why) rest → Reads whole (Err why) rest
  fail whole n at found old us rest fault.Syntax below before (t, is, same) refused =
      one_more (λ m. Turns m found old) n at below before ∙ rw (is, same, refused) refl
  fail whole n at found old us rest fault.NoMemory below before eats refused = tt

  -- no comma comes
  pub stop : (whole : Outcome (List A)) (n at : ℕ) (found : List A) (old new : List Tok)
      → at < n → whole ≡ Turns (n - at) found old → Eats Comma false old new → whole ≡ Ok (found, new)
  stop whole n at found old new below before (none, same) =
      one_more (λ m. Turns m found old) n at below before ∙ rw (none, same) refl
