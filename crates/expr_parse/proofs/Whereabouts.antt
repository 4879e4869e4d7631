-- From a cursor over the tokens of a text to their places.
use Rattle.std.proofs.Common.{◌+◌, arith, ◌≡◌, ◌≤◌, ℕ, zero, suc, ◌-◌, true, List, [], ◌∷◌, length, drop, All, Ok, Err, refl}
use Rattle.std.proofs.lemmas.List.{length-map, length-drop, get_or-drop}
use Rattle.volt_text.specs.declared.token.Token.{Token}
use Rattle.sql_grammar.specs.Grammar.{Tok, G, ok, parse}
use Rattle.sql_grammar.specs.Reading.{IsRead, IsRefused}
use Rattle.sql_grammar.proofs.Readings.{read_is, refused_is}
use Rattle.expr_parse.specs.declared.fault.Fault.{Fault}
use Rattle.expr_parse.specs.declared.fault.Fault.TheVariants as fault
use Rattle.expr_parse.specs.declared.fault.ParseFault.TheVariants as parse_fault
use Rattle.expr_parse.specs.Reads.{Reads, refused_at}
use Rattle.expr_parse.specs.Cursor.{tok_of, toks, Stands}

pub drop_toks : (text : List ℕ) (n : ℕ) (ts : List Token) → toks text (drop n ts) ≡ drop n (toks text ts)
drop_toks text zero ts = refl
drop_toks text (suc n) [] = refl
drop_toks text (suc n) (t ∷ ts) = drop_toks text n ts

module _ {A : Type 0} (g : G A) (passes : ok g ≡ true) (text : List ℕ) (tokens : List Token) (from : ℕ) (within : from ≤ length tokens) where
  count : length (toks text tokens) ≡ length tokens
  count = length-map tokens (tok_of text)

  inside : from ≤ length (toks text tokens)
  inside = omega (arith, count)

  pub read_there : (x : A) (rest : List Tok) (next : ℕ) → parse g (drop from (toks text tokens)) ≡ Ok (x, rest) → next ≡ length tokens - length rest → IsRead g (toks text tokens) from x next
  read_there x rest next read e =
      let there : next ≡ length (toks text tokens) - length rest = omega (arith, count) in
      rw there (read_is g passes (toks text tokens) from inside x rest read)

  -- an answer Syntax says that nothing more was read, and where
  pub refused_there : (fault : Fault) (at place : ℕ) (rest : List Tok) → refused_at fault at ≡ parse_fault.Syntax place
      → Reads (parse g (drop from (toks text tokens))) (Err fault) rest → at ≡ length tokens - length rest → IsRefused g (toks text tokens) from place
  refused_there fault.Syntax at place rest e refused is =
      let named : place ≡ at = cc in
      let there : place ≡ length (toks text tokens) - length rest = omega (arith, count, named) in
      rw there (refused_is g passes (toks text tokens) from inside rest refused)
  refused_there fault.NoMemory at place rest e refused is = absurd cc

pub all_drop : (text : List ℕ) (n : ℕ) (ts : List Token) → All (Stands text) ts → All (Stands text) (drop n ts)
all_drop text n ts all k d h = rw (get_or-drop n ts k d) (all (n + k) d (omega (arith, h, length-drop n ts)))
