-- What was read or refused, by places in the whole list.
use Rattle.std.proofs.Common.{arith, ◌≡◌, ◌≤◌, ℕ, ◌+◌, ◌-◌, true, List, [], ◌∷◌, ◌++◌, length, take, drop, length-append, length-drop, append_assoc, append-nil, refl, ap, sym, ◌∙◌}
use Rattle.std.specs.Prelude.{Ok, Err}
use Rattle.std.proofs.lemmas.List.{take_at}
use mathlib.Core.Logic.{inl, inr}
use Rattle.sql_grammar.specs.Grammar.{Tok, G, Derives, Starts, IsPrefix, at, ok, parse}
use Rattle.sql_grammar.specs.Reading.{part, Stops, IsRead, IsRefused}
use Rattle.sql_grammar.proofs.Lists.{no_cons}
use Rattle.sql_grammar.proofs.Langs.{Read, Refused}
use Rattle.sql_grammar.proofs.Exact.{exact}

-- A prefix and a rest, and the places of both

module _ (ts : List Tok) (from : ℕ) (prefix rest : List Tok) (within : from ≤ length ts) (e : drop from ts ≡ prefix ++ rest) where
  lengths : from + length prefix + length rest ≡ length ts
  lengths = omega (arith, ap length e, length-append prefix rest, length-drop from ts)

  pub end_is : length ts - length rest ≡ from + length prefix
  end_is = omega (arith, lengths)

  pub part_is : part from (length ts - length rest) ts ≡ prefix
  part_is =
      let n : length ts - length rest - from ≡ length prefix = omega (arith, lengths) in
      ap (λ k. take k (drop from ts)) n ∙ ap (take (length prefix)) e ∙ take_at prefix rest (length prefix) refl

  pub part_more : (z : Tok) (zs : List Tok) → rest ≡ z ∷ zs → part from (length ts - length rest + 1) ts ≡ prefix ++ z ∷ []
  part_more z zs f =
      let n : length ts - length rest + 1 - from ≡ length (prefix ++ z ∷ []) = omega (arith, lengths, length-append prefix (z ∷ [])) in
      let all : drop from ts ≡ (prefix ++ z ∷ []) ++ zs = e ∙ ap (λ us. prefix ++ us) f ∙ sym (append_assoc prefix (z ∷ []) zs) in
      ap (λ k. take k (drop from ts)) n ∙ ap (take (length (prefix ++ z ∷ []))) all ∙ take_at (prefix ++ z ∷ []) zs (length (prefix ++ z ∷ [])) refl

  -- what one token of the rest rules out, that token rules out
  pub stopped : {A : Type 0} (g : G A) → ((z : Tok) (zs more : List Tok) → rest ≡ z ∷ zs → IsPrefix g (prefix ++ z ∷ more) → ⊥) → Stops g ts from (length ts - length rest)
  stopped g none h more f = go rest refl
    where
      go : (us : List Tok) → rest ≡ us → ⊥
      go [] k = omega (arith, lengths, ap length k)
      go (z ∷ zs) k = none z zs more k (rw (part_more z zs k, append_assoc) at f)

module _ {A : Type 0} (g : G A) (o : ok g ≡ true) (ts : List Tok) (from : ℕ) (within : from ≤ length ts) where
  read : (x : A) (rest : List Tok) → Read (Derives g) (Starts g) (at g (drop from ts)) (drop from ts) x rest → IsRead g ts from x (length ts - length rest)
  read x rest r = record {
    from_on = omega (arith, lengths ts from r.prefix rest within r.is_prefix);
    within = omega arith;
    derives = rw (part_is ts from r.prefix rest within r.is_prefix) r.reads;
    only = λ y d. (r.only [] y tt (rw (append-nil r.prefix, ← part_is ts from r.prefix rest within r.is_prefix) d)).1;
    stops = stopped ts from r.prefix rest within r.is_prefix g (λ z zs more e f. none z zs more e f);
  }
    where
      none : (z : Tok) (zs more : List Tok) → rest ≡ z ∷ zs → IsPrefix g (r.prefix ++ z ∷ more) → ⊥
      none z zs more e (inl s) = no_cons (r.ends (z ∷ more) (rw e refl) s)
      none z zs more e (inr (y, d)) = no_cons (r.only (z ∷ more) y (rw e refl) d).0

  refused : (rest : List Tok) → Refused (Derives g) (Starts g) (at g (drop from ts)) (drop from ts) rest → IsRefused g ts from (length ts - length rest)
  refused rest r = record {
    from_on = omega (arith, lengths ts from r.prefix rest within r.is_prefix);
    within = omega arith;
    starts = rw (part_is ts from r.prefix rest within r.is_prefix) r.starts;
    none = λ y d. r.none [] y tt (rw (append-nil r.prefix, ← part_is ts from r.prefix rest within r.is_prefix) d);
    stops = stopped ts from r.prefix rest within r.is_prefix g (λ z zs more e f. none z zs more e f);
  }
    where
      none : (z : Tok) (zs more : List Tok) → rest ≡ z ∷ zs → IsPrefix g (r.prefix ++ z ∷ more) → ⊥
      none z zs more e (inl s) = no_cons (r.ends (z ∷ more) (rw e refl) s)
      none z zs more e (inr (y, d)) = r.none (z ∷ more) y (rw e refl) d

  -- what the rule reads of the tokens from a place on is read, and what it refuses is refused
  pub read_is : (x : A) (rest : List Tok) → parse g (drop from ts) ≡ Ok (x, rest) → IsRead g ts from x (length ts - length rest)
  read_is x rest e = read x rest (rw e at (exact g o (drop from ts)))

  pub refused_is : (rest : List Tok) → parse g (drop from ts) ≡ Err rest → IsRefused g ts from (length ts - length rest)
  refused_is rest e = refused rest (rw e at (exact g o (drop from ts)))
