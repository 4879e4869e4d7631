-- Tokens have one answer.
use Rattle.std.proofs.Common.{arith, ◌≡◌, ◌≤◌, ◌<◌, ℕ, ◌+◌, ◌-◌, List, ◌++◌, length, take, drop, take-append-drop, ap, sym, ◌∙◌}
use Rattle.std.proofs.lemmas.List.{take-take}
use mathlib.Core.Logic.{inl, inr}
use Rattle.sql_grammar.specs.Grammar.{Tok, G, IsPrefix}
use Rattle.sql_grammar.specs.Reading.{part, Stops, IsRead, IsRefused}

-- a longer part begins with a shorter one
longer : (ts : List Tok) (from n m : ℕ) → from ≤ n → n ≤ m → part from m ts ≡ part from n ts ++ drop (n - from) (part from m ts)
longer ts from n m h k =
    let cut : take (n - from) (part from m ts) ≡ part from n ts = take-take (n - from) (m - from) (drop from ts) (omega arith) in
    sym (take-append-drop (n - from) (part from m ts)) ∙ ap (λ us. us ++ drop (n - from) (part from m ts)) cut

module _ {A : Type 0} (g : G A) (ts : List Tok) (from : ℕ) where
  sooner : (n m : ℕ) → Stops g ts from n → from ≤ n → m ≤ length ts → IsPrefix g (part from m ts) → n < m → ⊥
  sooner n m stops h k f l =
      stops (omega arith) (drop (n + 1 - from) (part from m ts)) (rw (longer ts from (n + 1) m (omega arith) (omega arith)) at f)

  one : (n m : ℕ) → Stops g ts from n → Stops g ts from m → from ≤ n → from ≤ m → n ≤ length ts → m ≤ length ts
      → IsPrefix g (part from n ts) → IsPrefix g (part from m ts) → n ≡ m
  one n m s t h k a b e f =
      let less : n < m → ⊥ = λ l. sooner n m s h b f l in
      let more : m < n → ⊥ = λ l. sooner m n t k a e l in
      omega arith

  pub one_next : (x y : A) (n m : ℕ) → IsRead g ts from x n → IsRead g ts from y m → n ≡ m
  one_next x y n m r s = one n m r.stops s.stops r.from_on s.from_on r.within s.within (inr (x, r.derives)) (inr (y, s.derives))

  pub one_tree : (x y : A) (n m : ℕ) → IsRead g ts from x n → IsRead g ts from y m → x ≡ y
  one_tree x y n m r s = s.only x (rw (one_next x y n m r s) at r.derives)

  pub one_place : (n m : ℕ) → IsRefused g ts from n → IsRefused g ts from m → n ≡ m
  one_place n m r s = one n m r.stops s.stops r.from_on s.from_on r.within s.within (inl r.starts) (inl s.starts)

  pub not_both : (x : A) (n m : ℕ) → IsRead g ts from x n → IsRefused g ts from m → ⊥
  not_both x n m r s = s.none x (rw (one n m r.stops s.stops r.from_on s.from_on r.within s.within (inr (x, r.derives)) (inl s.starts)) at r.derives)
