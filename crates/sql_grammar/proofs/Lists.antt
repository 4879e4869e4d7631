-- Facts on lists: two ways to cut one, what one token of it tells, and kinds in lists.
use Rattle.std.proofs.Common.{arith, ◌≡◌, Bool, true, false, not, ◌&&◌, ◌||◌, List, [], ◌∷◌, ◌++◌, length, length-append, refl, ap, sym}
use Rattle.std.specs.Prelude.{◌⊎◌}
use mathlib.Core.Logic.{inl, inr}
use Rattle.std.specs.List.{list_all}
use Rattle.sql_grammar.specs.declared.kind.Kind.{Kind}
use Rattle.sql_grammar.specs.Grammar.{Tok, is_in, apart, within}
use Rattle.sql_grammar.specs.Kinds.{same_kind}
use Rattle.sql_grammar.proofs.KindPlaces.{same_eq}

-- Tests

pub both : {a b : Bool} → a && b ≡ true → (a ≡ true) × (b ≡ true)
both {a = true} {b = true} e = (refl, refl)
both {a = true} {b = false} e = absurd cc
both {a = false} {b = b} e = absurd cc

pub either : {a b : Bool} → a || b ≡ true → (a ≡ true) ⊎ (b ≡ true)
either {a = true} {b = b} e = inl refl
either {a = false} {b = b} e = inr e

pub or_left : {a : Bool} (b : Bool) → a ≡ true → a || b ≡ true
or_left {a = true} b e = refl
or_left {a = false} b e = absurd cc

pub or_right : (a : Bool) {b : Bool} → b ≡ true → a || b ≡ true
or_right true {b} e = refl
or_right false {b} e = e

pub and_both : {a b : Bool} → a ≡ true → b ≡ true → a && b ≡ true
and_both {a = true} {b = b} e f = f
and_both {a = false} {b = b} e f = absurd cc

pub not_true : {a : Bool} → not a ≡ true → a ≡ false
not_true {a = true} e = absurd cc
not_true {a = false} e = refl

pub opposed : {a : Bool} → a ≡ false → a ≡ true → ⊥
opposed {a} e f = absurd cc

-- Kinds in lists

pub in_left : (a : Kind) (xs ys : List Kind) → is_in a xs ≡ true → is_in a (xs ++ ys) ≡ true
in_left a [] ys e = absurd cc
in_left a (x ∷ xs) ys e = elim (either e) [
  | inl h ↦ or_left (is_in a (xs ++ ys)) h
  | inr h ↦ or_right (same_kind a x) (in_left a xs ys h)
]

pub in_right : (a : Kind) (xs ys : List Kind) → is_in a ys ≡ true → is_in a (xs ++ ys) ≡ true
in_right a [] ys e = e
in_right a (x ∷ xs) ys e = or_right (same_kind a x) (in_right a xs ys e)

-- what all of a list pass, each in it passes
all_in : (p : Kind → Bool) (a : Kind) (xs : List Kind) → list_all p xs ≡ true → is_in a xs ≡ true → p a ≡ true
all_in p a [] h e = absurd cc
all_in p a (x ∷ xs) h e = elim (either e) [
  | inl s ↦ rw (same_eq a x s) (both h).0
  | inr s ↦ all_in p a xs (both h).1 s
]

pub apart_none : (a : Kind) (xs ys : List Kind) → apart xs ys ≡ true → is_in a xs ≡ true → is_in a ys ≡ true → ⊥
apart_none a xs ys h e f = opposed (not_true (all_in (λ k. not (is_in k ys)) a xs h e)) f

pub within_in : (a : Kind) (xs ys : List Kind) → within xs ys ≡ true → is_in a xs ≡ true → is_in a ys ≡ true
within_in a xs ys h e = all_in (λ k. is_in k ys) a xs h e

-- Two ways to cut a list

pub data Cut (us vs prefix ws : List Tok) : Type 0 where
  -- the first piece is longer than the other
  long : (w : Tok) (more : List Tok) → us ≡ prefix ++ w ∷ more → ws ≡ w ∷ (more ++ vs) → Cut us vs prefix ws
  same : us ≡ prefix → vs ≡ ws → Cut us vs prefix ws
  short : (w : Tok) (more : List Tok) → prefix ≡ us ++ w ∷ more → vs ≡ w ∷ (more ++ ws) → Cut us vs prefix ws

longer : {u : Tok} {us vs prefix ws : List Tok} → Cut us vs prefix ws → Cut (u ∷ us) vs (u ∷ prefix) ws
longer {u} (long w more e f) = long w more (ap (λ xs. u ∷ xs) e) f
longer {u} (same e f) = same (ap (λ xs. u ∷ xs) e) f
longer {u} (short w more e f) = short w more (ap (λ xs. u ∷ xs) e) f

pub cut : (us vs prefix ws : List Tok) → us ++ vs ≡ prefix ++ ws → Cut us vs prefix ws
cut [] vs [] ws e = same refl e
cut [] vs (f ∷ fs) ws e = short f fs refl e
cut (u ∷ us) vs [] ws e = long u us refl (sym e)
cut (u ∷ us) vs (f ∷ fs) ws e =
    let head : u ≡ f = cc in
    let tail : us ++ vs ≡ fs ++ ws = cc in
    rw (← head) (longer (cut us vs fs ws tail))

-- What one token tells

-- the tokens are none, or begin as the rest does
abbrev pub Meets : List Tok → List Tok → Type 0
Meets [] rest = Unit {0}
Meets (w ∷ ws) [] = ⊥
Meets (w ∷ ws) (r ∷ rs) = w ≡ r

pub meets_nil : (ws : List Tok) → Meets ws [] → ws ≡ []
meets_nil [] m = refl
meets_nil (w ∷ ws) m = absurd m

pub meets_append : (f ws rest : List Tok) → Meets ws rest → Meets (f ++ ws) (f ++ rest)
meets_append [] ws rest m = m
meets_append (x ∷ f) ws rest m = refl

pub meets_first : (w : Tok) (xs ys rest : List Tok) → Meets (w ∷ xs) rest → Meets (w ∷ ys) rest
meets_first w xs ys [] m = m
meets_first w xs ys (r ∷ rest) m = m

pub no_cons : {x : Tok} {xs : List Tok} → x ∷ xs ≡ [] → ⊥
no_cons e = absurd cc

pub append_none : (xs ys : List Tok) → xs ++ ys ≡ [] → (xs ≡ []) × (ys ≡ [])
append_none [] ys e = (refl, e)
append_none (x ∷ xs) ys e = absurd (no_cons e)

pub same_prefix : (prefix ys : List Tok) → prefix ++ ys ≡ ys → prefix ≡ []
same_prefix [] ys e = refl
same_prefix (x ∷ xs) ys e = absurd (omega (arith, ap length e, length-append (x ∷ xs) ys))
