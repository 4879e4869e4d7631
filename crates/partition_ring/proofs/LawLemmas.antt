-- Places and order of copies.
use Rattle.std.proofs.Common.{◌≡◌, ℕ, ◌+◌, ◌/◌, ◌%◌, ◌<◌, ◌≤◌, Bool, true, false, cond, ◌||◌, List, [], ◌∷◌, arith, refl, sym, inl, inr}
use Rattle.std.proofs.lemmas.Bool.{cases_lt, cond_both}
use Rattle.std.proofs.lemmas.Bool.Decides.{nat_tests}
use Rattle.std.proofs.lemmas.Nat.{div-add-mod'}
use Rattle.std.proofs.Math.Nat.{mul-le-mul_left}
use Rattle.std.specs.List.{list_any, AllByRecursion}
use Rattle.partition_ring.specs.Placement.{IsLayout, slot_of, host_of, comes_before, with_copy, with_copies, Rises}

-- numbers that are less than h apart leave unlike remainders
remainders_apart : (a b h : ℕ) → a < b → b < a + h → a % h ≡ b % h → ⊥
remainders_apart a b h above near same =
    elim (cases_lt (a / h) (b / h)) [
      | inl lt ↦ omega (arith, div-add-mod' a h, div-add-mod' b h, mul-le-mul_left h (more lt), same)
      | inr le ↦ omega (arith, div-add-mod' a h, div-add-mod' b h, mul-le-mul_left h le, same)
    ]
  where
    more : a / h < b / h → a / h + 1 ≤ b / h
    more lt = omega arith

pub hosts_apart : (hosts sites k part i j : ℕ) → IsLayout hosts sites k → i ≤ k → j ≤ k → host_of hosts (slot_of k part i) ≡ host_of hosts (slot_of k part j) → i ≡ j
hosts_apart hosts sites k part i j is i-le j-le same =
    let enough : k + 1 ≤ hosts = grind (arith, nat_tests, is.accepted) in
    elim (cases_lt i j) [
      | inl lt ↦ absurd (remainders_apart (slot_of k part i) (slot_of k part j) hosts (omega arith) (omega arith) same)
      | inr le ↦ elim (cases_lt j i) [
        | inl lt ↦ absurd (remainders_apart (slot_of k part j) (slot_of k part i) hosts (omega arith) (omega arith) (sym same))
        | inr ge ↦ omega arith
      ]
    ]

-- ---- order

before_trans : (a b c : ℕ × ℕ) → comes_before a b ≡ true → comes_before b c ≡ true → comes_before a c ≡ true
before_trans a b c p q = grind (arith, nat_tests)

all_before : (a b : ℕ × ℕ) (copies : List (ℕ × ℕ)) → comes_before a b ≡ true → AllByRecursion (λ c. comes_before b c ≡ true) copies → AllByRecursion (λ c. comes_before a c ≡ true) copies
all_before a b [] p all = tt
all_before a b (c ∷ copies) p all = (before_trans a b c p all.0, all_before a b copies p all.1)

all_with_copy : (P : ℕ × ℕ → Type 0) (copies : List (ℕ × ℕ)) (copy : ℕ × ℕ) → AllByRecursion P copies → P copy → AllByRecursion P (with_copy copies copy)
all_with_copy P [] copy all p = (p, tt)
all_with_copy P (first ∷ copies) copy all p =
    cond_both (comes_before copy first) (copy ∷ first ∷ copies) (cond (comes_before first copy) (first ∷ with_copy copies copy) (first ∷ copies)) (AllByRecursion P)
    (λ before. (p, all))
    (λ not_before. cond_both (comes_before first copy) (first ∷ with_copy copies copy) (first ∷ copies) (AllByRecursion P)
    (λ after. (all.0, all_with_copy P copies copy all.1 p)) (λ same. all))

rises_with_copy : (copies : List (ℕ × ℕ)) (copy : ℕ × ℕ) → Rises copies → Rises (with_copy copies copy)
rises_with_copy [] copy rises = (tt, tt)
rises_with_copy (first ∷ copies) copy rises =
    cond_both (comes_before copy first) (copy ∷ first ∷ copies) (cond (comes_before first copy) (first ∷ with_copy copies copy) (first ∷ copies)) Rises
    (λ before. ((before, all_before copy first copies before rises.0), rises))
    (λ not_before. cond_both (comes_before first copy) (first ∷ with_copy copies copy) (first ∷ copies) Rises
    (λ after. (all_with_copy (λ later. comes_before first later ≡ true) copies copy rises.0 after, rises_with_copy copies copy rises.1))
    (λ same. rises))

pub rises : (copies more : List (ℕ × ℕ)) → Rises copies → Rises (with_copies copies more)
rises copies [] h = h
rises copies (copy ∷ more) h = rises (with_copy copies copy) more (rises_with_copy copies copy h)

-- copies of which neither comes before the other are one
alike : (a b : ℕ × ℕ) → comes_before a b ≡ false → comes_before b a ≡ false → a ≡ b
alike a b p q =
    let start : a.0 ≡ b.0 = grind (arith, nat_tests) in
    let slot : a.1 ≡ b.1 = grind (arith, nat_tests) in
    λ i. (start i, slot i)

any_with_copy : (test : ℕ × ℕ → Bool) (copies : List (ℕ × ℕ)) (copy : ℕ × ℕ) → list_any test (with_copy copies copy) ≡ (test copy || list_any test copies)
any_with_copy test [] copy = refl
any_with_copy test (first ∷ copies) copy = grind (arith, nat_tests, any_with_copy test copies copy, alike copy first)

any_with_copies : (test : ℕ × ℕ → Bool) (copies more : List (ℕ × ℕ)) → list_any test (with_copies copies more) ≡ (list_any test copies || list_any test more)
any_with_copies test copies [] = grind arith
any_with_copies test copies (copy ∷ more) = grind (arith, any_with_copies test (with_copy copies copy) more, any_with_copy test copies copy)

-- the same copies are there, whatever test tells them apart
pub same_copies : (test : ℕ × ℕ → Bool) (more : List (ℕ × ℕ)) → list_any test (with_copies [] more) ≡ list_any test more
same_copies test more = any_with_copies test [] more
