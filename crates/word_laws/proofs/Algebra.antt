-- Words as sets: what is lost, admitted and named in a word that was made of others, and when two words are the same.
use Rattle.std.proofs.Common.{◌≡◌, ◌+◌, ◌<◌, ◌≤◌, Bool, true, false, List, [], ◌∷◌, length, get_or, refl, sym, ap, subst, ◌∙◌, ◌⊎◌, inl, inr, ◌==◌, arith, true≢false}
use Rattle.std.proofs.lemmas.Bool.{cases_Bool, cond_both, cases_eq, or_cases, and_parts, and_from, or_left, or_right, eqb-true, eqb-false, eq-eqb, ltb-true, ltb-false}
use Rattle.std.proofs.lemmas.List.{length-map}
use Rattle.std.specs.Prelude.{ℕ, ◌&&◌, ◌||◌, map, if◌then◌else◌, nat_lt}
use Rattle.std.specs.List.{AllByRecursion, list_any, list_all}
use Rattle.volt_wire.specs.Word.{Membership}
use Rattle.cluster_model.specs.Words.{is_in, same_numbers, same_pairs, with_number, with_numbers, with_pair, with_pairs, term_of, same_word, union, with_lost, with_admitted, admits}
use Rattle.cluster_model.specs.World.{rest}
use Rattle.cluster_model.specs.Laws.{RiseFrom}
use Rattle.word_laws.specs.Histories.{Within, Alike, names}
use Rattle.cluster_steps.proofs.Lists.{not-both, eqb-same, list_all-from, list_any-in, list_all-any, rise-lower}

-- ---- a number more in a rising list

-- what is in the list with the number is the number, or was in it
pub in-with_number : (x s : ℕ) (ys : List ℕ) → is_in s (with_number x ys) ≡ true → (x ≡ s) ⊎ (is_in s ys ≡ true)
in-with_number x s [] e = elim (or_cases (x == s) false e) [
  | inl k ↦ inl (eqb-true x s k)
  | inr k ↦ inr k
]
in-with_number x s (y ∷ ys) h = cond_both (x == y) (y ∷ ys) (if nat_lt x y then x ∷ y ∷ ys else y ∷ with_number x ys) (λ l. is_in s l ≡ true → (x ≡ s) ⊎ (is_in s (y ∷ ys) ≡ true))
    (λ _ e. inr e)
    (λ _. cond_both (nat_lt x y) (x ∷ y ∷ ys) (y ∷ with_number x ys) (λ l. is_in s l ≡ true → (x ≡ s) ⊎ (is_in s (y ∷ ys) ≡ true))
    (λ _ e. elim (or_cases (x == s) (is_in s (y ∷ ys)) e) [
      | inl k ↦ inl (eqb-true x s k)
      | inr k ↦ inr k
    ])
    (λ _ e. elim (or_cases (y == s) (is_in s (with_number x ys)) e) [
      | inl k ↦ inr (or_left (y == s) (is_in s ys) k)
      | inr k ↦ elim (in-with_number x s ys k) [
        | inl j ↦ inl j
        | inr j ↦ inr (or_right (y == s) (is_in s ys) j)
      ]
    ])) h

pub with_number-in : (x : ℕ) (ys : List ℕ) → is_in x (with_number x ys) ≡ true
with_number-in x [] = or_left (x == x) false (eqb-same x)
with_number-in x (y ∷ ys) = cond_both (x == y) (y ∷ ys) (if nat_lt x y then x ∷ y ∷ ys else y ∷ with_number x ys) (λ l. is_in x l ≡ true)
    (λ e. or_left (y == x) (is_in x ys) (eq-eqb y x (sym (eqb-true x y e))))
    (λ _. cond_both (nat_lt x y) (x ∷ y ∷ ys) (y ∷ with_number x ys) (λ l. is_in x l ≡ true)
    (λ _. or_left (x == x) (is_in x (y ∷ ys)) (eqb-same x))
    (λ _. or_right (y == x) (is_in x (with_number x ys)) (with_number-in x ys)))

pub with_number-keeps : (x s : ℕ) (ys : List ℕ) → is_in s ys ≡ true → is_in s (with_number x ys) ≡ true
with_number-keeps x s [] e = absurd (true≢false (sym e))
with_number-keeps x s (y ∷ ys) e = cond_both (x == y) (y ∷ ys) (if nat_lt x y then x ∷ y ∷ ys else y ∷ with_number x ys) (λ l. is_in s l ≡ true)
    (λ _. e)
    (λ _. cond_both (nat_lt x y) (x ∷ y ∷ ys) (y ∷ with_number x ys) (λ l. is_in s l ≡ true)
    (λ _. or_right (x == s) (is_in s (y ∷ ys)) e)
    (λ _. elim (or_cases (y == s) (is_in s ys) e) [
      | inl k ↦ or_left (y == s) (is_in s (with_number x ys)) k
      | inr k ↦ or_right (y == s) (is_in s (with_number x ys)) (with_number-keeps x s ys k)
    ]))

pub with_number-rises : (low x : ℕ) (ys : List ℕ) → low ≤ x → RiseFrom low ys → RiseFrom low (with_number x ys)
with_number-rises low x [] l h = (l, tt)
with_number-rises low x (y ∷ ys) l h = cond_both (x == y) (y ∷ ys) (if nat_lt x y then x ∷ y ∷ ys else y ∷ with_number x ys) (RiseFrom low)
    (λ _. h)
    (λ n. cond_both (nat_lt x y) (x ∷ y ∷ ys) (y ∷ with_number x ys) (RiseFrom low)
    (λ e. (l, (step x y (ltb-true x y e), h.1)))
    (λ e. (h.0, with_number-rises (y + 1) x ys (over x y (eqb-false x y n) (ltb-false x y e)) h.1)))
  where
    step : (x y : ℕ) → x < y → x + 1 ≤ y
    step x y l = omega arith

    over : (x y : ℕ) → (x ≡ y → ⊥) → y ≤ x → y + 1 ≤ x
    over x y n l = omega arith

-- ---- more numbers

-- what is in two lists together is in one of them
pub in-with_numbers : (s : ℕ) (xs ys : List ℕ) → is_in s (with_numbers xs ys) ≡ true → (is_in s xs ≡ true) ⊎ (is_in s ys ≡ true)
in-with_numbers s [] ys e = inr e
in-with_numbers s (x ∷ xs) ys e = elim (in-with_number x s (with_numbers xs ys) e) [
  | inl k ↦ inl (or_left (x == s) (is_in s xs) (eq-eqb x s k))
  | inr k ↦ elim (in-with_numbers s xs ys k) [
    | inl j ↦ inl (or_right (x == s) (is_in s xs) j)
    | inr j ↦ inr j
  ]
]

pub with_numbers-left : (s : ℕ) (xs ys : List ℕ) → is_in s xs ≡ true → is_in s (with_numbers xs ys) ≡ true
with_numbers-left s [] ys e = absurd (true≢false (sym e))
with_numbers-left s (x ∷ xs) ys e = elim (or_cases (x == s) (is_in s xs) e) [
  | inl k ↦ subst (λ t. is_in t (with_number x (with_numbers xs ys)) ≡ true) (eqb-true x s k) (with_number-in x (with_numbers xs ys))
  | inr k ↦ with_number-keeps x s (with_numbers xs ys) (with_numbers-left s xs ys k)
]

pub with_numbers-right : (s : ℕ) (xs ys : List ℕ) → is_in s ys ≡ true → is_in s (with_numbers xs ys) ≡ true
with_numbers-right s [] ys e = e
with_numbers-right s (x ∷ xs) ys e = with_number-keeps x s (with_numbers xs ys) (with_numbers-right s xs ys e)

pub with_numbers-rises : (low : ℕ) (xs ys : List ℕ) → RiseFrom low xs → RiseFrom low ys → RiseFrom low (with_numbers xs ys)
with_numbers-rises low [] ys h k = k
with_numbers-rises low (x ∷ xs) ys h k = with_number-rises low x (with_numbers xs ys) h.0 (with_numbers-rises low xs ys (rise-lower low (x + 1) xs (omega (arith, h.0)) h.1) k)

-- ---- pairs by their first numbers

-- the starts that were admitted
abbrev pub firsts : List (ℕ × ℕ) → List ℕ
firsts xs = map (λ a. a.0) xs

-- each of these starts is the host's that stands behind it
abbrev pub StartsOwned : (ℕ → ℕ) → List (ℕ × ℕ) → Type 0
StartsOwned owner xs = AllByRecursion (λ a. owner a.0 ≡ a.1) xs

-- or before it
abbrev pub HostsOwned : (ℕ → ℕ) → List (ℕ × ℕ) → Type 0
HostsOwned owner xs = AllByRecursion (λ m. owner m.1 ≡ m.0) xs

-- a start is the first number of a pair exactly where it is among the first numbers
pub any-firsts : (s : ℕ) (xs : List (ℕ × ℕ)) → list_any (λ a. a.0 == s) xs ≡ is_in s (firsts xs)
any-firsts s [] = refl
any-firsts s (x ∷ xs) = ap (λ b. (x.0 == s) || b) (any-firsts s xs)

pub firsts-with_pair : (x : ℕ × ℕ) (ys : List (ℕ × ℕ)) → firsts (with_pair x ys) ≡ with_number x.0 (firsts ys)
firsts-with_pair x [] = refl
firsts-with_pair x (y ∷ ys) = choice (x.0 == y.0) (nat_lt x.0 y.0) (firsts-with_pair x ys)
  where
    choice : (b c : Bool) → firsts (with_pair x ys) ≡ with_number x.0 (firsts ys)
        → firsts (if b then y ∷ ys else if c then x ∷ y ∷ ys else y ∷ with_pair x ys) ≡ (if b then y.0 ∷ firsts ys else if c then x.0 ∷ y.0 ∷ firsts ys else y.0 ∷ with_number x.0 (firsts ys))
    choice true c e = refl
    choice false true e = refl
    choice false false e = ap (λ l. y.0 ∷ l) e

pub firsts-with_pairs : (xs ys : List (ℕ × ℕ)) → firsts (with_pairs xs ys) ≡ with_numbers (firsts xs) (firsts ys)
firsts-with_pairs [] ys = refl
firsts-with_pairs (x ∷ xs) ys = firsts-with_pair x (with_pairs xs ys) ∙ ap (with_number x.0) (firsts-with_pairs xs ys)

pub admits-firsts : (w : Membership) (s : ℕ) → admits w s ≡ is_in s (firsts w.admitted)
admits-firsts w s = any-firsts s w.admitted

with_pair-all : (P : ℕ × ℕ → Type 0) (x : ℕ × ℕ) (ys : List (ℕ × ℕ)) → P x → AllByRecursion P ys → AllByRecursion P (with_pair x ys)
with_pair-all P x [] p h = (p, tt)
with_pair-all P x (y ∷ ys) p h = cond_both (x.0 == y.0) (y ∷ ys) (if nat_lt x.0 y.0 then x ∷ y ∷ ys else y ∷ with_pair x ys) (AllByRecursion P)
    (λ _. h)
    (λ _. cond_both (nat_lt x.0 y.0) (x ∷ y ∷ ys) (y ∷ with_pair x ys) (AllByRecursion P) (λ _. (p, h)) (λ _. (h.0, with_pair-all P x ys p h.1)))

with_pairs-all : (P : ℕ × ℕ → Type 0) (xs ys : List (ℕ × ℕ)) → AllByRecursion P xs → AllByRecursion P ys → AllByRecursion P (with_pairs xs ys)
with_pairs-all P [] ys h k = k
with_pairs-all P (x ∷ xs) ys h k = with_pair-all P x (with_pairs xs ys) h.0 (with_pairs-all P xs ys h.1 k)

-- ---- one word within another

-- one word within another, and one word made of another
pub within-refl : (v : Membership) → Within v v
within-refl v = record { lost = λ s e. e; admitted = λ s e. e }

pub within-trans : (u v w : Membership) → Within u v → Within v w → Within u w
within-trans u v w h k = record { lost = λ s e. k.lost s (h.lost s e); admitted = λ s e. k.admitted s (h.admitted s e) }

-- ---- a start more that is lost, or admitted

-- a word with a start more that is lost
pub in-with_lost : (o s : ℕ) (w : Membership) → is_in s (with_lost o w).lost ≡ true → (o ≡ s) ⊎ (is_in s w.lost ≡ true)
in-with_lost o s w e = in-with_number o s w.lost e

pub with_lost-in : (o : ℕ) (w : Membership) → is_in o (with_lost o w).lost ≡ true
with_lost-in o w = with_number-in o w.lost

pub within-with_lost : (o : ℕ) (w : Membership) → Within w (with_lost o w)
within-with_lost o w = record { lost = λ s e. with_number-keeps o s w.lost e; admitted = λ s e. e }

pub with_lost-rises : (o : ℕ) (w : Membership) → RiseFrom 0 w.lost → RiseFrom 0 (with_lost o w).lost
with_lost-rises o w h = with_number-rises 0 o w.lost (omega arith) h

-- the starts that the word has admitted then
pub admits-of-with_admitted : (j h s : ℕ) (w : Membership) → admits (with_admitted j h w) s ≡ is_in s (with_number j (firsts w.admitted))
admits-of-with_admitted j h s w = any-firsts s (with_pair (j, h) w.admitted) ∙ ap (is_in s) (firsts-with_pair (j, h) w.admitted)

-- a word with a start more that is admitted
pub admits-with_admitted : (j h s : ℕ) (w : Membership) → admits (with_admitted j h w) s ≡ true → (j ≡ s) ⊎ (admits w s ≡ true)
admits-with_admitted j h s w e = elim (in-with_number j s (firsts w.admitted) (sym (admits-of-with_admitted j h s w) ∙ e)) [
  | inl k ↦ inl k
  | inr k ↦ inr (admits-firsts w s ∙ k)
]

pub with_admitted-admits : (j h : ℕ) (w : Membership) → admits (with_admitted j h w) j ≡ true
with_admitted-admits j h w = admits-of-with_admitted j h j w ∙ with_number-in j (firsts w.admitted)

pub with_admitted-keeps : (j h s : ℕ) (w : Membership) → admits w s ≡ true → admits (with_admitted j h w) s ≡ true
with_admitted-keeps j h s w e = admits-of-with_admitted j h s w ∙ with_number-keeps j s (firsts w.admitted) (sym (admits-firsts w s) ∙ e)

pub within-with_admitted : (j h : ℕ) (w : Membership) → Within w (with_admitted j h w)
within-with_admitted j h w = record { lost = λ s e. e; admitted = λ s e. with_admitted-keeps j h s w e }

-- what is within the word once it has admitted j was within it before, if it hasn't admitted j itself
pub within-with_admitted-back : (j h : ℕ) (v w : Membership) → Within v (with_admitted j h w) → admits v j ≡ false → Within v w
within-with_admitted-back j h v w i n = record {
  lost = i.lost;
  admitted = λ s e. elim (admits-with_admitted j h s w (i.admitted s e)) [
    | inl k ↦ absurd (true≢false (sym (subst (λ t. admits v t ≡ true) (sym k) e) ∙ n))
    | inr k ↦ k
  ];
}

pub with_admitted-rises : (j h : ℕ) (w : Membership) → RiseFrom 0 (firsts w.admitted) → RiseFrom 0 (firsts (with_admitted j h w).admitted)
with_admitted-rises j h w r = subst (RiseFrom 0) (sym (firsts-with_pair (j, h) w.admitted)) (with_number-rises 0 j (firsts w.admitted) (omega arith) r)

pub with_admitted-owned : (owner : ℕ → ℕ) (j h : ℕ) (w : Membership) → owner j ≡ h → StartsOwned owner w.admitted → StartsOwned owner (with_admitted j h w).admitted
with_admitted-owned owner j h w o k = with_pair-all (λ a. owner a.0 ≡ a.1) (j, h) w.admitted o k

-- ---- what two words say together

-- what two words say together
pub lost-union : (v w : Membership) (s : ℕ) → is_in s (union v w).lost ≡ true → (is_in s v.lost ≡ true) ⊎ (is_in s w.lost ≡ true)
lost-union v w s e = in-with_numbers s v.lost w.lost e

pub admits-of-union : (v w : Membership) (s : ℕ) → admits (union v w) s ≡ is_in s (with_numbers (firsts v.admitted) (firsts w.admitted))
admits-of-union v w s = any-firsts s (with_pairs v.admitted w.admitted) ∙ ap (is_in s) (firsts-with_pairs v.admitted w.admitted)

pub admits-union : (v w : Membership) (s : ℕ) → admits (union v w) s ≡ true → (admits v s ≡ true) ⊎ (admits w s ≡ true)
admits-union v w s e = elim (in-with_numbers s (firsts v.admitted) (firsts w.admitted) (sym (admits-of-union v w s) ∙ e)) [
  | inl k ↦ inl (admits-firsts v s ∙ k)
  | inr k ↦ inr (admits-firsts w s ∙ k)
]

pub within-union-left : (v w : Membership) → Within v (union v w)
within-union-left v w = record {
  lost = λ s e. with_numbers-left s v.lost w.lost e;
  admitted = λ s e. admits-of-union v w s ∙ with_numbers-left s (firsts v.admitted) (firsts w.admitted) (sym (admits-firsts v s) ∙ e);
}

pub within-union-right : (v w : Membership) → Within w (union v w)
within-union-right v w = record {
  lost = λ s e. with_numbers-right s v.lost w.lost e;
  admitted = λ s e. admits-of-union v w s ∙ with_numbers-right s (firsts v.admitted) (firsts w.admitted) (sym (admits-firsts w s) ∙ e);
}

pub union-lost-rises : (v w : Membership) → RiseFrom 0 v.lost → RiseFrom 0 w.lost → RiseFrom 0 (union v w).lost
union-lost-rises v w h k = with_numbers-rises 0 v.lost w.lost h k

pub union-admitted-rises : (v w : Membership) → RiseFrom 0 (firsts v.admitted) → RiseFrom 0 (firsts w.admitted) → RiseFrom 0 (firsts (union v w).admitted)
union-admitted-rises v w h k = subst (RiseFrom 0) (sym (firsts-with_pairs v.admitted w.admitted)) (with_numbers-rises 0 (firsts v.admitted) (firsts w.admitted) h k)

pub union-owned : (owner : ℕ → ℕ) (v w : Membership) → StartsOwned owner v.admitted → StartsOwned owner w.admitted → StartsOwned owner (union v w).admitted
union-owned owner v w h k = with_pairs-all (λ a. owner a.0 ≡ a.1) v.admitted w.admitted h k

-- ---- whom a word names

-- whom a word names
pub names-first : (w : Membership) (s : ℕ) → list_any (λ m. m.1 == s) w.first ≡ true → names w s ≡ true
names-first w s e = or_left (list_any (λ m. m.1 == s) w.first) (admits w s) e

pub names-admits : (w : Membership) (s : ℕ) → admits w s ≡ true → names w s ≡ true
names-admits w s e = or_right (list_any (λ m. m.1 == s) w.first) (admits w s) e

pub names-cases : (w : Membership) (s : ℕ) → names w s ≡ true → (list_any (λ m. m.1 == s) w.first ≡ true) ⊎ (admits w s ≡ true)
names-cases w s e = or_cases (list_any (λ m. m.1 == s) w.first) (admits w s) e

pub names-within : (v w : Membership) (s : ℕ) → v.first ≡ w.first → Within v w → names v s ≡ true → names w s ≡ true
names-within v w s f i e = elim (names-cases v s e) [
  | inl k ↦ names-first w s (ap (list_any (λ m. m.1 == s)) (sym f) ∙ k)
  | inr k ↦ names-admits w s (i.admitted s k)
]

pub admits-fresh : (v w : Membership) (s : ℕ) → v.first ≡ w.first → names v s ≡ false → names w s ≡ true → admits w s ≡ true
admits-fresh v w s f n e = elim (names-cases w s e) [
  | inl k ↦ absurd (true≢false (sym (names-first v s (ap (list_any (λ m. m.1 == s)) f ∙ k)) ∙ n))
  | inr k ↦ k
]

-- ---- whether a word is within another

abbrev pub within_test : Membership → Membership → Bool
within_test v w = list_all (λ s. is_in s w.lost) v.lost && list_all (λ a. admits w a.0) v.admitted

-- the test says what it should
pub within-tested : (v w : Membership) → within_test v w ≡ true → Within v w
within-tested v w e =
    let p = and_parts (list_all (λ s. is_in s w.lost) v.lost) (list_all (λ a. admits w a.0) v.admitted) e in
    record {
      lost = λ s k. let r = list_all-any (λ s. is_in s w.lost) (λ y. y == s) v.lost p.0 k in subst (λ t. is_in t w.lost ≡ true) (eqb-true r.0 s r.2) r.1;
      admitted = λ s k. let r = list_all-any (λ a. admits w a.0) (λ a. a.0 == s) v.admitted p.1 k in subst (λ t. admits w t ≡ true) (eqb-true r.0.0 s r.2) r.1;
    }

pub test-within : (v w : Membership) → Within v w → within_test v w ≡ true
test-within v w h = and_from (list_all (λ s. is_in s w.lost) v.lost) (list_all (λ a. admits w a.0) v.admitted)
    (list_all-from (λ s. is_in s w.lost) v.lost (λ s i. h.lost s (list_any-in (λ y. y == s) v.lost s i (eqb-same s))))
    (list_all-from (λ a. admits w a.0) v.admitted (λ a i. h.admitted a.0 (list_any-in (λ b. b.0 == a.0) v.admitted a i (eqb-same a.0))))

pub within-cases : (v w : Membership) → Within v w ⊎ (Within v w → ⊥)
within-cases v w = elim (cases_Bool (within_test v w)) [
  | inl p ↦ inl (within-tested v w p)
  | inr p ↦ inr (λ k. not-both (within_test v w) (test-within v w k) p)
]

-- ---- rising lists, one within another

-- what is in the one is in the other
abbrev pub Subset : List ℕ → List ℕ → Type 0
Subset xs ys = (s : ℕ) → is_in s xs ≡ true → is_in s ys ≡ true

pub rise-below : (low s : ℕ) (xs : List ℕ) → RiseFrom low xs → is_in s xs ≡ true → low ≤ s
rise-below low s [] h e = absurd (true≢false (sym e))
rise-below low s (x ∷ xs) h e = elim (or_cases (x == s) (is_in s xs) e) [
  | inl k ↦ subst (λ t. low ≤ t) (eqb-true x s k) h.0
  | inr k ↦ omega (arith, rise-below (x + 1) s xs h.1 k, h.0)
]

-- what is above y isn't y
subset-skip : (y : ℕ) (xs ys : List ℕ) → RiseFrom (y + 1) xs → Subset xs (y ∷ ys) → Subset xs ys
subset-skip y xs ys h f s e = elim (or_cases (y == s) (is_in s ys) (f s e)) [
  | inl k ↦ absurd (apart y s (eqb-true y s k) (rise-below (y + 1) s xs h e))
  | inr k ↦ k
]
  where
    apart : (y s : ℕ) → y ≡ s → y + 1 ≤ s → ⊥
    apart y s e l = omega arith

-- a rising list that is within another isn't longer, and is the same if it is as long
pub subset-length : (low : ℕ) (xs ys : List ℕ) → RiseFrom low xs → RiseFrom low ys → Subset xs ys → (length xs ≤ length ys) × (length xs ≡ length ys → xs ≡ ys)
subset-length low [] [] h k f = (omega arith, λ _. refl)
subset-length low [] (y ∷ ys) h k f = (omega arith, λ e. absurd (omega (arith, e)))
subset-length low (x ∷ xs) [] h k f = absurd (true≢false (sym (f x (or_left (x == x) (is_in x xs) (eqb-same x)))))
subset-length low (x ∷ xs) (y ∷ ys) h k f = elim (cases_eq x y) [
  | inl e ↦
      let r = subset-length (x + 1) xs ys h.1 (subst (λ t. RiseFrom (t + 1) ys) (sym e) k.1)
      (subset-skip y xs ys (subst (λ t. RiseFrom (t + 1) xs) e h.1) (λ s i. f s (or_right (x == s) (is_in s xs) i))) in
      both e r
  | inr n ↦
      let l = rise-below (y + 1) x ys k.1 (later n) in
      longer (subset-length (y + 1) (x ∷ xs) ys (l, h.1) k.1 (subset-skip y (x ∷ xs) ys (l, h.1) f))
]
  where
    both : x ≡ y → (length xs ≤ length ys) × (length xs ≡ length ys → xs ≡ ys) → (length (x ∷ xs) ≤ length (y ∷ ys)) × (length (x ∷ xs) ≡ length (y ∷ ys) → (x ∷ xs) ≡ (y ∷ ys))
    both e r = (omega (arith, r.0), λ l. λ i. e i ∷ r.1 (omega (arith, l)) i)

    longer : (length (x ∷ xs) ≤ length ys) × (length (x ∷ xs) ≡ length ys → (x ∷ xs) ≡ ys) → (length (x ∷ xs) ≤ length (y ∷ ys)) × (length (x ∷ xs) ≡ length (y ∷ ys) → (x ∷ xs) ≡ (y ∷ ys))
    longer r = (omega (arith, r.0), λ e. absurd (omega (arith, r.0, e)))

    later : (x ≡ y → ⊥) → is_in x ys ≡ true
    later n = elim (or_cases (y == x) (is_in x ys) (f x (or_left (x == x) (is_in x xs) (eqb-same x)))) [
      | inl q ↦ absurd (n (sym (eqb-true y x q)))
      | inr q ↦ q
    ]

-- two rising lists of the same numbers are one
pub numbers-alike : (low : ℕ) (xs ys : List ℕ) → RiseFrom low xs → RiseFrom low ys → Subset xs ys → Subset ys xs → xs ≡ ys
numbers-alike low xs ys h k f g =
    let a = subset-length low xs ys h k f in
    let b = subset-length low ys xs k h g in
    a.1 (omega (arith, a.0, b.0))

-- ---- equal words

-- what the model takes for the same is, where the first hosts are
pub same_numbers-is : (xs ys : List ℕ) → same_numbers xs ys ≡ true → xs ≡ ys
same_numbers-is [] [] e = refl
same_numbers-is [] (y ∷ ys) e = absurd (true≢false (sym e))
same_numbers-is (x ∷ xs) [] e = absurd (true≢false (sym e))
same_numbers-is (x ∷ xs) (y ∷ ys) e =
    let p = and_parts (x == y) (same_numbers xs ys) e in
    λ i. eqb-true x y p.0 i ∷ same_numbers-is xs ys p.1 i

pub same_numbers-refl : (xs : List ℕ) → same_numbers xs xs ≡ true
same_numbers-refl [] = refl
same_numbers-refl (x ∷ xs) = and_from (x == x) (same_numbers xs xs) (eqb-same x) (same_numbers-refl xs)

pub same_pairs-is : (xs ys : List (ℕ × ℕ)) → same_pairs xs ys ≡ true → xs ≡ ys
same_pairs-is [] [] e = refl
same_pairs-is [] (y ∷ ys) e = absurd (true≢false (sym e))
same_pairs-is (x ∷ xs) [] e = absurd (true≢false (sym e))
same_pairs-is (x ∷ xs) (y ∷ ys) e =
    let p = and_parts (x.0 == y.0 && x.1 == y.1) (same_pairs xs ys) e in
    let q = and_parts (x.0 == y.0) (x.1 == y.1) p.0 in
    λ i. (eqb-true x.0 y.0 q.0 i, eqb-true x.1 y.1 q.1 i) ∷ same_pairs-is xs ys p.1 i

pub same_pairs-refl : (xs : List (ℕ × ℕ)) → same_pairs xs xs ≡ true
same_pairs-refl [] = refl
same_pairs-refl (x ∷ xs) = and_from (x.0 == x.0 && x.1 == x.1) (same_pairs xs xs) (and_from (x.0 == x.0) (x.1 == x.1) (eqb-same x.0) (eqb-same x.1)) (same_pairs-refl xs)

pub same_word-is : (v w : Membership) → v.first ≡ w.first → same_word v w ≡ true → v ≡ w
same_word-is v w f e =
    let p = and_parts (v.base == w.base && same_numbers v.lost w.lost) (same_pairs v.admitted w.admitted) e in
    let q = and_parts (v.base == w.base) (same_numbers v.lost w.lost) p.0 in
    λ i. record {
      base = eqb-true v.base w.base q.0 i;
      first = f i;
      lost = same_numbers-is v.lost w.lost q.1 i;
      admitted = same_pairs-is v.admitted w.admitted p.1 i;
    }

pub same_word-refl : (w : Membership) → same_word w w ≡ true
same_word-refl w = and_from (w.base == w.base && same_numbers w.lost w.lost) (same_pairs w.admitted w.admitted)
    (and_from (w.base == w.base) (same_numbers w.lost w.lost) (eqb-same w.base) (same_numbers-refl w.lost)) (same_pairs-refl w.admitted)

-- pairs are the same where their first numbers are, and each second number is the owner of the first
pairs-by-firsts : (owner : ℕ → ℕ) (xs ys : List (ℕ × ℕ)) → firsts xs ≡ firsts ys → StartsOwned owner xs → StartsOwned owner ys → xs ≡ ys
pairs-by-firsts owner [] [] e h k = refl
pairs-by-firsts owner [] (y ∷ ys) e h k = let l = ap length e in absurd (omega (arith, l))
pairs-by-firsts owner (x ∷ xs) [] e h k = let l = ap length e in absurd (omega (arith, l))
pairs-by-firsts owner (x ∷ xs) (y ∷ ys) e h k =
    let p : x.0 ≡ y.0 = ap (λ l. get_or l 0 0) e in
    let q : x.1 ≡ y.1 = sym h.0 ∙ ap owner p ∙ k.0 in
    let r = pairs-by-firsts owner xs ys (ap rest e) h.1 k.1 in
    λ i. (p i, q i) ∷ r i

within-firsts : (v w : Membership) → Within v w → Subset (firsts v.admitted) (firsts w.admitted)
within-firsts v w h s e = sym (admits-firsts w s) ∙ h.admitted s (admits-firsts v s ∙ e)

-- words of one base and the same first hosts that are each within the other are one
pub alike-is : (owner : ℕ → ℕ) (v w : Membership) → v.base ≡ w.base → v.first ≡ w.first
    → RiseFrom 0 v.lost → RiseFrom 0 w.lost → RiseFrom 0 (firsts v.admitted) → RiseFrom 0 (firsts w.admitted)
    → StartsOwned owner v.admitted → StartsOwned owner w.admitted → Alike v w → v ≡ w
alike-is owner v w b f vl wl va wa vo wo h =
    let l = numbers-alike 0 v.lost w.lost vl wl h.0.lost h.1.lost in
    let k = numbers-alike 0 (firsts v.admitted) (firsts w.admitted) va wa (within-firsts v w h.0) (within-firsts w v h.1) in
    let a = pairs-by-firsts owner v.admitted w.admitted k vo wo in
    λ i. record { base = b i; first = f i; lost = l i; admitted = a i }

-- of two words of one base and one term, one within the other: the other is within it too
pub within-of-term : (v w : Membership) → v.base ≡ w.base
    → RiseFrom 0 v.lost → RiseFrom 0 w.lost → RiseFrom 0 (firsts v.admitted) → RiseFrom 0 (firsts w.admitted)
    → Within v w → term_of v ≡ term_of w → Within w v
within-of-term v w b vl wl va wa h t =
    let l = subset-length 0 v.lost w.lost vl wl h.lost in
    let a = subset-length 0 (firsts v.admitted) (firsts w.admitted) va wa (within-firsts v w h) in
    let n = length-map v.admitted (λ a. a.0) in
    let m = length-map w.admitted (λ a. a.0) in
    let p = l.1 (omega (arith, l.0, a.0, n, m, b, t)) in
    let q = a.1 (omega (arith, l.0, a.0, n, m, b, t)) in
    record {
      lost = λ s e. subst (λ x. is_in s x ≡ true) (sym p) e;
      admitted = λ s e. admits-firsts v s ∙ subst (λ x. is_in s x ≡ true) (sym q) (sym (admits-firsts w s) ∙ e);
    }
