-- Rows by their places.
use Rattle.std.proofs.Common.{◌≡◌, ℕ, zero, suc, ◌+◌, ◌<◌, ◌≤◌, Bool, true, false, cond, eqb, List, [], ◌∷◌, Option, Some, None, inl, inr, refl, sym, ap, ap₂, ◌∙◌, subst, arith}
use Rattle.std.proofs.lemmas.Bool.{cases_lt, cases_eq}
use Rattle.std.proofs.lemmas.Bool.Decides.{nat_tests}
use Rattle.std.specs.List.{AllByRecursion}
use Rattle.std.specs.Ordering.{nat_cmp, match_ordering}
use Rattle.std.specs.declared.cmp.Ordering.{Ordering}
use Rattle.std.specs.declared.cmp.Ordering.TheVariants.{Less, Equal, Greater}
use Rattle.volt_value.specs.declared.value.Value.{Value}
use Rattle.table_rows.specs.Held.{row_at, with_row, without_row, AreRising}

-- rows behind a place
abbrev pub AreBehind : ℕ → List (ℕ × List Value) → Type 0
AreBehind place held = AllByRecursion (λ e. place < e.0) held

-- rows at other places
abbrev pub AreElsewhere : ℕ → List (ℕ × List Value) → Type 0
AreElsewhere place held = AllByRecursion (λ e. place ≡ e.0 → ⊥) held

-- ---- numbers

less : (m n : ℕ) → m < n → nat_cmp m n ≡ Less
less m n h = grind (arith, nat_tests)

equal : (m n : ℕ) → m ≡ n → nat_cmp m n ≡ Equal
equal m n h = grind (arith, nat_tests)

greater : (m n : ℕ) → n < m → nat_cmp m n ≡ Greater
greater m n h = grind (arith, nat_tests)

pub apart : (m n : ℕ) → (m ≡ n → ⊥) → eqb m n ≡ false
apart m n h = grind (arith, nat_tests)

pub alike : (m n : ℕ) → m ≡ n → eqb m n ≡ true
alike m n h = grind (arith, nat_tests)

-- ---- what is elsewhere

pub elsewhere_behind : (place : ℕ) (held : List (ℕ × List Value)) → AreBehind place held → AreElsewhere place held
elsewhere_behind place [] behind = tt
elsewhere_behind place (e ∷ held) behind = ((λ same. omega (arith, behind.0)), elsewhere_behind place held behind.1)

pub none_elsewhere : (place : ℕ) (held : List (ℕ × List Value)) → AreElsewhere place held → row_at held place ≡ None
none_elsewhere place [] others = refl
none_elsewhere place (e ∷ held) others = ap (λ b. cond b (Some e.1) (row_at held place)) (apart place e.0 others.0) ∙ none_elsewhere place held others.1

pub elsewhere_none : (place : ℕ) (held : List (ℕ × List Value)) → row_at held place ≡ None → AreElsewhere place held
elsewhere_none place [] none = tt
elsewhere_none place (e ∷ held) none = elim (cases_eq place e.0) [
  | inl same ↦ absurd (is_some (sym (ap (λ b. cond b (Some e.1) (row_at held place)) (alike place e.0 same)) ∙ none))
  | inr other ↦ (other, elsewhere_none place held (sym (ap (λ b. cond b (Some e.1) (row_at held place)) (apart place e.0 other)) ∙ none))
]
  where
    is_some : Some e.1 ≡ None → ⊥
    is_some h = cc

behind_less : (low place : ℕ) (held : List (ℕ × List Value)) → low < place → AreBehind place held → AreBehind low held
behind_less low place [] lt behind = tt
behind_less low place (e ∷ held) lt behind = (omega (arith, behind.0), behind_less low place held lt behind.1)

-- ---- a row more

placed_in : (r : Ordering) (P : ℕ × List Value → Type 0) (place : ℕ) (row : List Value) (e : ℕ × List Value) (held more : List (ℕ × List Value)) → (r ≡ Equal → place ≡ e.0) → P (place, row) → AllByRecursion P (e ∷ held) → AllByRecursion P more
    → AllByRecursion P (match_ordering r ((place, row) ∷ e ∷ held) ((e.0, row) ∷ held) (e ∷ more))
placed_in Less P place row e held more same is are ih = (is, are)
placed_in Equal P place row e held more same is are ih = (subst (λ p. P (p, row)) (same refl) is, are.1)
placed_in Greater P place row e held more same is are ih = (are.0, ih)

equal_is : (m n : ℕ) → nat_cmp m n ≡ Equal → m ≡ n
equal_is m n h = grind (arith, nat_tests)

pub All-with_row : (P : ℕ × List Value → Type 0) (held : List (ℕ × List Value)) (place : ℕ) (row : List Value) → P (place, row) → AllByRecursion P held → AllByRecursion P (with_row held place row)
All-with_row P [] place row is are = (is, tt)
All-with_row P (e ∷ held) place row is are =
    placed_in (nat_cmp place e.0) P place row e held (with_row held place row) (equal_is place e.0) is are (All-with_row P held place row is are.1)

pub All-without_row : (P : ℕ × List Value → Type 0) (held : List (ℕ × List Value)) (place : ℕ) → AllByRecursion P held → AllByRecursion P (without_row held place)
All-without_row P [] place are = tt
All-without_row P (e ∷ held) place are = left (eqb place e.0) P e held (without_row held place) are (All-without_row P held place are.1)
  where
    left : (b : Bool) (P : ℕ × List Value → Type 0) (e : ℕ × List Value) (held more : List (ℕ × List Value)) → AllByRecursion P (e ∷ held) → AllByRecursion P more → AllByRecursion P (cond b held (e ∷ more))
    left true P e held more are ih = are.1
    left false P e held more are ih = (are.0, ih)

-- in front of the first, over it, or behind it
pub with_first : (place : ℕ) (row : List Value) (e : ℕ × List Value) (held : List (ℕ × List Value)) → place < e.0 → with_row (e ∷ held) place row ≡ (place, row) ∷ e ∷ held
with_first place row e held lt = ap (λ r. match_ordering r ((place, row) ∷ e ∷ held) ((e.0, row) ∷ held) (e ∷ with_row held place row)) (less place e.0 lt)

pub with_same : (place : ℕ) (row : List Value) (e : ℕ × List Value) (held : List (ℕ × List Value)) → place ≡ e.0 → with_row (e ∷ held) place row ≡ (e.0, row) ∷ held
with_same place row e held same = ap (λ r. match_ordering r ((place, row) ∷ e ∷ held) ((e.0, row) ∷ held) (e ∷ with_row held place row)) (equal place e.0 same)

pub with_later : (place : ℕ) (row : List Value) (e : ℕ × List Value) (held : List (ℕ × List Value)) → e.0 < place → with_row (e ∷ held) place row ≡ e ∷ with_row held place row
with_later place row e held gt = ap (λ r. match_ordering r ((place, row) ∷ e ∷ held) ((e.0, row) ∷ held) (e ∷ with_row held place row)) (greater place e.0 gt)

pub AreRising-with_row : (held : List (ℕ × List Value)) (place : ℕ) (row : List Value) → AreRising held → AreRising (with_row held place row)
AreRising-with_row [] place row rising = (tt, tt)
AreRising-with_row (e ∷ held) place row rising = elim (cases_lt place e.0) [
  | inl lt ↦ subst AreRising (sym (with_first place row e held lt)) ((lt, behind_less place e.0 held lt rising.0), rising)
  | inr le ↦ elim (cases_eq place e.0) [
    | inl same ↦ subst AreRising (sym (with_same place row e held same)) rising
    | inr other ↦
        let gt : e.0 < place = omega arith in
        subst AreRising (sym (with_later place row e held gt)) (All-with_row (λ f. e.0 < f.0) held place row gt rising.0, AreRising-with_row held place row rising.1)
  ]
]

pub AreRising-without_row : (held : List (ℕ × List Value)) (place : ℕ) → AreRising held → AreRising (without_row held place)
AreRising-without_row [] place rising = tt
AreRising-without_row (e ∷ held) place rising = left (eqb place e.0) e held (without_row held place) rising (All-without_row (λ f. e.0 < f.0) held place rising.0) (AreRising-without_row held place rising.1)
  where
    left : (b : Bool) (e : ℕ × List Value) (held more : List (ℕ × List Value)) → AreRising (e ∷ held) → AreBehind e.0 more → AreRising more → AreRising (cond b held (e ∷ more))
    left true e held more rising behind ih = rising.1
    left false e held more rising behind ih = (behind, ih)

-- ---- a row that is there

pub without_same : (place : ℕ) (e : ℕ × List Value) (held : List (ℕ × List Value)) → place ≡ e.0 → without_row (e ∷ held) place ≡ held
without_same place e held same = ap (λ b. cond b held (e ∷ without_row held place)) (alike place e.0 same)

pub without_other : (place : ℕ) (e : ℕ × List Value) (held : List (ℕ × List Value)) → (place ≡ e.0 → ⊥) → without_row (e ∷ held) place ≡ e ∷ without_row held place
without_other place e held other = ap (λ b. cond b held (e ∷ without_row held place)) (apart place e.0 other)

-- once it is out, the others are elsewhere
pub without_elsewhere : (held : List (ℕ × List Value)) (place : ℕ) → AreRising held → AreElsewhere place (without_row held place)
without_elsewhere [] place rising = tt
without_elsewhere (e ∷ held) place rising = elim (cases_eq place e.0) [
  | inl same ↦ subst (AreElsewhere place) (sym (without_same place e held same)) (elsewhere_behind place held (subst (λ p. AreBehind p held) (sym same) rising.0))
  | inr other ↦ subst (AreElsewhere place) (sym (without_other place e held other)) (other, without_elsewhere held place rising.1)
]

-- none to take out
pub without_itself : (place : ℕ) (held : List (ℕ × List Value)) → AreElsewhere place held → without_row held place ≡ held
without_itself place [] others = refl
without_itself place (e ∷ held) others = without_other place e held others.0 ∙ ap (λ hs. e ∷ hs) (without_itself place held others.1)

-- in front of rows behind it
pub with_behind : (held : List (ℕ × List Value)) (place : ℕ) (row : List Value) → AreBehind place held → with_row held place row ≡ (place, row) ∷ held
with_behind [] place row behind = refl
with_behind (e ∷ held) place row behind = with_first place row e held behind.0

pub at_other : (place : ℕ) (e : ℕ × List Value) (held : List (ℕ × List Value)) → (place ≡ e.0 → ⊥) → row_at (e ∷ held) place ≡ row_at held place
at_other place e held other = ap (λ b. cond b (Some e.1) (row_at held place)) (apart place e.0 other)

pub at_same : (place : ℕ) (e : ℕ × List Value) (held : List (ℕ × List Value)) → place ≡ e.0 → row_at (e ∷ held) place ≡ Some e.1
at_same place e held same = ap (λ b. cond b (Some e.1) (row_at held place)) (alike place e.0 same)

found_behind : (held : List (ℕ × List Value)) (place low : ℕ) (old : List Value) → AreBehind low held → row_at held place ≡ Some old → low < place
found_behind [] place low old behind is = absurd cc
found_behind (f ∷ held) place low old behind is = elim (cases_eq place f.0) [
  | inl same ↦ omega (arith, behind.0)
  | inr other ↦ found_behind held place low old behind.1 (sym (at_other place f held other) ∙ is)
]

-- it may be taken out first
pub with_over : (held : List (ℕ × List Value)) (place : ℕ) (row old : List Value) → AreRising held → row_at held place ≡ Some old → with_row (without_row held place) place row ≡ with_row held place row
with_over [] place row old rising is = absurd cc
with_over (e ∷ held) place row old rising is = elim (cases_eq place e.0) [
  | inl same ↦
      ap (λ hs. with_row hs place row) (without_same place e held same)
      ∙ with_behind held place row (subst (λ p. AreBehind p held) (sym same) rising.0)
      ∙ ap (λ p. (p, row) ∷ held) same ∙ sym (with_same place row e held same)
  | inr other ↦
      let later : row_at held place ≡ Some old = sym (at_other place e held other) ∙ is in
      let gt : e.0 < place = found_behind held place e.0 old rising.0 later in
      ap (λ hs. with_row hs place row) (without_other place e held other)
      ∙ with_later place row e (without_row held place) gt
      ∙ ap (λ hs. e ∷ hs) (with_over held place row old rising.1 later)
      ∙ sym (with_later place row e held gt)
]

with_itself : (held : List (ℕ × List Value)) (place : ℕ) (old : List Value) → AreRising held → row_at held place ≡ Some old → with_row held place old ≡ held
with_itself [] place old rising is = absurd cc
with_itself (e ∷ held) place old rising is = elim (cases_eq place e.0) [
  | inl same ↦ with_same place old e held same ∙ ap (λ r. (e.0, r) ∷ held) (some_is (sym is ∙ at_same place e held same))
  | inr other ↦
      let later : row_at held place ≡ Some old = sym (at_other place e held other) ∙ is in
      with_later place old e held (found_behind held place e.0 old rising.0 later) ∙ ap (λ hs. e ∷ hs) (with_itself held place old rising.1 later)
]
  where
    some_is : {a b : List Value} → Some a ≡ Some b → a ≡ b
    some_is h = cc

-- and put back
pub with_back : (held : List (ℕ × List Value)) (place : ℕ) (old : List Value) → AreRising held → row_at held place ≡ Some old → with_row (without_row held place) place old ≡ held
with_back held place old rising is = with_over held place old old rising is ∙ with_itself held place old rising is

-- what is found is one of the rows
pub All-row_at : (P : ℕ × List Value → Type 0) (held : List (ℕ × List Value)) (place : ℕ) (old : List Value) → AllByRecursion P held → row_at held place ≡ Some old → P (place, old)
All-row_at P [] place old are is = absurd cc
All-row_at P (e ∷ held) place old are is = elim (cases_eq place e.0) [
  | inl same ↦ subst P (ap₂ (λ (p : ℕ) (r : List Value). (p, r)) (sym same) (some_is (sym (at_same place e held same) ∙ is))) are.0
  | inr other ↦ All-row_at P held place old are.1 (sym (at_other place e held other) ∙ is)
]
  where
    some_is : {a b : List Value} → Some a ≡ Some b → a ≡ b
    some_is h = cc

-- ---- look-ups after a change

over_same : (q place first : ℕ) (row old : List Value) (rest : Option (List Value)) → place ≡ first → cond (eqb q first) (Some row) rest ≡ cond (eqb q place) (Some row) (cond (eqb q first) (Some old) rest)
over_same q place first row old rest same = ap (λ p. cond (eqb q p) (Some row) rest) (sym same) ∙ chosen (eqb q place) ∙ ap (λ p. cond (eqb q place) (Some row) (cond (eqb q p) (Some old) rest)) same
  where
    chosen : (b : Bool) → cond b (Some row) rest ≡ cond b (Some row) (cond b (Some old) rest)
    chosen true = refl
    chosen false = refl

past_other : (q place first : ℕ) (row old : List Value) (rest : Option (List Value)) → (place ≡ first → ⊥)
    → cond (eqb q first) (Some old) (cond (eqb q place) (Some row) rest) ≡ cond (eqb q place) (Some row) (cond (eqb q first) (Some old) rest)
past_other q place first row old rest other = elim (cases_eq q place) [
  | inl here ↦
      let not_first : eqb q first ≡ false = apart q first (λ e. other (sym here ∙ e)) in
      ap (λ b. cond b (Some old) (cond (eqb q place) (Some row) rest)) not_first ∙ sym (ap (λ b. cond (eqb q place) (Some row) (cond b (Some old) rest)) not_first)
  | inr elsewhere ↦
      let not_here : eqb q place ≡ false = apart q place elsewhere in
      ap (λ b. cond (eqb q first) (Some old) (cond b (Some row) rest)) not_here ∙ sym (ap (λ b. cond b (Some row) (cond (eqb q first) (Some old) rest)) not_here)
]

pub row_at-with_row : (held : List (ℕ × List Value)) (place : ℕ) (row : List Value) (q : ℕ) → row_at (with_row held place row) q ≡ cond (eqb q place) (Some row) (row_at held q)
row_at-with_row [] place row q = refl
row_at-with_row (e ∷ held) place row q = elim (cases_lt place e.0) [
  | inl lt ↦ ap (λ hs. row_at hs q) (with_first place row e held lt)
  | inr le ↦ elim (cases_eq place e.0) [
    | inl same ↦ ap (λ hs. row_at hs q) (with_same place row e held same) ∙ over_same q place e.0 row e.1 (row_at held q) same
    | inr other ↦
        let gt : e.0 < place = omega arith in
        ap (λ hs. row_at hs q) (with_later place row e held gt) ∙ ap (cond (eqb q e.0) (Some e.1)) (row_at-with_row held place row q) ∙ past_other q place e.0 row e.1 (row_at held q) other
  ]
]

pub row_at-without_row : (held : List (ℕ × List Value)) (place q : ℕ) → AreRising held → row_at (without_row held place) q ≡ cond (eqb q place) None (row_at held q)
row_at-without_row held place q rising = elim (cases_eq q place) [
  | inl here ↦
      ap (row_at (without_row held place)) here ∙ none_elsewhere place (without_row held place) (without_elsewhere held place rising)
      ∙ sym (ap (λ b. cond b None (row_at held q)) (alike q place here))
  | inr elsewhere ↦ other_left held place q elsewhere ∙ sym (ap (λ b. cond b None (row_at held q)) (apart q place elsewhere))
]
  where
    other_left : (held : List (ℕ × List Value)) (place q : ℕ) → (q ≡ place → ⊥) → row_at (without_row held place) q ≡ row_at held q
    other_left [] place q elsewhere = refl
    other_left (e ∷ held) place q elsewhere = elim (cases_eq place e.0) [
      | inl same ↦ ap (λ hs. row_at hs q) (without_same place e held same) ∙ sym (at_other q e held (λ h. elsewhere (h ∙ sym same)))
      | inr other ↦ ap (λ hs. row_at hs q) (without_other place e held other) ∙ ap (cond (eqb q e.0) (Some e.1)) (other_left held place q elsewhere)
    ]
