-- The entries that the map's stand for.
use Rattle.std.proofs.Common.{◌≡◌, ℕ, Bool, true, false, not, cond, ◌&&◌, ◌||◌, List, [], ◌∷◌, map, filter, Option, Some, None, is_some, eqb, inl, inr, refl, sym, ap, ap₂, ◌∙◌, subst, arith}
use Rattle.std.proofs.lemmas.Bool.{false≢true, cases_Bool}
use Rattle.std.proofs.lemmas.Map.Views.{tells_apart}
use Rattle.std.proofs.lemmas.Map.Keys.{IsDistinct-from_sorted, IsDistinct-head, IsDistinct-tail, sorted_head, sorted_tail}
use Rattle.std.specs.List.Sorted.{IsStrictlySortedBy}
use Rattle.std.specs.Cmp.{both_tied}
use Rattle.std.specs.List.{list_any, AllByRecursion, IsDistinct}
use Rattle.std.proofs.lemmas.Bool.Decides.{nat_tests}
use Rattle.std.proofs.lemmas.Map.Lookups.{CmpEqualImpliesEq, exact_pairs, exact_bytes, exact_unsigned}
use Rattle.std.proofs.lemmas.Map.Text.{is_eq-slice_cmp}
use Rattle.std.specs.BTreeMap.{insert_entry, is_at}
use Rattle.std.specs.BTreeSet.{insert_key}
use Rattle.std.specs.Map.{lookup, remove_entry, set_value, keys_of}
use Rattle.std.specs.Set.{remove_key}
use Rattle.std.specs.Str.{bytes_eq}
use Rattle.std.specs.Cmp.Lexicographic.{slice_cmp, nat_list_cmp_total}
use Rattle.std.specs.Ordering.{nat_cmp, ordering_then, match_ordering, is_eq, is_le, is_gt, eq_by_cmp, ordering_reverse}
use Rattle.std.specs.declared.cmp.Ordering.{Ordering}
use Rattle.std.specs.declared.cmp.Ordering.TheVariants.{Less, Equal, Greater}
use Rattle.volt_index.specs.Entries.{entry_cmp}
use Rattle.volt_index.specs.Index.{is_entry, IsIndex}
use Rattle.volt_index.specs.Held.{tie_of, shown, AreTied, has_place, first_place}

abbrev Tied : Type 0
Tied = (List ℕ × ℕ) × ℕ

pub exact_entries : CmpEqualImpliesEq entry_cmp
exact_entries = exact_pairs (slice_cmp nat_cmp) nat_cmp exact_bytes exact_unsigned

-- ---- an insertion

plain_step : (o : Ordering) (key : List ℕ) (place : ℕ) (e : Tied) (es more : List Tied) (rest : List (List ℕ × ℕ)) → entry_cmp (key, place) e.0 ≡ o → e.0.1 ≡ e.1 → map shown more ≡ rest
    → map shown (match_ordering o (((key, place), place) ∷ e ∷ es) ((e.0, place) ∷ es) (e ∷ more)) ≡ match_ordering o ((key, place) ∷ map shown (e ∷ es)) (map shown (e ∷ es)) (shown e ∷ rest)
plain_step Less key place e es more rest o-is tie ih = refl
plain_step Equal key place e es more rest o-is tie ih =
    let same : place ≡ e.1 = ap (λ (p : List ℕ × ℕ). p.1) (exact_entries (key, place) e.0 o-is) ∙ tie in
    ap (λ p. (e.0.0, p) ∷ map shown es) same
plain_step Greater key place e es more rest o-is tie ih = ap (λ r. shown e ∷ r) ih

shown_insert_plain : (es : List Tied) (key : List ℕ) (place : ℕ) → AreTied false es → map shown (insert_entry entry_cmp es (key, place) place) ≡ insert_key entry_cmp (map shown es) (key, place)
shown_insert_plain [] key place tied = refl
shown_insert_plain (e ∷ es) key place tied =
    plain_step (entry_cmp (key, place) e.0) key place e es _ _ refl tied.0 (shown_insert_plain es key place tied.1)
    ∙ ap (λ tie. match_ordering (entry_cmp (key, place) (e.0.0, tie)) ((key, place) ∷ map shown (e ∷ es)) (map shown (e ∷ es)) (shown e ∷ insert_key entry_cmp (map shown es) (key, place))) tied.0

-- where the key isn't there, its number decides nothing
free_step : (o : Ordering) (key : List ℕ) (place tie other : ℕ) (e : Tied) (es more : List Tied) (rest : List (List ℕ × ℕ)) → (o ≡ Equal → ⊥) → map shown more ≡ rest
    → map shown (match_ordering (ordering_then o (nat_cmp tie other)) (((key, tie), place) ∷ e ∷ es) ((e.0, place) ∷ es) (e ∷ more))
    ≡ match_ordering (ordering_then o (nat_cmp place e.1)) ((key, place) ∷ map shown (e ∷ es)) (map shown (e ∷ es)) (shown e ∷ rest)
free_step Less key place tie other e es more rest apart ih = refl
free_step Equal key place tie other e es more rest apart ih = absurd (apart refl)
free_step Greater key place tie other e es more rest apart ih = ap (λ r. shown e ∷ r) ih

cond_none : {A : Type 0} (b : Bool) (x : A) (o : Option A) → cond b (Some x) o ≡ None → (b ≡ false) × (o ≡ None)
cond_none true x o h = absurd cc
cond_none false x o h = (refl, h)

not_equal : (key : List ℕ) (e : Tied) → e.0.1 ≡ 0 → is_eq (entry_cmp (key, 0) e.0) ≡ false → slice_cmp nat_cmp key e.0.0 ≡ Equal → ⊥
not_equal key e tie test equal = false≢true (sym test ∙ ap (λ o. is_eq (ordering_then o (nat_cmp 0 e.0.1))) equal ∙ ap (λ n. is_eq (nat_cmp 0 n)) tie)

shown_insert_unique : (es : List Tied) (key : List ℕ) (place : ℕ) → AreTied true es → lookup (is_at (entry_cmp (key, 0))) es ≡ None → map shown (insert_entry entry_cmp es (key, 0) place) ≡ insert_key entry_cmp (map shown es) (key, place)
shown_insert_unique [] key place tied free = refl
shown_insert_unique (e ∷ es) key place tied free =
    let parts = cond_none _ _ _ free in
    free_step (slice_cmp nat_cmp key e.0.0) key place 0 e.0.1 e es _ _ (not_equal key e tied.0 parts.0) (shown_insert_unique es key place tied.1 parts.1)

pub shown_insert : (unique : Bool) (es : List Tied) (key : List ℕ) (place : ℕ) → AreTied unique es → (unique ≡ true → lookup (is_at (entry_cmp (key, 0))) es ≡ None)
    → map shown (insert_entry entry_cmp es (key, tie_of unique place) place) ≡ insert_key entry_cmp (map shown es) (key, place)
shown_insert true es key place tied free = shown_insert_unique es key place tied (free refl)
shown_insert false es key place tied free = shown_insert_plain es key place tied

tied_step : (unique : Bool) (o : Ordering) (k : List ℕ × ℕ) (place : ℕ) (e : Tied) (es more : List Tied) → entry_cmp k e.0 ≡ o → k.1 ≡ tie_of unique place → AreTied unique (e ∷ es) → AreTied unique more
    → AreTied unique (match_ordering o ((k, place) ∷ e ∷ es) ((e.0, place) ∷ es) (e ∷ more))
tied_step unique Less k place e es more o-is tie tied ih = (tie, tied)
tied_step unique Equal k place e es more o-is tie tied ih = (ap (λ (p : List ℕ × ℕ). p.1) (sym (exact_entries k e.0 o-is)) ∙ tie, tied.1)
tied_step unique Greater k place e es more o-is tie tied ih = (tied.0, ih)

pub AreTied-insert : (unique : Bool) (es : List Tied) (key : List ℕ) (place : ℕ) → AreTied unique es → AreTied unique (insert_entry entry_cmp es (key, tie_of unique place) place)
AreTied-insert unique [] key place tied = (refl, tt)
AreTied-insert unique (e ∷ es) key place tied = tied_step unique (entry_cmp (key, tie_of unique place) e.0) (key, tie_of unique place) place e es _ refl refl tied (AreTied-insert unique es key place tied.1)

-- ---- a look-up in a unique index

at_key : (key : List ℕ) (e : Tied) → e.0.1 ≡ 0 → is_eq (entry_cmp (key, 0) e.0) ≡ bytes_eq key e.0.0
at_key key e tie = ap (λ n. is_eq (ordering_then (slice_cmp nat_cmp key e.0.0) (nat_cmp 0 n))) tie ∙ then_equal (slice_cmp nat_cmp key e.0.0) ∙ is_eq-slice_cmp key e.0.0
  where
    then_equal : (o : Ordering) → is_eq (ordering_then o Equal) ≡ is_eq o
    then_equal Less = refl
    then_equal Equal = refl
    then_equal Greater = refl

pub lookup_unique : (es : List Tied) (key : List ℕ) → AreTied true es → lookup (is_at (entry_cmp (key, 0))) es ≡ lookup (bytes_eq key) (map shown es)
lookup_unique [] key tied = refl
lookup_unique (e ∷ es) key tied = ap₂ (λ (b : Bool) (o : Option ℕ). cond b (Some e.1) o) (at_key key e tied.0) (lookup_unique es key tied.1)

-- ---- a removal

same_number : (m n : ℕ) → eqb m n ≡ is_eq (nat_cmp m n)
same_number m n = grind (arith, nat_tests)

-- the test of the map's keys is that of the entries
at_entry : (key : List ℕ) (place : ℕ) (e : Tied) → e.0.1 ≡ e.1 → is_eq (entry_cmp (key, place) e.0) ≡ is_entry key place (shown e)
at_entry key place e tie =
    ap (λ n. is_eq (ordering_then (slice_cmp nat_cmp key e.0.0) (nat_cmp place n))) tie
    ∙ sym (both_tied (bytes_eq key e.0.0) (eqb place e.1) (slice_cmp nat_cmp key e.0.0) (nat_cmp place e.1) (sym (is_eq-slice_cmp key e.0.0)) (same_number place e.1))

pub shown_remove_plain : (es : List Tied) (key : List ℕ) (place : ℕ) → AreTied false es → map shown (remove_entry (is_at (entry_cmp (key, place))) es) ≡ remove_key (is_entry key place) (map shown es)
shown_remove_plain [] key place tied = refl
shown_remove_plain (e ∷ es) key place tied =
    shown_cond (is_at (entry_cmp (key, place)) e.0) es e (remove_entry (is_at (entry_cmp (key, place))) es)
    ∙ ap₂ (λ (b : Bool) (r : List (List ℕ × ℕ)). cond b (map shown es) (shown e ∷ r)) (at_entry key place e tied.0) (shown_remove_plain es key place tied.1)
  where
    shown_cond : (b : Bool) (es : List Tied) (e : Tied) (more : List Tied) → map shown (cond b es (e ∷ more)) ≡ cond b (map shown es) (shown e ∷ map shown more)
    shown_cond true es e more = refl
    shown_cond false es e more = refl

pub holds_plain : (es : List Tied) (key : List ℕ) (place : ℕ) → AreTied false es → is_some (lookup (is_at (entry_cmp (key, place))) es) ≡ list_any (is_entry key place) (map shown es)
holds_plain [] key place tied = refl
holds_plain (e ∷ es) key place tied =
    some_cond (is_at (entry_cmp (key, place)) e.0) e.1 (lookup (is_at (entry_cmp (key, place))) es)
    ∙ ap₂ (λ (a b : Bool). a || b) (at_entry key place e tied.0) (holds_plain es key place tied.1)
  where
    some_cond : (b : Bool) (x : ℕ) (o : Option ℕ) → is_some (cond b (Some x) o) ≡ (b || is_some o)
    some_cond true x o = refl
    some_cond false x o = refl

pub AreTied-remove : (unique : Bool) (es : List Tied) (test : List ℕ × ℕ → Bool) → AreTied unique es → AreTied unique (remove_entry test es)
AreTied-remove unique [] test tied = tt
AreTied-remove unique (e ∷ es) test tied = kept unique (test e.0) es e (remove_entry test es) tied (AreTied-remove unique es test tied.1)
  where
    kept : (unique b : Bool) (es : List Tied) (e : Tied) (more : List Tied) → AreTied unique (e ∷ es) → AreTied unique more → AreTied unique (cond b es (e ∷ more))
    kept unique true es e more tied ih = tied.1
    kept unique false es e more tied ih = (tied.0, ih)

pub AreTied-if : (unique b : Bool) (es more : List Tied) → AreTied unique es → AreTied unique more → AreTied unique (cond b more es)
AreTied-if unique true es more tied ih = ih
AreTied-if unique false es more tied ih = tied

-- ---- a removal from a unique index, in which no two entries have one key

none_after : (es : List Tied) (key : List ℕ) (place : ℕ) → AreTied true es → AllByRecursion (λ k. eq_by_cmp entry_cmp (key, 0) k ≡ false) (keys_of es) → list_any (is_entry key place) (map shown es) ≡ false
none_after [] key place tied apart = refl
none_after (e ∷ es) key place tied apart =
    let other : bytes_eq key e.0.0 ≡ false = sym (at_key key e tied.0) ∙ apart.0 in
    ap₂ (λ (a b : Bool). (a && eqb place e.1) || b) other (none_after es key place tied.1 apart.1)

-- what is found at the key, if it is this place
abbrev found_at : List Tied → List ℕ → ℕ → Bool
found_at es key place = has_place place (lookup (is_at (entry_cmp (key, 0))) es)

eqb_comm : (m n : ℕ) → eqb m n ≡ eqb n m
eqb_comm m n = grind (arith, nat_tests)

or_false : (b : Bool) → (b || false) ≡ b
or_false true = refl
or_false false = refl

pub holds_unique : (es : List Tied) (key : List ℕ) (place : ℕ) → AreTied true es → IsDistinct (eq_by_cmp entry_cmp) (keys_of es) → found_at es key place ≡ list_any (is_entry key place) (map shown es)
holds_unique [] key place tied apart = refl
holds_unique (e ∷ es) key place tied apart = elim (cases_Bool (is_at (entry_cmp (key, 0)) e.0)) [
  | inl hit ↦
      let here : (key, 0) ≡ e.0 = tells_apart exact_entries (key, 0) e.0 hit in
      let rest : list_any (is_entry key place) (map shown es) ≡ false = none_after es key place tied.1 (subst (λ (k : List ℕ × ℕ). AllByRecursion (λ y. eq_by_cmp entry_cmp k y ≡ false) (keys_of es)) (sym here) (IsDistinct-head (eq_by_cmp entry_cmp) e.0 (keys_of es) apart)) in
      let match : bytes_eq key e.0.0 ≡ true = sym (at_key key e tied.0) ∙ hit in
      ap (λ b. has_place place (cond b (Some e.1) (lookup (is_at (entry_cmp (key, 0))) es))) hit
      ∙ eqb_comm e.1 place ∙ sym (or_false (eqb place e.1))
      ∙ sym (ap₂ (λ (a b : Bool). (a && eqb place e.1) || b) match rest)
  | inr out ↦
      let miss : bytes_eq key e.0.0 ≡ false = sym (at_key key e tied.0) ∙ out in
      ap (λ b. has_place place (cond b (Some e.1) (lookup (is_at (entry_cmp (key, 0))) es))) out
      ∙ holds_unique es key place tied.1 (IsDistinct-tail (eq_by_cmp entry_cmp) e.0 (keys_of es) apart)
      ∙ sym (ap (λ b. (b && eqb place e.1) || list_any (is_entry key place) (map shown es)) miss)
]

remove_none : {A : Type 0} (test : A → Bool) (xs : List A) → list_any test xs ≡ false → remove_key test xs ≡ xs
remove_none test [] h = refl
remove_none test (x ∷ xs) h = let parts = or_parts (test x) (list_any test xs) h in rw parts.0 (ap (λ r. x ∷ r) (remove_none test xs parts.1))
  where
    or_parts : (a b : Bool) → (a || b) ≡ false → (a ≡ false) × (b ≡ false)
    or_parts true b h = absurd cc
    or_parts false b h = (refl, h)

remove_found : (es : List Tied) (key : List ℕ) (place : ℕ) → AreTied true es → found_at es key place ≡ true → map shown (remove_entry (is_at (entry_cmp (key, 0))) es) ≡ remove_key (is_entry key place) (map shown es)
remove_found [] key place tied found = absurd cc
remove_found (e ∷ es) key place tied found = elim (cases_Bool (is_at (entry_cmp (key, 0)) e.0)) [
  | inl hit ↦
      let match : bytes_eq key e.0.0 ≡ true = sym (at_key key e tied.0) ∙ hit in
      let place_is : eqb e.1 place ≡ true = sym (ap (λ b. has_place place (cond b (Some e.1) (lookup (is_at (entry_cmp (key, 0))) es))) hit) ∙ found in
      ap (λ b. map shown (cond b es (e ∷ remove_entry (is_at (entry_cmp (key, 0))) es))) hit
      ∙ sym (ap₂ (λ (a b : Bool). cond (a && b) (map shown es) (shown e ∷ remove_key (is_entry key place) (map shown es))) match (eqb_comm place e.1 ∙ place_is))
  | inr out ↦
      let miss : bytes_eq key e.0.0 ≡ false = sym (at_key key e tied.0) ∙ out in
      let later : found_at es key place ≡ true = sym (ap (λ b. has_place place (cond b (Some e.1) (lookup (is_at (entry_cmp (key, 0))) es))) out) ∙ found in
      ap (λ b. map shown (cond b es (e ∷ remove_entry (is_at (entry_cmp (key, 0))) es))) out
      ∙ ap (λ r. shown e ∷ r) (remove_found es key place tied.1 later)
      ∙ sym (ap (λ b. cond (b && eqb place e.1) (map shown es) (shown e ∷ remove_key (is_entry key place) (map shown es))) miss)
]

pub shown_remove_unique : (es : List Tied) (key : List ℕ) (place : ℕ) (found : Bool) → AreTied true es → IsDistinct (eq_by_cmp entry_cmp) (keys_of es) → found ≡ found_at es key place
    → map shown (cond found (remove_entry (is_at (entry_cmp (key, 0))) es) es) ≡ remove_key (is_entry key place) (map shown es)
shown_remove_unique es key place true tied apart is = remove_found es key place tied (sym is)
shown_remove_unique es key place false tied apart is = sym (remove_none (is_entry key place) (map shown es) (sym (holds_unique es key place tied apart) ∙ sym is))

-- ---- another place at a key of a unique index

shown_set : (es : List Tied) (key : List ℕ) (place : ℕ) → AreTied true es → map shown (set_value (is_at (entry_cmp (key, 0))) es place) ≡ set_value (bytes_eq key) (map shown es) place
shown_set [] key place tied = refl
shown_set (e ∷ es) key place tied =
    shown_cond (is_at (entry_cmp (key, 0)) e.0) (set_value (is_at (entry_cmp (key, 0))) es place)
    ∙ ap₂ (λ (b : Bool) (r : List (List ℕ × ℕ)). cond b ((e.0.0, place) ∷ map shown es) (shown e ∷ r)) (at_key key e tied.0) (shown_set es key place tied.1)
  where
    shown_cond : (b : Bool) (more : List Tied) → map shown (cond b ((e.0, place) ∷ es) (e ∷ more)) ≡ cond b ((e.0.0, place) ∷ map shown es) (shown e ∷ map shown more)
    shown_cond true more = refl
    shown_cond false more = refl

AreTied-set : (es : List Tied) (test : List ℕ × ℕ → Bool) (place : ℕ) → AreTied true es → AreTied true (set_value test es place)
AreTied-set [] test place tied = tt
AreTied-set (e ∷ es) test place tied = kept (test e.0) (set_value test es place) (AreTied-set es test place tied.1)
  where
    kept : (b : Bool) (more : List Tied) → AreTied true more → AreTied true (cond b ((e.0, place) ∷ es) (e ∷ more))
    kept true more ih = (tied.0, tied.1)
    kept false more ih = (tied.0, ih)

-- where none is there, nothing changes
pub set_none : (es : List Tied) (test : List ℕ × ℕ → Bool) (place : ℕ) → lookup test es ≡ None → es ≡ set_value test es place
set_none [] test place none = refl
set_none (e ∷ es) test place none =
    let parts = cond_none (test e.0) e.1 (lookup test es) none in
    ap (λ r. e ∷ r) (set_none es test place parts.1) ∙ sym (ap (λ b. cond b ((e.0, place) ∷ es) (e ∷ set_value test es place)) parts.0)

-- ---- of entries of the map, as the calls have them

-- a key's own entry has the number 0
own : (k : List ℕ × ℕ) → k.1 ≡ 0 → k ≡ (k.0, 0)
own k untied = ap (λ n. (k.0, n)) untied

pub lookup_is : (unique : Bool) (es : List Tied) (k : List ℕ × ℕ) → unique ≡ true → AreTied unique es → k.1 ≡ 0 → lookup (is_at (entry_cmp k)) es ≡ lookup (bytes_eq k.0) (map shown es)
lookup_is true es k is tied untied = ap (λ (e : List ℕ × ℕ). lookup (is_at (entry_cmp e)) es) (own k untied) ∙ lookup_unique es k.0 tied
lookup_is false es k is tied untied = absurd cc

pub clash_is : (unique : Bool) (es : List Tied) (k : List ℕ × ℕ) → unique ≡ true → AreTied unique es → k.1 ≡ 0 → lookup (is_at (entry_cmp k)) es ≡ cond unique (lookup (bytes_eq k.0) (map shown es)) None
clash_is true es k is tied untied = lookup_is true es k is tied untied
clash_is false es k is tied untied = absurd cc

-- what is put where nothing clashes
pub put_shows : (unique : Bool) (es new : List Tied) (key : List ℕ) (place : ℕ) (k : List ℕ × ℕ) → AreTied unique es → cond unique (lookup (bytes_eq key) (map shown es)) None ≡ None
    → k ≡ (key, tie_of unique place) → new ≡ insert_entry entry_cmp es k place → map shown new ≡ insert_key entry_cmp (map shown es) (key, place)
put_shows true es new key place k tied free k-is new-is =
    ap (map shown) (new-is ∙ ap (λ (e : List ℕ × ℕ). insert_entry entry_cmp es e place) k-is) ∙ shown_insert true es key place tied (λ _. lookup_unique es key tied ∙ free)
put_shows false es new key place k tied free k-is new-is =
    ap (map shown) (new-is ∙ ap (λ (e : List ℕ × ℕ). insert_entry entry_cmp es e place) k-is) ∙ shown_insert false es key place tied (λ is. absurd cc)

pub put_ties : (unique : Bool) (es new : List Tied) (key : List ℕ) (place : ℕ) (k : List ℕ × ℕ) → AreTied unique es
    → k ≡ (key, tie_of unique place) → new ≡ insert_entry entry_cmp es k place → AreTied unique new
put_ties unique es new key place k tied k-is new-is =
    subst (AreTied unique) (sym (new-is ∙ ap (λ (e : List ℕ × ℕ). insert_entry entry_cmp es e place) k-is)) (AreTied-insert unique es key place tied)

pub take_unique_shows : (unique found : Bool) (es new : List Tied) (k : List ℕ × ℕ) (place : ℕ) → unique ≡ true → AreTied unique es → k.1 ≡ 0 → IsStrictlySortedBy entry_cmp (keys_of es)
    → found ≡ has_place place (lookup (is_at (entry_cmp k)) es) → new ≡ cond found (remove_entry (is_at (entry_cmp k)) es) es
    → (found ≡ list_any (is_entry k.0 place) (map shown es)) × (map shown new ≡ remove_key (is_entry k.0 place) (map shown es))
take_unique_shows true found es new k place is tied untied sorted found-is new-is =
    let apart = IsDistinct-from_sorted entry_cmp (keys_of es) sorted in
    let at : found ≡ found_at es k.0 place = found-is ∙ ap (λ (e : List ℕ × ℕ). has_place place (lookup (is_at (entry_cmp e)) es)) (own k untied) in (
      at ∙ holds_unique es k.0 place tied apart,
      ap (map shown) (new-is ∙ ap (λ (e : List ℕ × ℕ). cond found (remove_entry (is_at (entry_cmp e)) es) es) (own k untied)) ∙ shown_remove_unique es k.0 place found tied apart at,
    )
take_unique_shows false found es new k place is tied untied sorted found-is new-is = absurd cc

pub take_unique_ties : (unique found : Bool) (es new : List Tied) (k : List ℕ × ℕ) → AreTied unique es → new ≡ cond found (remove_entry (is_at (entry_cmp k)) es) es → AreTied unique new
take_unique_ties unique found es new k tied new-is =
    subst (AreTied unique) (sym new-is) (AreTied-if unique found es (remove_entry (is_at (entry_cmp k)) es) tied (AreTied-remove unique es (is_at (entry_cmp k)) tied))

pub set_shows : (unique : Bool) (es new : List Tied) (k : List ℕ × ℕ) (place : ℕ) → unique ≡ true → AreTied unique es → k.1 ≡ 0 → new ≡ set_value (is_at (entry_cmp k)) es place
    → map shown new ≡ set_value (bytes_eq k.0) (map shown es) place
set_shows true es new k place is tied untied new-is =
    ap (map shown) (new-is ∙ ap (λ (e : List ℕ × ℕ). set_value (is_at (entry_cmp e)) es place) (own k untied)) ∙ shown_set es k.0 place tied
set_shows false es new k place is tied untied new-is = absurd cc

pub set_ties : (unique : Bool) (es new : List Tied) (k : List ℕ × ℕ) (place : ℕ) → unique ≡ true → AreTied unique es → new ≡ set_value (is_at (entry_cmp k)) es place → AreTied unique new
set_ties true es new k place is tied new-is = subst (AreTied true) (sym new-is) (AreTied-set es (is_at (entry_cmp k)) place tied)
set_ties false es new k place is tied new-is = absurd cc

pub take_plain_shows : (unique found : Bool) (es new : List Tied) (key : List ℕ) (place : ℕ) → unique ≡ false → AreTied unique es
    → found ≡ is_some (lookup (is_at (entry_cmp (key, place))) es) → new ≡ remove_entry (is_at (entry_cmp (key, place))) es
    → (found ≡ list_any (is_entry key place) (map shown es)) × (map shown new ≡ remove_key (is_entry key place) (map shown es))
take_plain_shows true found es new key place is tied found-is new-is = absurd cc
take_plain_shows false found es new key place is tied found-is new-is = (found-is ∙ holds_plain es key place tied, ap (map shown) new-is ∙ shown_remove_plain es key place tied)

-- ---- a look-up in a plain index, by the first entry from the key on

-- above a key that is less than the first of keys in order
above_step : (o : Ordering) (p : Ordering) (key a b : List ℕ) → slice_cmp nat_cmp a b ≡ o → ordering_then o p ≡ Less → slice_cmp nat_cmp key a ≡ Less → slice_cmp nat_cmp key b ≡ Less
above_step Less p key a b o-is then-less less = nat_list_cmp_total.trans key a b less o-is
above_step Equal p key a b o-is then-less less = sym (ap (slice_cmp nat_cmp key) (exact_bytes a b o-is)) ∙ less
above_step Greater p key a b o-is then-less less = absurd cc

none_above : (es : List Tied) (key : List ℕ) (k : List ℕ × ℕ) → slice_cmp nat_cmp key k.0 ≡ Less → AllByRecursion (λ y. entry_cmp k y ≡ Less) (keys_of es) → lookup (bytes_eq key) (map shown es) ≡ None
none_above [] key k less above = refl
none_above (e ∷ es) key k less above =
    let beyond = above_step (slice_cmp nat_cmp k.0 e.0.0) (nat_cmp k.1 e.0.1) key k.0 e.0.0 refl above.0 less in
    ap₂ (λ (b : Bool) (o : Option ℕ). cond b (Some e.1) o) (sym (is_eq-slice_cmp key e.0.0) ∙ ap is_eq beyond) (none_above es key k less above.1)

from_zero : (n : ℕ) → is_le (nat_cmp 0 n) ≡ true
from_zero n = grind (arith, nat_tests)

-- the entries from a key on, as the map gives them
abbrev from_key : List ℕ → List Tied → List Tied
from_key key es = filter (λ e. is_le (entry_cmp (key, 0) e.0) && true) es

first_step : (o : Ordering) (key : List ℕ) (e : Tied) (es rest : List Tied) → bytes_eq key e.0.0 ≡ is_eq o → (o ≡ Less → lookup (bytes_eq key) (map shown es) ≡ None)
    → first_place key rest ≡ lookup (bytes_eq key) (map shown es)
    → first_place key (cond (is_le (ordering_then o (nat_cmp 0 e.0.1)) && true) (e ∷ rest) rest) ≡ cond (bytes_eq key e.0.0) (Some e.1) (lookup (bytes_eq key) (map shown es))
first_step Less key e es rest match later ih = ap (λ b. cond b (Some e.1) None) match ∙ sym (ap (λ b. cond b (Some e.1) (lookup (bytes_eq key) (map shown es))) match ∙ later refl)
first_step Equal key e es rest match later ih =
    ap (λ b. first_place key (cond (b && true) (e ∷ rest) rest)) (from_zero e.0.1)
    ∙ ap (λ b. cond b (Some e.1) None) match ∙ sym (ap (λ b. cond b (Some e.1) (lookup (bytes_eq key) (map shown es))) match)
first_step Greater key e es rest match later ih = ih ∙ sym (ap (λ b. cond b (Some e.1) (lookup (bytes_eq key) (map shown es))) match)

first_found : (es : List Tied) (key : List ℕ) → IsStrictlySortedBy entry_cmp (keys_of es) → first_place key (from_key key es) ≡ lookup (bytes_eq key) (map shown es)
first_found [] key sorted = refl
first_found (e ∷ es) key sorted =
    first_step (slice_cmp nat_cmp key e.0.0) key e es (from_key key es) (sym (is_eq-slice_cmp key e.0.0))
    (λ less. none_above es key e.0 less (sorted_head entry_cmp e.0 (keys_of es) sorted)) (first_found es key (sorted_tail entry_cmp e.0 (keys_of es) sorted))

pub first_is : (es : List Tied) (k : List ℕ × ℕ) → k.1 ≡ 0 → IsStrictlySortedBy entry_cmp (keys_of es) → first_place k.0 (filter (λ e. is_le (entry_cmp k e.0) && true) es) ≡ lookup (bytes_eq k.0) (map shown es)
first_is es k untied sorted = ap (λ (q : List ℕ × ℕ). first_place k.0 (filter (λ e. is_le (entry_cmp q e.0) && true) es)) (own k untied) ∙ first_found es k.0 sorted

-- ---- a range

pub filter_shown : (p : List ℕ × ℕ → Bool) (q : List ℕ → Bool) (es : List Tied) → ((key : List ℕ) (tie : ℕ) → p (key, tie) ≡ q key) → map (λ e. e.1) (filter (λ e. p e.0) es) ≡ map (λ e. e.1) (filter (λ e. q e.0) (map shown es))
filter_shown p q [] same = refl
filter_shown p q (e ∷ es) same =
    places_cond (p e.0) e (filter (λ e. p e.0) es)
    ∙ ap₂ (λ (b : Bool) (r : List ℕ). cond b (e.1 ∷ r) r) (same e.0.0 e.0.1) (filter_shown p q es same)
    ∙ sym (shown_cond (q e.0.0) e (filter (λ e. q e.0) (map shown es)))
  where
    places_cond : (b : Bool) (e : Tied) (r : List Tied) → map (λ e. e.1) (cond b (e ∷ r) r) ≡ cond b (e.1 ∷ map (λ e. e.1) r) (map (λ e. e.1) r)
    places_cond true e r = refl
    places_cond false e r = refl

    shown_cond : (b : Bool) (e : Tied) (r : List (List ℕ × ℕ)) → map (λ e. e.1) (cond b (shown e ∷ r) r) ≡ cond b (e.1 ∷ map (λ e. e.1) r) (map (λ e. e.1) r)
    shown_cond true e r = refl
    shown_cond false e r = refl

-- behind the greater of two bounds and before the lesser there is nothing
pub nothing_between : (from to : List ℕ × ℕ) (key : List ℕ) (tie : ℕ) → from.1 ≡ 0 → to.1 ≡ 0 → is_le (entry_cmp from to) ≡ false
    → (is_le (entry_cmp to (key, tie)) && not (is_le (entry_cmp to (key, tie)))) ≡ (is_le (slice_cmp nat_cmp from.0 key) && is_gt (slice_cmp nat_cmp to.0 key))
nothing_between from to key tie from-own to-own beyond = none_of (is_le (entry_cmp to (key, tie))) ∙ sym (backwards (slice_cmp nat_cmp to.0 key) refl)
  where
    none_of : (b : Bool) → (b && not b) ≡ false
    none_of true = refl
    none_of false = refl

    and_false : (b : Bool) → (b && false) ≡ false
    and_false true = refl
    and_false false = refl

    above : slice_cmp nat_cmp from.0 to.0 ≡ Greater
    above = is_greater (slice_cmp nat_cmp from.0 to.0) (ap₂ (λ (m n : ℕ). is_le (ordering_then (slice_cmp nat_cmp from.0 to.0) (nat_cmp m n))) (sym from-own) (sym to-own) ∙ beyond)
      where
        is_greater : (o : Ordering) → is_le (ordering_then o (nat_cmp 0 0)) ≡ false → o ≡ Greater
        is_greater Less h = absurd cc
        is_greater Equal h = absurd cc
        is_greater Greater h = refl

    backwards : (o : Ordering) → slice_cmp nat_cmp to.0 key ≡ o → (is_le (slice_cmp nat_cmp from.0 key) && is_gt o) ≡ false
    backwards Less o-is = and_false (is_le (slice_cmp nat_cmp from.0 key))
    backwards Equal o-is = and_false (is_le (slice_cmp nat_cmp from.0 key))
    backwards Greater o-is =
        let o = nat_list_cmp_total in
        let key-to : slice_cmp nat_cmp key to.0 ≡ Less = o.antisymm key to.0 ∙ ap ordering_reverse o-is in
        let to-from : slice_cmp nat_cmp to.0 from.0 ≡ Less = o.antisymm to.0 from.0 ∙ ap ordering_reverse above in
        let from-key : slice_cmp nat_cmp from.0 key ≡ Greater = o.antisymm from.0 key ∙ ap ordering_reverse (o.trans key to.0 from.0 key-to to-from) in
        ap (λ p. is_le p && true) from-key

-- ---- what each index is

keys_shown : (es : List Tied) → AreTied false es → keys_of es ≡ map shown es
keys_shown [] tied = refl
keys_shown (e ∷ es) tied = ap₂ (λ (n : ℕ) (r : List (List ℕ × ℕ)). (e.0.0, n) ∷ r) tied.0 (keys_shown es tied.1)

-- keys that are in order with their numbers are so without them, where all numbers are 0
keys_above : (k : List ℕ × ℕ) (es : List Tied) → k.1 ≡ 0 → AreTied true es → AllByRecursion (λ y. entry_cmp k y ≡ Less) (keys_of es) → AllByRecursion (λ y. slice_cmp nat_cmp k.0 y ≡ Less) (map (λ e. e.0) (map shown es))
keys_above k [] untied tied above = tt
keys_above k (e ∷ es) untied tied above =
    (only_less (slice_cmp nat_cmp k.0 e.0.0) (ap₂ (λ (m n : ℕ). ordering_then (slice_cmp nat_cmp k.0 e.0.0) (nat_cmp m n)) (sym untied) (sym tied.0) ∙ above.0), keys_above k es untied tied.1 above.1)
  where
    only_less : (o : Ordering) → ordering_then o (nat_cmp 0 0) ≡ Less → o ≡ Less
    only_less Less h = refl
    only_less Equal h = absurd cc
    only_less Greater h = absurd cc

-- and then so are the entries
entries_above : (k : List ℕ × ℕ) (es : List Tied) → AllByRecursion (λ y. slice_cmp nat_cmp k.0 y ≡ Less) (map (λ e. e.0) (map shown es)) → AllByRecursion (λ y. entry_cmp k y ≡ Less) (map shown es)
entries_above k [] above = tt
entries_above k (e ∷ es) above = (ap (λ o. ordering_then o (nat_cmp k.1 e.1)) above.0, entries_above k es above.1)

keys_sorted : (es : List Tied) → AreTied true es → IsStrictlySortedBy entry_cmp (keys_of es) → IsStrictlySortedBy (slice_cmp nat_cmp) (map (λ e. e.0) (map shown es))
unfolding IsStrictlySortedBy
keys_sorted [] tied sorted = tt
keys_sorted (e ∷ es) tied sorted = (keys_above e.0 es tied.0 tied.1 sorted.0, keys_sorted es tied.1 sorted.1)

entries_sorted : (es : List Tied) → IsStrictlySortedBy (slice_cmp nat_cmp) (map (λ e. e.0) (map shown es)) → IsStrictlySortedBy entry_cmp (map shown es)
unfolding IsStrictlySortedBy
entries_sorted [] sorted = tt
entries_sorted (e ∷ es) sorted = (entries_above (shown e) es sorted.0, entries_sorted es sorted.1)

pub is_index : (unique : Bool) (es : List Tied) → AreTied unique es → IsStrictlySortedBy entry_cmp (keys_of es) → IsIndex (record { unique = unique; entries = map shown es })
is_index true es tied sorted = let keys = keys_sorted es tied sorted in record { sorted = entries_sorted es keys; unique = λ _. keys }
is_index false es tied sorted = record { sorted = subst (IsStrictlySortedBy entry_cmp) (keys_shown es tied) sorted; unique = λ is. absurd cc }
