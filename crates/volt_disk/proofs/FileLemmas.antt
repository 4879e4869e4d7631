-- The files of a disk in memory, by their numbers.
use Rattle.std.proofs.Common.{◌≡◌, ◌≢◌, ℕ, Bool, true, cond, List, [], ◌∷◌, Option, Some, None, Ordering, refl, ap, ◌∙◌, inl, inr, arith}
use Rattle.std.specs.Prelude.{unwrap_or, option_map}
use Rattle.std.specs.declared.cmp.Ordering.TheVariants.{Less, Equal, Greater}
use Rattle.std.specs.Ordering.{nat_cmp, is_eq, match_ordering}
use Rattle.std.specs.Cmp.{nat_cmp_total}
use Rattle.std.specs.Map.{lookup, set_value, keys_of}
use Rattle.std.specs.Map.Calls.{RetainsPairs}
use Rattle.std.specs.BTreeMap.{is_at, insert_entry}
use Rattle.std.specs.List.Sorted.{IsStrictlySortedBy}
use Rattle.std.proofs.lemmas.Map.{lookup-none}
use Rattle.std.proofs.lemmas.Map.Entries.{none_below_head}
use Rattle.std.proofs.lemmas.Map.Made.{lookup-map_values}
use Rattle.std.proofs.lemmas.Bool.Decides.{nat_tests}
use Rattle.std.proofs.lemmas.Bool.{cases_Bool}
use Rattle.volt_disk.specs.File.{IsImage}
use Rattle.volt_disk.specs.Effects.{synced, names_synced, CyclesTo}
use Rattle.volt_disk.specs.Stored.{Stored, not_stored, with_only, stored_synced, stored_names_synced, lost, stored_at, with_file, with_synced, all_names_synced, all_lost}

-- where there is a file of the number, a file in its place is one put among the files
set-step : (n : ℕ) (e : ℕ × Stored) (es : List (ℕ × Stored)) (s t : Stored) (r : Ordering) → nat_cmp n e.0 ≡ r → IsStrictlySortedBy nat_cmp (keys_of (e ∷ es)) → lookup (is_at (nat_cmp n)) (e ∷ es) ≡ Some t → (lookup (is_at (nat_cmp n)) es ≡ Some t → set_value (is_at (nat_cmp n)) es s ≡ insert_entry nat_cmp es n s) → cond (is_eq r) ((e.0, s) ∷ es) (e ∷ set_value (is_at (nat_cmp n)) es s) ≡ match_ordering r ((n, s) ∷ e ∷ es) ((e.0, s) ∷ es) (e ∷ insert_entry nat_cmp es n s)
set-step n e es s t Less q sorted found rest =
    let none = lookup-none (is_at (nat_cmp n)) (e ∷ es) (none_below_head nat_cmp_total n e es sorted q) in absurd (cc)
set-step n e es s t Equal q sorted found rest = refl
set-step n e es s t Greater q sorted found rest = ap (λ l. e ∷ l) (rest (rw q at found))

pub set_value-found : (n : ℕ) (files : List (ℕ × Stored)) (s t : Stored) → IsStrictlySortedBy nat_cmp (keys_of files) → lookup (is_at (nat_cmp n)) files ≡ Some t → set_value (is_at (nat_cmp n)) files s ≡ with_file n s files
unfolding IsStrictlySortedBy
set_value-found n [] s t sorted found = absurd (cc)
set_value-found n (e ∷ es) s t sorted found =
    set-step n e es s t (nat_cmp n e.0) refl sorted found (set_value-found n es s t sorted.1)

pub set_value-none : (n : ℕ) (files : List (ℕ × Stored)) (s : Stored) → lookup (is_at (nat_cmp n)) files ≡ None → set_value (is_at (nat_cmp n)) files s ≡ files
set_value-none n [] s none = refl
set_value-none n (e ∷ es) s none =
    elim (cases_Bool (is_at (nat_cmp n) e.0)) [
      | inl here ↦ let is = rw here at none in absurd (cc)
      | inr there ↦ rw there (ap (λ l. e ∷ l) (set_value-none n es s (rw there at none)))
    ]

-- the file that was put there is found, and the others are as they were
pub stored_at-put : (n : ℕ) (s : Stored) (files : List (ℕ × Stored)) → stored_at n (with_file n s files) ≡ s
stored_at-put n s [] = grind (arith, nat_tests)
stored_at-put n s (e ∷ es) = grind (arith, nat_tests, stored_at-put n s es)

pub stored_at-put_other : (n m : ℕ) (s : Stored) (files : List (ℕ × Stored)) → m ≢ n → stored_at m (with_file n s files) ≡ stored_at m files
stored_at-put_other n m s [] other = grind (arith, nat_tests)
stored_at-put_other n m s (e ∷ es) other = grind (arith, nat_tests, stored_at-put_other n m s es other)

-- after a sync of a file that one is synced, and the others are as they were
lookup-set : (test : ℕ → Bool) (files : List (ℕ × Stored)) (s t : Stored) → lookup test files ≡ Some t → lookup test (set_value test files s) ≡ Some s
lookup-set test [] s t found = absurd (cc)
lookup-set test (e ∷ es) s t found =
    elim (cases_Bool (test e.0)) [ inl here ↦ rw (here, here) refl | inr there ↦ rw (there, there) (lookup-set test es s t (rw there at found)) ]

synced_where : (n : ℕ) (files : List (ℕ × Stored)) (o : Option Stored) → lookup (is_at (nat_cmp n)) files ≡ o → (stored_at n (with_synced n files)).file ≡ synced (stored_at n files).file
synced_where n files (Some t) found =
    rw (lookup-set (is_at (nat_cmp n)) files (stored_synced (stored_at n files)) t found) refl
synced_where n files None none =
    rw (set_value-none n files (stored_synced (stored_at n files)) none, none) refl

pub stored_at-synced : (n : ℕ) (files : List (ℕ × Stored)) → (stored_at n (with_synced n files)).file ≡ synced (stored_at n files).file
stored_at-synced n files = synced_where n files (lookup (is_at (nat_cmp n)) files) refl

lookup-set_other : (n m : ℕ) (files : List (ℕ × Stored)) (s : Stored) → m ≢ n → lookup (is_at (nat_cmp m)) (set_value (is_at (nat_cmp n)) files s) ≡ lookup (is_at (nat_cmp m)) files
lookup-set_other n m [] s other = refl
lookup-set_other n m (e ∷ es) s other = grind (arith, nat_tests, lookup-set_other n m es s other)

pub stored_at-synced_other : (n m : ℕ) (files : List (ℕ × Stored)) → m ≢ n → stored_at m (with_synced n files) ≡ stored_at m files
stored_at-synced_other n m files other = ap (λ o. unwrap_or o not_stored) (lookup-set_other n m files (stored_synced (stored_at n files)) other)

-- after a sync of the names each file's name is
names_where : (o : Option Stored) → (unwrap_or (option_map stored_names_synced o) not_stored).file ≡ names_synced (unwrap_or o not_stored).file
names_where (Some s) = refl
names_where None = refl

pub stored_at-names_synced : (n : ℕ) (files : List (ℕ × Stored)) → (stored_at n (all_names_synced files)).file ≡ names_synced (stored_at n files).file
stored_at-names_synced n files =
    ap (λ o. (unwrap_or o not_stored).file) (lookup-map_values stored_names_synced (is_at (nat_cmp n)) files)
    ∙ names_where (lookup (is_at (nat_cmp n)) files)

-- What a call on a file makes of it, and of the choice and the state of the draws: it has the image that is lost to.
pub record LosesTo (choice x : ℕ) (keeps : Bool) (before now : Stored) (choice_now x_now : ℕ) : Type 0 where
  pub kept : keeps ≡ true
  pub after : now ≡ with_only (lost choice x before).0
  pub same : choice_now ≡ choice
  pub state : x_now ≡ (lost choice x before).1
  pub image : IsImage before.file (lost choice x before).0

-- what a closure leaves that is called on each file in turn, with a choice and a state of the draws
module _ {F : Type 0} (T : F → ℕ → Stored → Bool → Stored → F → Type 0) (choice x : F → ℕ) (each : (f : F) (k : ℕ) (v : Stored) (b : Bool) (w : Stored) (f' : F) → T f k v b w f' → LosesTo (choice f) (x f) b v w (choice f') (x f')) where
  pub retained-all_lost : (f : F) (es kept : List (ℕ × Stored)) → RetainsPairs T f es kept → kept ≡ all_lost (choice f) (x f) es
  retained-all_lost f [] kept ran = ran
  retained-all_lost f (e ∷ es) kept ran =
      let call = each f e.0 e.1 ran.0 ran.1 ran.2 ran.4 in
      let rest = retained-all_lost ran.2 es ran.3 ran.5 in
      ran.6 ∙ rw (call.kept, call.after, rest, call.same, call.state)

  pub retained-cycles : (f : F) (es kept : List (ℕ × Stored)) → RetainsPairs T f es kept → (n : ℕ) → CyclesTo (stored_at n es).file (stored_at n kept).file
  retained-cycles f [] kept ran n = rw ran (inl (record { no_shorter = omega arith; no_longer = omega arith; others = λ i less beyond. refl }), refl)
  retained-cycles f (e ∷ es) kept ran n =
      let call = each f e.0 e.1 ran.0 ran.1 ran.2 ran.4 in
      let rest = retained-cycles ran.2 es ran.3 ran.5 n in
      rw (ran.6, call.kept)
      (elim (cases_Bool (is_at (nat_cmp n) e.0)) [ inl here ↦ rw (here, call.after) (call.image, refl) | inr there ↦ rw there rest ])
