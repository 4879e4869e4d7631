-- A change of one table that is noted.
use Rattle.std.proofs.Common.{◌≡◌, ℕ, zero, suc, ◌<◌, Bool, true, false, cond, inl, inr, Vec, get_or, List, [], ◌∷◌, ◌++◌, length, Option, Some, None, is_some, IfSome, refl, sym, ap, ap₂, ◌∙◌, subst, arith}
use Rattle.std.proofs.lemmas.Bool.{cases_Bool}
use Rattle.std.proofs.lemmas.Slice.Eq.{bytes_eq-Decides}
use Rattle.volt_value.specs.declared.value.Value.{Value}
use Rattle.table_rows.specs.Order.{row_key}
use Rattle.table_rows.specs.Table.{Table, primary_key, has_key, inserted, deleted, updated, find_row, row_of_key, CanInsert, CanUpdate}
use Rattle.table_store.specs.declared.step.Step.{Step}
use Rattle.table_store.specs.declared.step.Step.TheVariants.{Inserted, Deleted, Updated}
use Rattle.table_store.specs.Steps.{Store, table_at, with_table, undone, past_of, CanUndo, AreUndoable, changed}
use Rattle.table_store.proofs.StepLemmas.{at_with, back_with, length-with, noted_undoable, noted_store}

-- the element of a number is the table of that number
pub here_is : (tables : List Table) (number : ℕ) (t : Table) → number < length tables → t ≡ get_or tables number t → t ≡ table_at tables number
here_is [] number t within is = absurd (omega arith)
here_is (x ∷ tables) zero t within is = is
here_is (x ∷ tables) (suc number) t within is = here_is tables number t (omega arith) is

-- what a change that was noted leaves
abbrev pub IsNoted : List Step → List Step → List Table → List Table → List Table → Type 0
IsNoted steps after tables now next = AreUndoable after now × (record { now = now; past = past_of after now } ≡ changed (record { now = tables; past = past_of steps tables }) next)

noted : (steps after : List Step) (step : Step) (tables : List Table) (number : ℕ) (new next : Table) → after ≡ steps ++ step ∷ [] → undone step (with_table tables number new) ≡ tables
    → CanUndo step (with_table tables number new) → new ≡ next → AreUndoable steps tables → IsNoted steps after tables (with_table tables number new) (with_table tables number next)
noted steps after step tables number new next after_is back can new_is are = (
  noted_undoable steps after step tables (with_table tables number new) after_is back can are,
  noted_store steps after step tables (with_table tables number new) (with_table tables number next) after_is back (ap (with_table tables number) new_is),
)

still_within : (tables : List Table) (number : ℕ) (new : Table) → number < length tables → number < length (with_table tables number new)
still_within tables number new within = subst (λ n. number < n) (sym (length-with tables number new)) within

pub insert_done : (steps after : List Step) (tables : List Table) (number : ℕ) (key : List ℕ) (row : List Value) (t u new : Table) → number < length tables → t ≡ get_or tables number t → u ≡ get_or tables number u
    → key ≡ row_key (primary_key u.schema) row → new ≡ inserted t row → deleted new (row_key (primary_key t.schema) row) ≡ t → after ≡ steps ++ Inserted number key ∷ [] → AreUndoable steps tables
    → IsNoted steps after tables (with_table tables number new) (with_table tables number (inserted (table_at tables number) row))
insert_done steps after tables number key row t u new within here also key_is new_is back after_is are =
    let at : t ≡ table_at tables number = here_is tables number t within here in
    let same : u ≡ t = here_is tables number u within also ∙ sym at in
    noted steps after (Inserted number key) tables number new (inserted (table_at tables number) row) after_is
    (back_with (λ (x : Table). deleted x key) tables number new within (ap (deleted new) (key_is ∙ ap (λ (x : Table). row_key (primary_key x.schema) row) same) ∙ back ∙ at))
    (still_within tables number new within) (new_is ∙ ap (λ (x : Table). inserted x row) at) are

pub delete_done : (steps after : List Step) (tables : List Table) (number : ℕ) (key : List ℕ) (step : Step) (row : List Value) (t new : Table) → number < length tables → t ≡ get_or tables number t
    → new ≡ deleted t key → (inserted new row ≡ t) × CanInsert new row
    → undone step (with_table tables number new) ≡ with_table (with_table tables number new) number (inserted (table_at (with_table tables number new) number) row)
    → ((number < length (with_table tables number new)) × CanInsert (table_at (with_table tables number new) number) row → CanUndo step (with_table tables number new))
    → after ≡ steps ++ step ∷ [] → AreUndoable steps tables
    → IsNoted steps after tables (with_table tables number new) (with_table tables number (deleted (table_at tables number) key))
delete_done steps after tables number key step row t new within here new_is undoes undone_is can_is after_is are =
    let at : t ≡ table_at tables number = here_is tables number t within here in
    noted steps after step tables number new (deleted (table_at tables number) key) after_is
    (undone_is ∙ back_with (λ (x : Table). inserted x row) tables number new within (undoes.0 ∙ at))
    (can_is (still_within tables number new within, subst (λ (x : Table). CanInsert x row) (sym (at_with tables number new within)) undoes.1))
    (new_is ∙ ap (λ (x : Table). deleted x key) at) are

-- the row of a key has this key
found_passes : (test : List Value → Bool) (rows : List (List Value)) (row : List Value) → find_row test rows ≡ Some row → test row ≡ true
found_passes test [] row found = absurd cc
found_passes test (r ∷ rows) row found = elim (cases_Bool (test r)) [
  | inl hit ↦ sym (ap test (some_is (sym (ap (λ b. cond b (Some r) (find_row test rows)) hit) ∙ found))) ∙ hit
  | inr miss ↦ found_passes test rows row (sym (ap (λ b. cond b (Some r) (find_row test rows)) miss) ∙ found)
]
  where
    some_is : {a b : List Value} → Some a ≡ Some b → a ≡ b
    some_is h = cc

key_of_row : (t : Table) (key : List ℕ) (row : List Value) → row_of_key t key ≡ Some row → key ≡ row_key (primary_key t.schema) row
key_of_row t key row found =
    (bytes_eq-Decides key (row_key (primary_key t.schema) row)).0 (found_passes (has_key (primary_key t.schema) key) t.rows row found)

pub update_done : (steps after : List Step) (tables : List Table) (number : ℕ) (key old_key : List ℕ) (step : Step) (row old : List Value) (t u new : Table) → number < length tables → t ≡ get_or tables number t → u ≡ get_or tables number u
    → row_of_key t key ≡ Some old → key ≡ row_key (primary_key (table_at tables number).schema) row → old_key ≡ row_key (primary_key u.schema) row → new ≡ updated t row
    → (updated new old ≡ t) × CanUpdate new old
    → undone step (with_table tables number new) ≡ with_table (with_table tables number new) number (updated (table_at (with_table tables number new) number) old)
    → ((number < length (with_table tables number new)) × (old_key ≡ row_key (primary_key (table_at (with_table tables number new) number).schema) old) × CanUpdate (table_at (with_table tables number new) number) old → CanUndo step (with_table tables number new))
    → after ≡ steps ++ step ∷ [] → AreUndoable steps tables
    → IsNoted steps after tables (with_table tables number new) (with_table tables number (updated (table_at tables number) row))
update_done steps after tables number key old_key step row old t u new within here also found stays key_is new_is undoes undone_is can_is after_is are =
    let at : t ≡ table_at tables number = here_is tables number t within here in
    let like : u ≡ table_at tables number = here_is tables number u within also in
    let schema : t.schema ≡ new.schema = sym (ap (λ (x : Table). x.schema) new_is) in
    let here_after = at_with tables number new within in
    let old_key_is : old_key ≡ row_key (primary_key new.schema) old =
    key_is ∙ ap (λ (x : Table). row_key (primary_key x.schema) row) like ∙ sym stays ∙ key_of_row t key old found ∙ ap (λ x. row_key (primary_key x) old) schema in
    noted steps after step tables number new (updated (table_at tables number) row) after_is
    (undone_is ∙ back_with (λ (x : Table). updated x old) tables number new within (undoes.0 ∙ at))
    (can_is (
      still_within tables number new within,
      subst (λ (x : Table). old_key ≡ row_key (primary_key x.schema) old) (sym here_after) old_key_is,
      subst (λ (x : Table). CanUpdate x old) (sym here_after) undoes.1,
    ))
    (new_is ∙ ap (λ (x : Table). updated x row) at) are

-- ---- what was there before

pub at_number : (P : Table → Type 0) (tables : List Table) (number : ℕ) (t : Table) → number < length tables → t ≡ get_or tables number t → P t → P (table_at tables number)
at_number P tables number t within here is = subst P (here_is tables number t within here) is

-- an update that is undone finds its row
pub update_undone : (tables : List Table) (number : ℕ) (key : List ℕ) (row : List Value) (held : Bool) (t new : Table) → number < length tables → key ≡ row_key (primary_key (table_at tables number).schema) row → CanUpdate (table_at tables number) row
    → t ≡ get_or tables number t → held ≡ is_some (row_of_key t key) → (held ≡ true → new ≡ updated t row) → with_table tables number new ≡ with_table tables number (updated (table_at tables number) row)
update_undone tables number key row held t new within key_is can here held_is new_is =
    let at : t ≡ table_at tables number = here_is tables number t within here in
    let is : held ≡ true = held_is ∙ ap₂ (λ (x : Table) (k : List ℕ). is_some (row_of_key x k)) at key_is ∙ can.held in
    ap (with_table tables number) (new_is is ∙ ap (λ (x : Table). updated x row) at)
