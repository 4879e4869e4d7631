-- Tables, and the steps that undo their changes.
use Rattle.std.specs.Prelude.{◌≡◌, ℕ, ◌<◌, true, List, [], ◌∷◌, ◌++◌, length, slice_get, slice_set, if◌then◌else◌, Result, Ok, Err}
use Rattle.std.specs.Option.{unwrap_or}
use Rattle.volt_value.specs.declared.value.Value.{Value}
use Rattle.table_rows.specs.Order.{row_key}
use Rattle.table_rows.specs.Table.{Table, no_rows, primary_key, inserted, deleted, updated, CanInsert, CanUpdate}
use Rattle.table_store.specs.declared.step.Step.{Step}
use Rattle.table_store.specs.declared.step.Step.TheVariants.{Inserted, Deleted, Updated}

-- the table of a number, or one without columns where there is none
abbrev pub table_at : List Table → ℕ → Table
table_at tables number = unwrap_or (slice_get tables number) (no_rows (record { fields = []; keys = [] }))

-- with another table of a number
abbrev pub with_table : List Table → ℕ → Table → List Table
with_table tables number table = slice_set tables number table

-- the tables before the change that a step undoes
abbrev pub undone : Step → List Table → List Table
undone (Inserted number key) tables = with_table tables number (deleted (table_at tables number) key)
undone (Deleted number row) tables = with_table tables number (inserted (table_at tables number) row.items)
undone (Updated number key row) tables = with_table tables number (updated (table_at tables number) row.items)

-- the tables before all of these changes, of which the last is the newest
abbrev pub rolled : List Step → List Table → List Table
rolled [] tables = tables
rolled (step ∷ steps) tables = undone step (rolled steps tables)

-- the tables as they stood before each of these changes, the oldest first
abbrev pub past_of : List Step → List Table → List (List Table)
past_of [] tables = []
past_of (step ∷ steps) tables = rolled (step ∷ steps) tables ∷ past_of steps tables

-- a step can be undone but for want of memory
abbrev pub CanUndo : Step → List Table → Type 0
CanUndo (Inserted number key) tables = number < length tables
CanUndo (Deleted number row) tables = (number < length tables) × CanInsert (table_at tables number) row.items
CanUndo (Updated number key row) tables = (number < length tables) × (key ≡ row_key (primary_key (table_at tables number).schema) row.items) × CanUpdate (table_at tables number) row.items

abbrev pub AreUndoable : List Step → List Table → Type 0
AreUndoable [] tables = Unit {0}
AreUndoable (step ∷ steps) tables = CanUndo step (rolled steps tables) × AreUndoable steps tables

-- tables as they stand, and as they stood before each change that can be undone, the oldest first
pub record Store : Type 0 where
  pub now : List Table
  pub past : List (List Table)

-- all that they were, the newest last
abbrev pub history : Store → List (List Table)
history store = store.past ++ store.now ∷ []

-- one more change
abbrev pub changed : Store → List Table → Store
changed store now = record { now = now; past = store.past ++ store.now ∷ [] }
