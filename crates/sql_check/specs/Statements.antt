-- What statements are checked to be.
use Rattle.std.specs.Prelude.{ℕ, Bool, if◌then◌else◌, List, [], ◌∷◌, length, codes, is_some, Option, Some, None}
use Rattle.volt_value.specs.declared.column.Class.{Class}
use Rattle.volt_value.specs.declared.column.Class.TheVariants as class
use Rattle.volt_catalog.specs.declared.table.Table.{Table}
use Rattle.volt_catalog.specs.Rules.{Contents}
use Rattle.sql_parse.specs.declared.statement.Insert.{Insert}
use Rattle.sql_parse.specs.declared.statement.Update.{Update}
use Rattle.sql_parse.specs.declared.statement.Delete.{Delete}
use Rattle.sql_plan.specs.declared.prepared.Action.{Action}
use Rattle.sql_plan.specs.declared.prepared.Scope.{Scope}
use Rattle.sql_plan.specs.declared.prepared.Scope.TheVariants.{OnePartition, AllPartitions, Replicated}
use Rattle.sql_resolve.specs.declared.bound.Bound.{Bound}
use Rattle.sql_resolve.specs.declared.notes.Notes.{Notes}
use Rattle.sql_resolve.specs.Named.{no_tables, tables, named, in_program}
use Rattle.sql_resolve.specs.Notes.{nothing, limited, most_questions}
use Rattle.sql_resolve.specs.Tables.{table_named}
use Rattle.sql_check.specs.declared.examined.Examined.{Examined}
use Rattle.sql_check.specs.Writes.{inserted, updated, deleted}

-- where a statement runs
abbrev pub scope_of : Bool → Bool → Scope
scope_of single partitioned = if single then OnePartition else (if partitioned then AllPartitions else Replicated)

-- how many `?`, how many places that take a value of its program, and how many outputs a statement may have
abbrev pub most_params : Option Bound → ℕ
most_params None = most_questions
most_params (Some bound) = 255

abbrev pub most_columns : ℕ
most_columns = 255

-- a statement with its faults
abbrev pub finished : Option Bound → Bool → Bool → List (List ℕ × Class) → Notes → Action → Examined
finished program single partitioned columns notes action = record {
  prepared = record { scope = scope_of single partitioned; params = notes.params; columns = columns; action = action };
  args = notes.args;
  fault = (limited most_columns (length columns) (limited (most_params program) (length notes.params) notes)).fault;
}

-- what changes a table gives the number of rows
abbrev pub modified_tuples : List (List ℕ × Class)
modified_tuples = (codes "modified_tuples", class.Int) ∷ []

-- what changes a table that was found
abbrev pub changed : Option Bound → Bool → Option (ℕ × Table) → (ℕ → Table → Notes → Notes × Action) → Option Examined
changed program single None go = None
changed program single (Some found) go =
    let done = go found.0 found.1 nothing in
    Some (finished program single (is_some found.1.part) modified_tuples done.0 done.1)

-- no table's columns may stand in VALUES
abbrev pub examined_insert : Contents → Option Bound → Insert → Bool → Option Examined
examined_insert catalog program insert single =
    changed program single (table_named catalog insert.table) (λ number table. inserted (in_program program no_tables) number table insert)

abbrev pub examined_update : Contents → Option Bound → Update → Bool → Option Examined
examined_update catalog program update single =
    changed program single (table_named catalog update.table) (λ number table.
    updated (in_program program (tables (named update.table table) None)) number table update)

abbrev pub examined_delete : Contents → Option Bound → Delete → Bool → Option Examined
examined_delete catalog program delete single =
    changed program single (table_named catalog delete.table) (λ number table.
    deleted (in_program program (tables (named delete.table table) None)) number delete)
