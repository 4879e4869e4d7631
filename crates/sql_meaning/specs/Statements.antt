-- What a statement means: a new database and rows, or a fault. A statement with a fault changes nothing.
use Rattle.std.specs.Prelude.{ℕ, Bool, true, if◌then◌else◌, List, Option, Some, None, Result, Ok, Err}
use Rattle.volt_catalog.specs.Rules.{Contents}
use Rattle.sql_plan.specs.declared.fault.Fault.{Fault}
use Rattle.sql_plan.specs.declared.fault.Fault.TheVariants.{WrongPartition}
use Rattle.sql_plan.specs.declared.prepared.Action.{Action}
use Rattle.sql_plan.specs.declared.prepared.Action.TheVariants.{Insert, Update, Delete, Select}
use Rattle.sql_plan.specs.declared.prepared.InsertPlan.{InsertPlan}
use Rattle.sql_plan.specs.declared.prepared.Prepared.{Prepared}
use Rattle.sql_plan.specs.Rows.{Cells}
use Rattle.sql_meaning.specs.Judged.{with}
use Rattle.sql_meaning.specs.Expressions.{Reads}
use Rattle.sql_meaning.specs.Tables.{table_at, lies_in}
use Rattle.sql_meaning.specs.Database.{Database, rows_of, set_rows}
use Rattle.sql_meaning.specs.Changes.{Fate, inserted_row, inserted, updated, deleted, changed, counted}
use Rattle.sql_meaning.specs.Selects.{selected}

-- Where a statement runs: in a procedure on one partition, which has the partition's share of the
-- database for all there is; or on the whole database.

-- a row that is put in lies in the procedure's partition
abbrev pub is_here : ℕ → Contents → Option ℕ → ℕ → Cells → Bool
is_here parts catalog None number row = true
is_here parts catalog (Some part) number row = lies_in parts part (table_at catalog number) row

abbrev pub insert_means : ℕ → Contents → Option ℕ → InsertPlan → Cells → Database → Result (Database × List Cells) Fault
insert_means parts catalog here insert args db =
    with (inserted_row catalog insert args) (λ row.
    if is_here parts catalog here insert.table row
    then with (inserted catalog insert.table (rows_of db insert.table) row) (λ rows.
    Ok (set_rows db insert.table rows, counted 1))
    else Err WrongPartition)

-- UPDATE or DELETE
abbrev pub change_means : Contents → ℕ → Reads Fate → Cells → Database → Result (Database × List Cells) Fault
change_means catalog number fate args db =
    with (changed catalog number fate args (rows_of db number)) (λ made.
    Ok (set_rows db number made.0, counted made.1))

abbrev pub action_means : ℕ → Contents → Option ℕ → Action → Cells → Database → Result (Database × List Cells) Fault
action_means parts catalog here (Insert insert) args db = insert_means parts catalog here insert args db
action_means parts catalog here (Update update) args db = change_means catalog update.table (updated catalog update) args db
action_means parts catalog here (Delete delete) args db = change_means catalog delete.table (deleted delete) args db
action_means parts catalog here (Select select) args db = with (selected select args db) (λ rows. Ok (db, rows))

abbrev pub means : ℕ → Contents → Option ℕ → Prepared → Cells → Database → Result (Database × List Cells) Fault
means parts catalog here statement args db = action_means parts catalog here statement.action args db
