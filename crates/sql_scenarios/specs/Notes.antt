-- Notes, in a table that is partitioned by their ids, and codes, of which each partition has all rows.
use Rattle.std.specs.Prelude.{ℕ, Bool, true, false, List, [], ◌∷◌, map, codes, Some, None}
use Rattle.volt_value.specs.declared.value.Value.{Value}
use Rattle.volt_value.specs.declared.value.Value.TheVariants.{Null, Text}
use Rattle.volt_value.specs.declared.column.ColType.{ColType}
use Rattle.volt_value.specs.declared.column.ColType.TheVariants.{Big, Varchar}
use Rattle.volt_catalog.specs.declared.column.Column.{Column}
use Rattle.volt_catalog.specs.declared.table.Table.{Table}
use Rattle.volt_catalog.specs.declared.table.IndexDef.{IndexDef}
use Rattle.volt_catalog.specs.Rules.{Contents}
use Rattle.sql_plan.specs.declared.expression.Scalar.{Scalar}
use Rattle.sql_plan.specs.declared.expression.Scalar.TheVariants.{Column as Col}
use Rattle.sql_plan.specs.declared.expression.Cond.{Cond}
use Rattle.sql_plan.specs.declared.expression.Cond.TheVariants.{And}
use Rattle.sql_plan.specs.declared.prepared.Action.TheVariants.{Insert, Update, Delete, Select}
use Rattle.sql_plan.specs.declared.prepared.Prepared.{Prepared}
use Rattle.sql_plan.specs.declared.prepared.Scope.TheVariants.{AllPartitions, Replicated}
use Rattle.sql_plan.specs.declared.select.Shape.TheVariants.{Rows}
use Rattle.sql_plan.specs.Rows.{Cells}
use Rattle.sql_meaning.specs.WellFormed.{ascending}
use Rattle.sql_meaning.specs.Database.{Database}
use Rattle.sql_scenarios.specs.Builders.{int, changing, reading}

-- ---- CREATE TABLE notes (id BIGINT NOT NULL, label VARCHAR(2) NOT NULL, draft VARCHAR(3), PRIMARY KEY (id)), partitioned on id

abbrev pub column : List ℕ → ColType → Bool → Column
column name kind not_null = record { name = name; kind = kind; not_null = not_null }

abbrev pub notes : Table
notes =
    record {
      name = codes "notes";
      columns = column (codes "id") Big true ∷ column (codes "label") (Varchar 2) true ∷ column (codes "draft") (Varchar 3) false ∷ [];
      key = 0 ∷ [];
      part = Some 0;
    }

-- ---- CREATE TABLE codes (id BIGINT NOT NULL, code BIGINT, PRIMARY KEY (id)), CREATE UNIQUE INDEX code ON codes (code)

abbrev pub code_table : Table
code_table =
    record {
      name = codes "codes";
      columns = column (codes "id") Big true ∷ column (codes "code") Big false ∷ [];
      key = 0 ∷ [];
      part = None;
    }

abbrev pub code_index : IndexDef
code_index = record { name = codes "code"; table = 1; columns = 1 ∷ []; unique = true }

abbrev pub catalog : Contents
catalog = record { tables = notes ∷ code_table ∷ []; indexes = code_index ∷ [] }

-- ---- databases

abbrev pub note : ℕ → Value → Value → Cells
note id label draft = int id ∷ label ∷ draft ∷ []

abbrev pub text : List ℕ → Value
text characters = Text characters

abbrev pub with_notes : List Cells → Database
with_notes rows = rows ∷ [] ∷ []

abbrev pub four_notes : Database
four_notes =
    with_notes
    (note 1 (text (codes "B")) Null ∷ note 2 (text (codes "a")) Null ∷ note 3 (text (codes "ab")) Null ∷ note 4 (text (codes "b")) Null ∷ [])

abbrev pub with_codes : List (ℕ × Value) → Database
with_codes rows = [] ∷ map (λ row. int row.0 ∷ row.1 ∷ []) rows ∷ []

-- ---- statements

-- INSERT INTO notes VALUES (id, label, draft)
abbrev pub new_note : Scalar → Scalar → Scalar → Prepared
new_note id label draft = changing AllPartitions (Insert (record { table = 0; values = id ∷ label ∷ draft ∷ [] }))

-- UPDATE notes SET label = draft
abbrev pub label_drafts : Prepared
label_drafts = changing AllPartitions (Update (record { table = 0; values = Col 0 ∷ Col 2 ∷ Col 2 ∷ []; filter = And [] }))

-- SELECT id FROM notes WHERE filter
abbrev pub notes_where : Cond → Prepared
notes_where filter =
    reading (codes "id" ∷ [])
    (Select (record { left = 0; right = None; filter = filter; shape = Rows (Col 0 ∷ []) (ascending 0 ∷ []); limit = None }))

-- INSERT INTO codes VALUES (id, code)
abbrev pub new_code : Scalar → Scalar → Prepared
new_code id code = changing Replicated (Insert (record { table = 1; values = id ∷ code ∷ [] }))

-- UPDATE codes SET code = value
abbrev pub set_codes : Scalar → Prepared
set_codes value = changing Replicated (Update (record { table = 1; values = Col 0 ∷ value ∷ []; filter = And [] }))

-- DELETE FROM codes WHERE filter
abbrev pub drop_codes : Cond → Prepared
drop_codes filter = changing Replicated (Delete (record { table = 1; filter = filter }))
