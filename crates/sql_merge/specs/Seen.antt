-- What the code has in its hands, as the definitions see it.
use Rattle.std.specs.Prelude.{List, map, Option, Some, None}
use denote.Ref.{Bor}
use Rattle.volt_value.specs.declared.value.Value.{Value}
use Rattle.volt_value.specs.declared.value.Value.TheVariants.{Null}
use Rattle.sql_plan.specs.declared.partial.KeyedRow.{KeyedRow}
use Rattle.sql_plan.specs.declared.row_key.Directed.{Directed}
use Rattle.sql_plan.specs.Rows.{Cells}

-- a value that may be missing: then it is NULL
abbrev pub seen : Option (Bor Value) → Value
seen None = Null
seen (Some x) = x.now

-- a row with what it is put in order by
abbrev pub pair_of : KeyedRow → List Directed × Cells
pair_of row = (row.key, row.row)
