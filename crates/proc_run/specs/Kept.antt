-- Rows that are held, or not.
use Rattle.std.specs.Prelude.{List, [], Option, Some, None}
use Rattle.sql_plan.specs.Rows.{Cells}

abbrev pub rows_in : Option (List Cells) → List Cells
rows_in None = []
rows_in (Some rows) = rows
