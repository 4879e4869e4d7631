-- The order of rows.
use Rattle.std.specs.Prelude.{List}
use Rattle.std.specs.declared.cmp.Ordering.{Ordering}
use Rattle.std.specs.Cmp.{IsTotalOrder}
use Rattle.std.specs.Cmp.Lexicographic.{slice_cmp, lists_total}
use Rattle.volt_value.specs.declared.value.Value.{Value}
use Rattle.volt_value.specs.Order.{value_cmp}
use Rattle.volt_value.specs.OrderLaws.{value_total}

-- a row, as clauses see it
abbrev pub Cells : Type 0
Cells = List Value

-- by the first values, then by the second ones, and so on
abbrev pub row_cmp : Cells → Cells → Ordering
row_cmp = slice_cmp value_cmp

pub row_total : IsTotalOrder row_cmp
row_total = lists_total value_total
