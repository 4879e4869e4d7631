-- The order of values.
use Rattle.std.specs.Ordering.{nat_cmp, int_cmp}
use Rattle.std.specs.Cmp.Lexicographic.{slice_cmp}
use Rattle.std.specs.declared.cmp.Ordering.{Ordering}
use Rattle.std.specs.declared.cmp.Ordering.TheVariants.{Less, Equal, Greater}
use Rattle.volt_value.specs.declared.value.Value.{Value}
use Rattle.volt_value.specs.declared.value.Value.TheVariants.{Null, Int, Text}

-- NULL is below the numbers, and these are below the texts, which go by their bytes
abbrev pub value_cmp : Value → Value → Ordering
value_cmp Null Null = Equal
value_cmp Null (Int b) = Less
value_cmp Null (Text u) = Less
value_cmp (Int a) Null = Greater
value_cmp (Int a) (Int b) = int_cmp a b
value_cmp (Int a) (Text u) = Less
value_cmp (Text t) Null = Greater
value_cmp (Text t) (Int b) = Greater
value_cmp (Text t) (Text u) = slice_cmp nat_cmp t u
