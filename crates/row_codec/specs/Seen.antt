-- The value that a borrowed one is.
use Rattle.volt_value.specs.declared.value.Value.{Value}
use Rattle.volt_value.specs.declared.value.Value.TheVariants as value
use Rattle.row_codec.specs.declared.cell.Cell.{Cell}
use Rattle.row_codec.specs.declared.cell.Cell.TheVariants.{Null, Int, Text}

abbrev pub seen : Cell → Value
seen Null = value.Null
seen (Int z) = value.Int z
seen (Text t) = value.Text t.now
