-- Which values a column takes.
use Rattle.std.specs.Prelude.{ℕ, nat_le, if◌then◌else◌, length, ℤ, nat_abs, Option, Some, None, Result, Ok, Err}
use Rattle.volt_value.specs.declared.value.Value.{Value}
use Rattle.volt_value.specs.declared.value.Value.TheVariants.{Null, Int, Text}
use Rattle.volt_value.specs.declared.column.ColType.{ColType}
use Rattle.volt_value.specs.declared.column.ColType.TheVariants.{Tiny, Small, Integer, Big, Varchar}
use Rattle.volt_value.specs.declared.column.Class.{Class}
use Rattle.volt_value.specs.declared.column.Class.TheVariants as class
use Rattle.volt_value.specs.declared.column.Misfit.{Misfit}
use Rattle.volt_value.specs.declared.column.Misfit.TheVariants.{OutOfRange, TooLong, WrongClass}
use Rattle.volt_value.specs.Values.{greatest, is_bigint}

-- the class of a type's values
abbrev pub class_of : ColType → Class
class_of (Varchar most) = class.Text
class_of _ = class.Int

-- the greatest number of a type of integers; with a minus sign it is the least
abbrev pub greatest_of : ColType → Option ℕ
greatest_of Tiny = Some 127
greatest_of Small = Some 32767
greatest_of Integer = Some 2147483647
greatest_of Big = Some greatest
greatest_of (Varchar most) = None

-- whether a type that holds integers up to this one, in either sign, takes an integer
abbrev pub integer_fits : ℤ → Option ℕ → Result (Unit {0}) Misfit
integer_fits z (Some most) = if nat_le (nat_abs z) most then Ok tt else Err OutOfRange
integer_fits z None = Err WrongClass

-- whether a type takes a value: NULL always, an integer within the type's range, a text of at most so many bytes
abbrev pub value_fits : Value → ColType → Result (Unit {0}) Misfit
value_fits Null kind = Ok tt
value_fits (Int z) kind = if is_bigint z then integer_fits z (greatest_of kind) else Err OutOfRange
value_fits (Text t) (Varchar most) = if nat_le (length t) most then Ok tt else Err TooLong
value_fits (Text t) _ = Err WrongClass
