-- Which integers and texts are values.
use Rattle.std.specs.Prelude.{ℕ, ◌<◌, ◌^◌, Bool, nat_le, length, ℤ, nat_abs, IsTrue}
use Rattle.std.specs.Str.{IsUtf8}
use Rattle.volt_value.specs.declared.value.Value.{Value}
use Rattle.volt_value.specs.declared.value.Value.TheVariants.{Null, Int, Text}

-- the greatest number of a BIGINT; with a minus sign it is the least
abbrev pub greatest : ℕ
greatest = 9223372036854775807

-- an integer from the least to the greatest BIGINT
abbrev pub is_bigint : ℤ → Bool
is_bigint z = nat_le (nat_abs z) greatest

-- what a column or a parameter may hold: each integer of a BIGINT, each text whose length four bytes hold
abbrev pub IsValue : Value → Type 0
IsValue Null = Unit {0}
IsValue (Int z) = IsTrue (is_bigint z)
IsValue (Text t) = IsUtf8 t × (length t < 2 ^ 32)

-- a value that `encode` may be given; that a text is UTF-8 is known of each
abbrev pub HasSpelling : Value → Type 0
HasSpelling Null = Unit {0}
HasSpelling (Int z) = IsTrue (is_bigint z)
HasSpelling (Text t) = length t < 2 ^ 32
