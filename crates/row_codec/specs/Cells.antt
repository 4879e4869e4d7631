-- The bytes of one value in a packed row.
use Rattle.std.specs.Prelude.{ℕ, ◌+◌, ◌-◌, nat_lt, if◌then◌else◌, List, ◌++◌, length, take, drop, replicate, ℤ, negsuc}
use Rattle.std.specs.Int.{w8, w16, w32, w64, to_be_bytes, from_be_bytes, cast_unsigned, cast_signed}
use Rattle.std.specs.Ordering.{int_eq}
use Rattle.std.specs.Str.{IsUtf8}
use Rattle.volt_value.specs.declared.value.Value.{Value}
use Rattle.volt_value.specs.declared.value.Value.TheVariants.{Null, Int, Text}
use Rattle.volt_value.specs.declared.column.ColType.{ColType}
use Rattle.volt_value.specs.declared.column.ColType.TheVariants.{Tiny, Small, Integer, Big, Varchar}

-- how many bytes a value of a type has: those of the integer, or a length in two bytes and the greatest text
abbrev pub cell_width : ColType → ℕ
cell_width Tiny = 1
cell_width Small = 2
cell_width Integer = 4
cell_width Big = 8
cell_width (Varchar most) = most + 2

-- the integer of a value, where one that no value is stands for NULL
abbrev pub integer_of : ℤ → Value → ℤ
integer_of null Null = null
integer_of null (Int z) = z
integer_of null (Text t) = null

-- the length that stands for NULL
abbrev pub null_length : ℕ
null_length = 65535

-- a value's bytes: an integer in two's complement, the least one for NULL, and a text with its length before it and zeros behind; high bytes first
abbrev pub cell_bytes : ColType → Value → List ℕ
cell_bytes Tiny value = to_be_bytes w8 (cast_unsigned w8 (integer_of (negsuc 127) value))
cell_bytes Small value = to_be_bytes w16 (cast_unsigned w16 (integer_of (negsuc 32767) value))
cell_bytes Integer value = to_be_bytes w32 (cast_unsigned w32 (integer_of (negsuc 2147483647) value))
cell_bytes Big value = to_be_bytes w64 (cast_unsigned w64 (integer_of (negsuc 9223372036854775807) value))
cell_bytes (Varchar most) (Text t) = to_be_bytes w16 (length t) ++ (t ++ replicate (most - length t) 0)
cell_bytes (Varchar most) value = to_be_bytes w16 null_length ++ replicate most 0

-- the value of an integer, or NULL for the one that stands for it
abbrev pub value_of : ℤ → ℤ → Value
value_of null z = if int_eq z null then Null else Int z

-- the text behind a length, or NULL where this is above the greatest
abbrev pub text_of : ℕ → ℕ → List ℕ → Value
text_of most len bytes = if nat_lt most len then Null else Text (take len bytes)

-- the value of bytes
abbrev pub cell_value : ColType → List ℕ → Value
cell_value Tiny bytes = value_of (negsuc 127) (cast_signed w8 (from_be_bytes w8 bytes))
cell_value Small bytes = value_of (negsuc 32767) (cast_signed w16 (from_be_bytes w16 bytes))
cell_value Integer bytes = value_of (negsuc 2147483647) (cast_signed w32 (from_be_bytes w32 bytes))
cell_value Big bytes = value_of (negsuc 9223372036854775807) (cast_signed w64 (from_be_bytes w64 bytes))
cell_value (Varchar most) bytes = text_of most (from_be_bytes w16 (take 2 bytes)) (drop 2 bytes)

-- a text is UTF-8, which is known of each value of the program
abbrev pub IsSound : Value → Type 0
IsSound Null = Unit {0}
IsSound (Int z) = Unit {0}
IsSound (Text t) = IsUtf8 t
