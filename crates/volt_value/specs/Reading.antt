-- Reading a value from the beginning of bytes.
use Rattle.std.specs.Prelude.{ℕ, zero, suc, ◌+◌, nat_lt, if◌then◌else◌, List, [], ◌∷◌, length, take, drop, ℤ, Option, Some, None, option_map}
use Rattle.std.specs.Int.{w32, w64, from_be_bytes, cast_signed}
use Rattle.std.specs.Str.{is_utf8}
use Rattle.volt_value.specs.declared.value.Value.{Value}
use Rattle.volt_value.specs.declared.value.Value.TheVariants.{Null, Int, Text}
use Rattle.volt_value.specs.Values.{is_bigint}

-- an integer that is a value
abbrev pub if_bigint : ℤ → Option ℤ
if_bigint z = if is_bigint z then Some z else None

-- the integer of the first eight bytes
unfoldable pub integer_at : List ℕ → Option ℤ
integer_at bytes = if nat_lt (length bytes) 8 then None else if_bigint (cast_signed w64 (from_be_bytes w64 (take 8 bytes)))

-- bytes that are UTF-8
abbrev pub if_utf8 : List ℕ → Option (List ℕ)
if_utf8 bytes = if is_utf8 bytes then Some bytes else None

-- the text of the first so many bytes
abbrev pub text_of_length : ℕ → List ℕ → Option (List ℕ)
text_of_length len bytes = if nat_lt (length bytes) len then None else if_utf8 (take len bytes)

-- the text behind a length in four bytes
unfoldable pub text_at : List ℕ → Option (List ℕ)
text_at bytes = if nat_lt (length bytes) 4 then None else text_of_length (from_be_bytes w32 (take 4 bytes)) (drop 4 bytes)

-- the value whose spelling the bytes begin with, and how many bytes that has
unfoldable pub value_at : List ℕ → Option (Value × ℕ)
value_at [] = None
value_at (zero ∷ bytes) = Some (Null, 1)
value_at (suc zero ∷ bytes) = option_map (λ z. (Int z, 9)) (integer_at bytes)
value_at (suc (suc zero) ∷ bytes) = option_map (λ t. (Text t, 5 + length t)) (text_at bytes)
value_at (suc (suc (suc kind)) ∷ bytes) = None
