-- The one spelling of each value, as bytes.
use Rattle.std.specs.Prelude.{◌≡◌, ◌≢◌, ℕ, ◌≤◌, List, [], ◌∷◌, ◌++◌, length, drop}
use Rattle.std.specs.Int.{w32, w64, to_be_bytes, cast_unsigned}
use Rattle.volt_value.specs.declared.value.Value.{Value}
use Rattle.volt_value.specs.declared.value.Value.TheVariants.{Null, Int, Text}
use Rattle.volt_value.specs.Values.{IsValue}

-- the number of its kind; then of an integer its 64 bits, and of a text its length and its bytes, high bytes first
abbrev pub value_bytes : Value → List ℕ
value_bytes Null = 0 ∷ []
value_bytes (Int z) = 1 ∷ to_be_bytes w64 (cast_unsigned w64 z)
value_bytes (Text t) = 2 ∷ (to_be_bytes w32 (length t) ++ t)

-- the first len bytes are the spelling of the value
pub record BeginsWith (bytes : List ℕ) (value : Value) (len : ℕ) : Type 0 where
  pub spelled : bytes ≡ value_bytes value ++ drop len bytes
  pub size : len ≡ length (value_bytes value)
  pub within : len ≤ length bytes
  pub is_value : IsValue value

-- the bytes do not begin with the spelling of a value
abbrev pub BeginsWithNone : List ℕ → Type 0
BeginsWithNone bytes = (value : Value) (rest : List ℕ) → IsValue value → bytes ≢ value_bytes value ++ rest
