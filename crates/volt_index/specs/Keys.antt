-- The spelling of a list of values whose byte order is the order of the lists.
use Rattle.std.specs.Prelude.{ℕ, ◌+◌, ◌-◌, List, [], ◌∷◌, ◌++◌, map, ℤ, pos, negsuc, FitsSigned}
use Rattle.std.specs.Int.{w64, to_be_bytes}
use Rattle.std.specs.List.{flat_map}
use Rattle.std.specs.declared.cmp.Ordering.{Ordering}
use Rattle.std.specs.declared.cmp.Ordering.TheVariants.{Less, Equal, Greater}
use Rattle.volt_value.specs.declared.value.Value.{Value}
use Rattle.volt_value.specs.declared.value.Value.TheVariants.{Null, Int, Text}

-- an integer of 64 bits as a number that rises with it: 2^63 more
abbrev pub raised : ℤ → ℕ
raised (pos n) = 9223372036854775808 + n
raised (negsuc n) = 9223372036854775807 - n

-- the number of its kind; then of an integer the number that rises with it, high bytes first, and of a text its bytes, each one more, and a zero
abbrev pub value_key : Value → List ℕ
value_key Null = 0 ∷ []
value_key (Int z) = 1 ∷ to_be_bytes w64 (raised z)
value_key (Text t) = 2 ∷ (map (λ byte. byte + 1) t ++ 0 ∷ [])

-- one value after another
abbrev pub key_bytes : List Value → List ℕ
key_bytes values = flat_map value_key values

-- above the first byte of each value
abbrev pub end_byte : ℕ
end_byte = 3

-- behind every list that begins with these values, and before each greater one
abbrev pub end_bytes : List Value → List ℕ
end_bytes values = key_bytes values ++ end_byte ∷ []

-- a value of the program: its integers have 64 bits
abbrev pub IsHeld : Value → Type 0
IsHeld Null = Unit {0}
IsHeld (Int z) = FitsSigned w64 z
IsHeld (Text t) = Unit {0}

abbrev pub AreHeld : List Value → Type 0
AreHeld [] = Unit {0}
AreHeld (value ∷ values) = IsHeld value × AreHeld values

-- how a list stands to the end of another whose length its first values have, and are in this order to it
abbrev pub before_end : Ordering → Ordering
before_end Less = Less
before_end Equal = Less
before_end Greater = Greater
