-- Rows read from bytes.
use Rattle.std.specs.Prelude.{ℕ, zero, suc, ◌+◌, ◌==◌, if◌then◌else◌, List, [], ◌∷◌, length, drop, Option, Some, None, option_map}
use Rattle.std.specs.Int.{w16, from_be_bytes}
use Rattle.std.specs.Option.{option_and_then}
use Rattle.volt_value.specs.declared.value.Value.{Value}
use Rattle.volt_value.specs.Reading.{value_at}

-- so many of something, one behind another, and how many bytes they take
abbrev pub items_at : {A : Type 0} → (List ℕ → Option (A × ℕ)) → ℕ → List ℕ → Option (List A × ℕ)
items_at item_at zero bytes = Some ([], 0)
items_at item_at (suc count) bytes =
    option_and_then (λ first. option_map (λ rest. (first.0 ∷ rest.0, first.1 + rest.1)) (items_at item_at count (drop first.1 bytes))) (item_at bytes)

-- the row that bytes begin with, and how many bytes it takes
abbrev pub row_at : List ℕ → Option (List Value × ℕ)
row_at [] = None
row_at (count ∷ bytes) = option_map (λ row. (row.0, 1 + row.1)) (items_at value_at count bytes)

-- rows that take all of so many bytes
abbrev pub if_all : ℕ → List (List Value) × ℕ → Option (List (List Value))
if_all len rows = if rows.1 == len then Some rows.0 else None

-- the number of the table and the rows of the chunk that bytes are
abbrev pub chunk_at : List ℕ → Option (ℕ × List (List Value))
chunk_at (a ∷ b ∷ c ∷ d ∷ bytes) =
    option_map (λ rows. (from_be_bytes w16 (a ∷ b ∷ []), rows)) (option_and_then (if_all (length bytes)) (items_at row_at (from_be_bytes w16 (c ∷ d ∷ [])) bytes))
chunk_at _ = None
