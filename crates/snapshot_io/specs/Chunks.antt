-- A chunk: rows of one table as bytes, that can be read without the definitions of tables.
use Rattle.std.specs.Prelude.{◌≡◌, ℕ, zero, suc, ◌-◌, ◌<◌, ◌==◌, if◌then◌else◌, List, [], ◌∷◌, length, take, drop, slice_index, Option, Some, None, option_map}
use Rattle.std.specs.Int.{w16}
use Rattle.volt_base.specs.Reading.{◌>>=◌, number_at}
use Rattle.volt_value.specs.Reading.{value_at}

-- what stands behind the value that bytes begin with
unfoldable pub behind_value : List ℕ → Option (List ℕ)
behind_value bytes = option_map (λ found. drop found.1 bytes) (value_at bytes)

-- what stands behind so many of something, one behind another
abbrev pub behind_all : (List ℕ → Option (List ℕ)) → ℕ → List ℕ → Option (List ℕ)
behind_all behind zero bytes = Some bytes
behind_all behind (suc n) bytes = do
  rest ← behind bytes
  behind_all behind n rest

-- a row is the number of its values, in one byte, and these
unfoldable pub behind_row : List ℕ → Option (List ℕ)
behind_row [] = None
behind_row (count ∷ bytes) = behind_all behind_value count bytes

-- A chunk is the number of its table and the number of its rows, in two bytes each, and these. No table has the number
-- 65535, by which a file says that no chunk comes.
unfoldable pub behind_chunk : List ℕ → Option (List ℕ)
behind_chunk bytes = do
  table ← number_at w16 bytes
  count ← number_at w16 table.1
  if table.0 == 65535 then None else behind_all behind_row count.0 count.1

-- each number of the list is a byte
abbrev pub AreBytes : List ℕ → Type 0
AreBytes bytes = (i : ℕ) → slice_index bytes i < 256

-- the bytes are a chunk, and no more
pub record IsChunk (bytes : List ℕ) : Type 0 where
  pub are_bytes : AreBytes bytes
  pub whole : behind_chunk bytes ≡ Some []

-- the chunk that bytes begin with, and what stands behind it
unfoldable pub chunk_at : List ℕ → Option (List ℕ × List ℕ)
chunk_at bytes = do
  rest ← behind_chunk bytes
  Some (take (length bytes - length rest) bytes, rest)
