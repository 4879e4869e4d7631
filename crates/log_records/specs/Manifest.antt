-- A manifest: the files of a disk that count.
use Rattle.std.specs.Prelude.{ℕ, ◌<◌, ◌^◌, ◌==◌, if◌then◌else◌, List, [], ◌∷◌, ◌++◌, flat_map, length, Option, Some, None}
use Rattle.std.specs.Int.{w16, w64, to_be_bytes}
use Rattle.std.specs.List.{AllByRecursion}
use Rattle.volt_base.specs.Reading.{◌>>=◌, number_at}
use Rattle.snapshot_io.specs.Reading.{Reader, both_at, as_at, counted_at}
use Rattle.log_records.specs.declared.manifest.Manifest.{Manifest}

pub record Names : Type 0 where
  -- the file of the base
  pub base : ℕ
  -- those of the segments, in their order
  pub segments : List ℕ

-- the names that a value of the code has
abbrev pub named : Manifest → Names
named m = record { base = m.base; segments = m.segments.items }

-- how many files there are, in two bytes, and eight bytes each
unfoldable pub files_bytes : List ℕ → List ℕ
files_bytes files = to_be_bytes w16 (length files) ++ flat_map (to_be_bytes w64) files

-- format 1
unfoldable pub manifest_bytes : Names → List ℕ
manifest_bytes m = 1 ∷ (to_be_bytes w64 m.base ++ files_bytes m.segments)

-- what has a spelling
pub record NamesFit (m : Names) : Type 0 where
  pub base : m.base < 2 ^ 64
  pub count : length m.segments < 2 ^ 16
  pub segments : AllByRecursion (λ file. file < 2 ^ 64) m.segments

-- ---- reading

unfoldable pub files_at : Reader (List ℕ)
files_at = counted_at (number_at w16) (number_at w64)

abbrev pub as_names : ℕ × List ℕ → Option Names
as_names x = Some (record { base = x.0; segments = x.1 })

unfoldable pub names_at : Reader Names
names_at = as_at as_names (both_at (number_at w64) files_at)

-- a thing with nothing behind it
abbrev pub if_whole : Names × List ℕ → Option Names
if_whole (m, []) = Some m
if_whole (m, b ∷ bytes) = None

-- the manifest that bytes are
unfoldable pub manifest_of : List ℕ → Option Names
manifest_of [] = None
manifest_of (format ∷ bytes) = if format == 1 then (names_at bytes >>= if_whole) else None
