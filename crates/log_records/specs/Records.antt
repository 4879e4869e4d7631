-- The records of a batch: marks of terms, and entries at their positions in the log.
use Rattle.std.specs.Prelude.{ℕ, zero, suc, ◌+◌, ◌<◌, ◌^◌, ◌==◌, if◌then◌else◌, List, [], ◌∷◌, ◌++◌, flat_map, length, Option, Some, None}
use Rattle.std.specs.Int.{w64, to_be_bytes}
use Rattle.volt_base.specs.declared.entry.Entry.{Entry}
use Rattle.volt_base.specs.Spelling.{entry_bytes, bytes_of, HasClientOfReply, Fits}
use Rattle.volt_base.specs.Reading.{◌>>=◌, number_at, entry_at}
use Rattle.snapshot_io.specs.Reading.{Reader, both_at, as_at}
use Rattle.log_records.specs.declared.record.Record.{Record}
use Rattle.log_records.specs.declared.record.Record.TheVariants.{Mark, Placed}

-- ---- the one spelling

-- a mark is `10` and its term, an entry `11`, its position and the entry; numbers have their high byte first
unfoldable pub record_bytes : Record → List ℕ
record_bytes (Mark term) = 16 ∷ to_be_bytes w64 term
record_bytes (Placed position entry) = 17 ∷ (to_be_bytes w64 position ++ entry_bytes entry)

-- one behind another
abbrev pub records_bytes : List Record → List ℕ
records_bytes records = flat_map record_bytes records

-- what has a spelling
abbrev pub RecordFits : Record → Type 0
RecordFits (Mark term) = term < 2 ^ 64
RecordFits (Placed position entry) = (position < 2 ^ 64) × Fits entry

-- what is asked of an entry besides what the types of its fields say
pub record CanSpell (entry : Entry) : Type 0 where
  pub bytes : length (bytes_of entry) < 2 ^ 32
  pub client : HasClientOfReply entry

-- entries at positions that go on from one
abbrev pub placed : ℕ → List Entry → List Record
placed from [] = []
placed from (e ∷ es) = Placed from e ∷ placed (from + 1) es

-- a mark ahead of the others, if there is one
abbrev pub records_with : Option ℕ → List Record → List Record
records_with None records = records
records_with (Some term) records = Mark term ∷ records

-- ---- reading

-- the rest of a mark
abbrev pub as_mark : ℕ → Option Record
as_mark term = Some (Mark term)

unfoldable pub mark_at : Reader Record
mark_at = as_at as_mark (number_at w64)

-- the rest of an entry at its position
abbrev pub as_placed : ℕ × Entry → Option Record
as_placed x = Some (Placed x.0 x.1)

unfoldable pub placed_at : Reader Record
placed_at = as_at as_placed (both_at (number_at w64) entry_at)

-- a record, and what stands behind it
unfoldable pub record_at : Reader Record
record_at [] = None
record_at (kind ∷ bytes) = if kind == 16 then mark_at bytes else if kind == 17 then placed_at bytes else None

-- fewer records than a number, and nothing behind them
abbrev pub records_from : ℕ → List ℕ → Option (List Record)
records_from n [] = Some []
records_from zero (b ∷ bytes) = None
records_from (suc n) (b ∷ bytes) = do
  first ← record_at (b ∷ bytes)
  records ← records_from n first.1
  Some (first.0 ∷ records)

-- the records that bytes are; a record takes a byte at least
unfoldable pub records_of : List ℕ → Option (List Record)
records_of bytes = records_from (length bytes) bytes
