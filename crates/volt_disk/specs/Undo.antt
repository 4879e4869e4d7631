-- How a disk in memory finds the bytes of the last sync again: for each write since then it keeps what stood there.
use Rattle.std.specs.Prelude.{ℕ, ◌+◌, ◌≤◌, List, [], ◌∷◌, length, take}
use Rattle.volt_disk.specs.declared.listing.Listing.{Listing}
use Rattle.volt_disk.specs.Effects.{overwritten}
use Rattle.volt_disk.specs.Stored.{Stored}

-- the ranges that were written, in the order of the writes
abbrev pub ranges : List (ℕ × List ℕ) → List (ℕ × ℕ)
ranges [] = []
ranges (r ∷ rs) = (r.0, length r.1) ∷ ranges rs

-- the writes are taken back, the last one first
abbrev pub undone : List (ℕ × List ℕ) → List ℕ → List ℕ
undone [] bytes = bytes
undone (r ∷ rs) bytes = overwritten r.0 r.1 (undone rs bytes)

-- each range lies within the file
abbrev pub AreWithin : ℕ → List (ℕ × List ℕ) → Type 0
AreWithin len [] = Unit {0}
AreWithin len (r ∷ rs) = (r.0 + length r.1 ≤ len) × AreWithin len rs

-- the file of which these bytes, lengths and replaced parts are kept
abbrev pub stored_of : List ℕ → ℕ → ℕ → List (ℕ × List ℕ) → Listing → Stored
stored_of bytes least most replaced listing =
    record {
      file = record { bytes = bytes; least = least; most = most; written = ranges replaced; listing = listing };
      last = take least (undone replaced bytes);
    }
