-- A file between two syncs: what a read gives, and what a crash may leave of it.
use Rattle.std.specs.Prelude.{◌≡◌, ◌⊎◌, ℕ, ◌+◌, ◌<◌, ◌≤◌, List, [], ◌∷◌, length, slice_index}
use Rattle.volt_disk.specs.declared.listing.Listing.{Listing}
use Rattle.volt_disk.specs.declared.listing.Listing.TheVariants.{Kept, Leaving, Removed}

-- what a disk tells of a file
pub record File : Type 0 where
  -- its bytes
  pub bytes : List ℕ
  -- its length at the last sync: no image of it is shorter
  pub least : ℕ
  -- the greatest length that was asked for since: no image of it is longer
  pub most : ℕ
  -- the ranges that were written since the last sync, as offset and length, in the order of the writes
  pub written : List (ℕ × ℕ)
  -- whether its removal was asked for since the names were synced
  pub listing : Listing

-- a file of which a crash leaves exactly these bytes
abbrev pub settled : List ℕ → File
settled bytes = record { bytes = bytes; least = length bytes; most = length bytes; written = []; listing = Kept }

-- a file that isn't there: it has no bytes
abbrev pub no_file : File
no_file = record { bytes = []; least = 0; most = 0; written = []; listing = Kept }

-- a read finds nothing of a removed file
abbrev pub bytes_if_listed : Listing → List ℕ → List ℕ
bytes_if_listed Kept bytes = bytes
bytes_if_listed Leaving bytes = bytes
bytes_if_listed Removed bytes = []

-- what a read gives
abbrev pub seen : File → List ℕ
seen f = bytes_if_listed f.listing f.bytes

-- a place lies in a range
abbrev pub IsInRange : ℕ → ℕ × ℕ → Type 0
IsInRange i range = (range.0 ≤ i) × (i < range.0 + range.1)

-- a place lies in one of the ranges
abbrev pub IsInSome : ℕ → List (ℕ × ℕ) → Type 0
IsInSome i [] = ⊥
IsInSome i (range ∷ ranges) = IsInRange i range ⊎ IsInSome i ranges

-- The bytes that a crash may leave of a file that is still there: their number lies between the length at the last
-- sync and the greatest that was asked for. A place in a written range has any byte, every other place the byte that
-- the file has there, or zero behind its end.
pub record IsTorn (f : File) (image : List ℕ) : Type 0 where
  pub no_shorter : f.least ≤ length image
  pub no_longer : length image ≤ f.most
  pub others : (i : ℕ) → i < length image → ¬ IsInSome i f.written → slice_index image i ≡ slice_index f.bytes i

-- a crash may take the file away
abbrev pub MayBeGone : Listing → Type 0
MayBeGone Kept = ⊥
MayBeGone Leaving = Unit {0}
MayBeGone Removed = Unit {0}

-- The images of a file: all that a crash may leave of it. A file whose removal was asked for may be there as it was,
-- or not at all.
abbrev pub IsImage : File → List ℕ → Type 0
IsImage f image = IsTorn f image ⊎ (MayBeGone f.listing × (image ≡ []))
