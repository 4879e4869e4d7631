-- What the calls of a disk do to a file.
use Rattle.std.specs.Prelude.{◌≡◌, ◌⊎◌, ℕ, ◌+◌, ◌-◌, ◌≤◌, max, List, [], ◌∷◌, ◌++◌, length, take, drop, replicate}
use Rattle.volt_disk.specs.declared.listing.Listing.{Listing}
use Rattle.volt_disk.specs.declared.listing.Listing.TheVariants.{Kept, Leaving, Removed}
use Rattle.volt_disk.specs.declared.change.Change.{Change}
use Rattle.volt_disk.specs.declared.change.Change.TheVariants.{Grow, Write, Remove}
use Rattle.volt_disk.specs.File.{File, IsImage, settled, no_file}

-- bytes with zeros behind them, up to a length
abbrev pub lengthened : ℕ → List ℕ → List ℕ
lengthened to bytes = bytes ++ replicate (to - length bytes) 0

-- bytes with others in their place from an offset on
abbrev pub overwritten : ℕ → List ℕ → List ℕ → List ℕ
overwritten at bytes old = take at old ++ (bytes ++ drop (at + length bytes) old)

-- a growth was asked for, and the bytes are as they were
abbrev pub growth_asked : ℕ → File → File
growth_asked to f = record f { most = max f.most to }

-- a growth adds zeros; until the next sync a crash leaves any length between the old one and the new one
abbrev pub grown : ℕ → File → File
grown to f = record f { bytes = lengthened to f.bytes; most = max f.most to }

-- a write was asked for, and the bytes are as they were
abbrev pub write_asked : ℕ → ℕ → File → File
write_asked at len f = record f { written = f.written ++ (at, len) ∷ [] }

-- a write puts its bytes in their place; until the next sync a crash leaves any bytes there
abbrev pub after_write : ℕ → List ℕ → File → File
after_write at bytes f = record f { bytes = overwritten at bytes f.bytes; written = f.written ++ (at, length bytes) ∷ [] }

-- after a sync a crash leaves what a read gives; but it doesn't settle whether a removed file comes back
abbrev pub synced_if : Listing → File → File
synced_if Kept f = record f { least = length f.bytes; most = length f.bytes; written = [] }
synced_if Leaving f = record f { least = length f.bytes; most = length f.bytes; written = [] }
synced_if Removed f = f

abbrev pub synced : File → File
synced f = synced_if f.listing f

-- a removal takes the file's bytes out of sight; until the names are synced it may come back
abbrev pub removed : File → File
removed f = record f { listing = Removed }

abbrev pub leaving : Listing → Listing
leaving Kept = Leaving
leaving Leaving = Leaving
leaving Removed = Removed

-- a removal was asked for, and a read finds the file if it did before
abbrev pub removal_asked : File → File
removal_asked f = record f { listing = leaving f.listing }

abbrev pub names_synced_if : Listing → File → File
names_synced_if Kept f = f
names_synced_if Leaving f = record f { listing = Kept }
names_synced_if Removed f = no_file

-- after a sync of the names a file is there where a read finds it, and else not
abbrev pub names_synced : File → File
names_synced f = names_synced_if f.listing f

-- a growth doesn't shrink the bytes, and a write stays within them
abbrev pub CanChange : Change → List ℕ → Type 0
CanChange (Grow to) bytes = length bytes ≤ to
CanChange (Write at part) bytes = at + length part.now ≤ length bytes
CanChange Remove bytes = Unit {0}

-- a change that was asked for
abbrev pub asked : Change → File → File
asked (Grow to) f = growth_asked to f
asked (Write at bytes) f = write_asked at (length bytes.now) f
asked Remove f = removal_asked f

-- a change that was made
abbrev pub made : Change → File → File
made (Grow to) f = grown to f
made (Write at bytes) f = after_write at bytes.now f
made Remove f = removed f

-- A failed call has taken its effect or not. Where it hasn't, it counts as asked for, unless the disk knows that
-- nothing of it was begun.
abbrev pub FailsAs : File → File → File → File → Type 0
FailsAs old asked taken new = (new ≡ old) ⊎ ((new ≡ asked) ⊎ (new ≡ taken))

-- after a loss of power a read gives an image of the file, and a further crash leaves the same
abbrev pub CyclesTo : File → File → Type 0
CyclesTo old new = IsImage old new.bytes × (new ≡ settled new.bytes)
