-- A file as a disk in memory shows it, with what it had at its last sync, and what a loss of power makes of it.
use Rattle.std.specs.Prelude.{ℕ, zero, suc, ◌+◌, ◌-◌, ◌%◌, ◌^◌, ◌==◌, Bool, true, false, if◌then◌else◌, unwrap_or, List, [], ◌∷◌, length, map, take, slice_set}
use Rattle.std.specs.Ordering.{nat_cmp}
use Rattle.std.specs.Map.{lookup, set_value}
use Rattle.std.specs.BTreeMap.{is_at, insert_entry}
use Rattle.volt_disk.specs.declared.listing.Listing.{Listing}
use Rattle.volt_disk.specs.declared.listing.Listing.TheVariants.{Kept, Leaving, Removed}
use Rattle.volt_disk.specs.declared.change.Change.{Change}
use Rattle.volt_disk.specs.File.{File, settled, no_file, seen}
use Rattle.volt_disk.specs.Effects.{asked, made, synced, names_synced}
use Rattle.volt_disk.specs.Draws.{next_state, draw_of}

pub record Stored : Type 0 where
  -- what the disk tells of it
  pub file : File
  -- the bytes that it had at its last sync
  pub last : List ℕ

-- a file that isn't there
abbrev pub not_stored : Stored
not_stored = record { file = no_file; last = [] }

-- these bytes, and no crash leaves others
abbrev pub with_only : List ℕ → Stored
with_only bytes = record { file = settled bytes; last = bytes }

-- after a change that was made, or was asked for alone
abbrev pub changed : Bool → Change → Stored → Stored
changed true change s = record s { file = made change s.file }
changed false change s = record s { file = asked change s.file }

-- a sync of a file that was removed settles nothing
abbrev pub last_if : Listing → List ℕ → List ℕ → List ℕ
last_if Kept bytes last = bytes
last_if Leaving bytes last = bytes
last_if Removed bytes last = last

-- after a sync of the file
abbrev pub stored_synced : Stored → Stored
stored_synced s = record { file = synced s.file; last = last_if s.file.listing s.file.bytes s.last }

-- a file whose removal is settled has no bytes to come back with
abbrev pub last_unless_removed : Listing → List ℕ → List ℕ
last_unless_removed Kept last = last
last_unless_removed Leaving last = last
last_unless_removed Removed last = []

-- after a sync of the names
abbrev pub stored_names_synced : Stored → Stored
stored_names_synced s = record { file = names_synced s.file; last = last_unless_removed s.file.listing s.last }

-- each byte of a range gets the low byte of one draw; draws behind the end are lost
unfoldable pub scattered : ℕ → ℕ → List ℕ × ℕ → List ℕ × ℕ
scattered zero at b = b
scattered (suc n) at b = scattered n (at + 1) (slice_set b.0 at (draw_of (next_state b.1) % 2 ^ 8), next_state b.1)

abbrev pub scattered_all : List (ℕ × ℕ) → List ℕ × ℕ → List ℕ × ℕ
scattered_all [] b = b
scattered_all (range ∷ ranges) b = scattered_all ranges (scattered range.1 range.0 b)

-- where the length isn't settled, one draw gives it
abbrev pub cut_to : ℕ → ℕ → List ℕ → List ℕ × ℕ
cut_to least x bytes =
    if least == length bytes then (bytes, x)
    else (take (least + draw_of (next_state x) % (length bytes - least + 1)) bytes, next_state x)

-- an image by draws from a state, and the state after them
abbrev pub drawn : ℕ → File → List ℕ × ℕ
drawn x f = scattered_all f.written (cut_to f.least x f.bytes)

-- What a loss of power with a choice leaves, and the state of the draws after it: 0 leaves what the last sync left, 1
-- what a read gives, and any other choice an image by draws.
abbrev pub lost : ℕ → ℕ → Stored → List ℕ × ℕ
lost choice x s =
    if choice == 0 then (s.last, x)
    else (if choice == 1 then (seen s.file, x) else drawn x s.file)

-- the file of a number, among files in the order of their numbers
abbrev pub stored_at : ℕ → List (ℕ × Stored) → Stored
stored_at n files = unwrap_or (lookup (is_at (nat_cmp n)) files) not_stored

-- a file is put in the place of the one of its number, or among the others
abbrev pub with_file : ℕ → Stored → List (ℕ × Stored) → List (ℕ × Stored)
with_file n s files = insert_entry nat_cmp files n s

-- all files after a sync of one, if that is there
abbrev pub with_synced : ℕ → List (ℕ × Stored) → List (ℕ × Stored)
with_synced n files = set_value (is_at (nat_cmp n)) files (stored_synced (stored_at n files))

-- all files after a loss of power, by draws from a state in the order of their numbers
abbrev pub all_lost : ℕ → ℕ → List (ℕ × Stored) → List (ℕ × Stored)
all_lost choice x [] = []
all_lost choice x (e ∷ es) = (e.0, with_only (lost choice x e.1).0) ∷ all_lost choice (lost choice x e.1).1 es

-- all files after a sync of the names
abbrev pub all_names_synced : List (ℕ × Stored) → List (ℕ × Stored)
all_names_synced files = map (λ e. (e.0, stored_names_synced e.1)) files
