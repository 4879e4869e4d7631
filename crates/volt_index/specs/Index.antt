-- An index as the entries that it holds.
use Rattle.std.specs.Prelude.{◌≡◌, ℕ, Bool, true, ◌&&◌, ◌==◌, if◌then◌else◌, List, [], map, filter, Option, Some, None}
use Rattle.std.specs.List.{list_any}
use Rattle.std.specs.Str.{bytes_eq}
use Rattle.std.specs.Map.{lookup, set_value}
use Rattle.std.specs.Set.{remove_key}
use Rattle.std.specs.BTreeSet.{insert_key}
use Rattle.std.specs.List.Sorted.{IsStrictlySortedBy}
use Rattle.std.specs.Cmp.Lexicographic.{slice_cmp}
use Rattle.std.specs.Ordering.{nat_cmp, is_le, is_gt}
use Rattle.volt_index.specs.Entries.{entry_cmp}

-- what an index holds: its entries, a key and a place each, in order of the keys and, of one key, of the places
pub record Contents : Type 0 where
  pub unique : Bool
  pub entries : List (List ℕ × ℕ)

-- an index without entries
abbrev pub nothing : Bool → Contents
nothing unique = record { unique = unique; entries = [] }

-- this entry is the one of a key and a place
abbrev pub is_entry : List ℕ → ℕ → List ℕ × ℕ → Bool
is_entry key place e = bytes_eq key e.0 && (place == e.1)

-- the place at a key holds
abbrev pub holds : Contents → List ℕ → ℕ → Bool
holds index key place = list_any (is_entry key place) index.entries

-- one more entry, at its place in the order; one that is there stays
abbrev pub with_entry : Contents → List ℕ → ℕ → Contents
with_entry index key place = record index { entries = insert_key entry_cmp index.entries (key, place) }

-- without an entry
abbrev pub without_entry : Contents → List ℕ → ℕ → Contents
without_entry index key place = record index { entries = remove_key (is_entry key place) index.entries }

-- another place at a key, where it has one
abbrev pub with_place_at : Contents → List ℕ → ℕ → Contents
with_place_at index key place = record index { entries = set_value (bytes_eq key) index.entries place }

-- the place at a key, the least where there are several
abbrev pub place_of : Contents → List ℕ → Option ℕ
place_of index key = lookup (bytes_eq key) index.entries

-- the place at a key that keeps a unique index from taking another there
abbrev pub clash_of : Contents → List ℕ → Option ℕ
clash_of index key = if index.unique then place_of index key else None

-- from a key on, which counts, and before another, which doesn't; no key bounds nothing
abbrev pub is_from : Option (List ℕ) → List ℕ → Bool
is_from None key = true
is_from (Some from) key = is_le (slice_cmp nat_cmp from key)

abbrev pub is_before : Option (List ℕ) → List ℕ → Bool
is_before None key = true
is_before (Some to) key = is_gt (slice_cmp nat_cmp to key)

-- the places of the keys in a range, in order
abbrev pub places_between : Option (List ℕ) → Option (List ℕ) → Contents → List ℕ
places_between from to index = map (λ e. e.1) (filter (λ e. is_from from e.0 && is_before to e.0) index.entries)

-- the entries go by their keys and places, none is there twice, and a unique index has each key once
pub record IsIndex (index : Contents) : Type 0 where
  pub sorted : IsStrictlySortedBy entry_cmp index.entries
  pub unique : index.unique ≡ true → IsStrictlySortedBy (slice_cmp nat_cmp) (map (λ e. e.0) index.entries)
