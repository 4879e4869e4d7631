-- What a change of one row does to an index.
use Rattle.std.specs.Prelude.{◌≡◌, ℕ, Bool, true, false, not, ◌&&◌, if◌then◌else◌, is_some, List, [], ◌∷◌, map}
use Rattle.std.specs.List.{AllByRecursion}
use Rattle.std.specs.Str.{bytes_eq}
use Rattle.std.specs.declared.cmp.Ordering.{Ordering}
use Rattle.std.specs.declared.cmp.Ordering.TheVariants.{Equal}
use Rattle.volt_value.specs.declared.value.Value.{Value}
use Rattle.volt_index.specs.Index.{Contents, nothing, with_entry, without_entry, with_place_at, clash_of}
use Rattle.table_rows.specs.Order.{row_cmp, row_key, in_order_by}
use Rattle.table_rows.specs.declared.keyed.KeyedIndex.{KeyedIndex}

-- the index of no rows
abbrev pub new_index : List ℕ → KeyedIndex
new_index columns = record { columns = columns; index = nothing true; fresh = []; stale = []; changes = false }

-- it is told the row that comes
abbrev pub coming : List Value → KeyedIndex → KeyedIndex
coming row k = record k { fresh = row_key k.columns row; changes = true }

-- it is told the row that goes
abbrev pub going : List Value → KeyedIndex → KeyedIndex
going row k = record k { stale = row_key k.columns row; changes = true }

-- it changes only where the two keys differ
abbrev pub compared : KeyedIndex → KeyedIndex
compared k = record k { changes = not (bytes_eq k.fresh k.stale) }

-- the place stands at the fresh key, where the index changes
abbrev pub entered : ℕ → KeyedIndex → KeyedIndex
entered place k = if k.changes then record k { index = with_entry k.index k.fresh place } else k

-- it stands there no more
abbrev pub backed_out : ℕ → KeyedIndex → KeyedIndex
backed_out place k = if k.changes then record k { index = without_entry k.index k.fresh place } else k

-- the place stands at the stale key no more, where the index changes
abbrev pub left : ℕ → KeyedIndex → KeyedIndex
left place k = if k.changes then record k { index = without_entry k.index k.stale place } else k

-- another place stands at the stale key
abbrev pub relocated : ℕ → KeyedIndex → KeyedIndex
relocated place k = record k { index = with_place_at k.index k.stale place }

-- another row has the fresh key
abbrev pub is_taken : KeyedIndex → Bool
is_taken k = k.changes && is_some (clash_of k.index k.fresh)

-- what an index is without what is told to it
abbrev pub kept : KeyedIndex → List ℕ × Contents
kept k = (k.columns, k.index)

-- rows with their places in order of some columns
abbrev pub placed_cmp : List ℕ → ℕ × List Value → ℕ × List Value → Ordering
placed_cmp columns a b = row_cmp columns a.1 b.1

-- the entry of a row in the index of some columns
abbrev pub entry_of : List ℕ → ℕ × List Value → List ℕ × ℕ
entry_of columns e = (row_key columns e.1, e.0)

-- the index of rows by some columns
abbrev pub contents_of : List ℕ → List (ℕ × List Value) → Contents
contents_of columns held = record { unique = true; entries = map (entry_of columns) (in_order_by (placed_cmp columns) held) }

-- no two rows agree in some columns
abbrev pub AreApart : List ℕ → List (ℕ × List Value) → Type 0
AreApart columns [] = Unit {0}
AreApart columns (e ∷ held) = AllByRecursion (λ f. placed_cmp columns e f ≡ Equal → ⊥) held × AreApart columns held

-- the index is that of these rows
pub record IsKept (held : List (ℕ × List Value)) (k : KeyedIndex) : Type 0 where
  pub contents : k.index ≡ contents_of k.columns held
  pub apart : AreApart k.columns held
