-- Rows with their places, in order of these.
use Rattle.std.specs.Prelude.{◌≡◌, ℕ, suc, ◌+◌, ◌<◌, ◌==◌, List, [], ◌∷◌, Option, None, IsSome}
use Rattle.std.specs.List.{AllByRecursion}
use Rattle.std.specs.BTreeMap.{insert_entry}
use Rattle.std.specs.Map.{lookup, remove_entry}
use Rattle.std.specs.Option.{unwrap_or}
use Rattle.std.specs.Ordering.{nat_cmp}
use Rattle.volt_value.specs.declared.value.Value.{Value}

-- a row's values
abbrev pub RowValues : Type 0
RowValues = List Value

-- the row at a place, if one is there
abbrev pub row_at : List (ℕ × List Value) → ℕ → Option (List Value)
row_at held place = lookup (λ other. place == other) held

-- a row more, or in the place of the one that is there
abbrev pub with_row : List (ℕ × List Value) → ℕ → List Value → List (ℕ × List Value)
with_row held place row = insert_entry nat_cmp held place row

-- without the row at a place
abbrev pub without_row : List (ℕ × List Value) → ℕ → List (ℕ × List Value)
without_row held place = remove_entry (λ other. place == other) held

-- each place is below those after it
abbrev pub AreRising : List (ℕ × List Value) → Type 0
AreRising [] = Unit {0}
AreRising (e ∷ held) = AllByRecursion (λ f. e.0 < f.0) held × AreRising held

-- ---- rows that stand close

-- the row at a place stands at another
abbrev pub with_moved : List (ℕ × List Value) → ℕ → ℕ → List (ℕ × List Value)
with_moved held from to = with_row (without_row held from) to (unwrap_or (row_at held from) [])

-- a row, and a place before it where none is
pub record CanMove (held : List (ℕ × List Value)) (from to : ℕ) : Type 0 where
  pub before : to < from
  pub there : IsSome (row_at held from)
  pub free : row_at held to ≡ None

-- the rows stand one behind another, the first at this place
abbrev pub StandFrom : ℕ → List (ℕ × List Value) → Type 0
StandFrom place [] = Unit {0}
StandFrom place (e ∷ held) = (e.0 ≡ place) × StandFrom (suc place) held

-- n rows stand at the first n places
abbrev pub ArePacked : List (ℕ × List Value) → Type 0
ArePacked held = StandFrom 0 held

-- all places added up
abbrev pub place_sum : List (ℕ × List Value) → ℕ
place_sum [] = 0
place_sum (e ∷ held) = e.0 + place_sum held
