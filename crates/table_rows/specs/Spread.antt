-- Rows by their places.
use Rattle.std.specs.Prelude.{◌≡◌, ℕ, suc, ◌<◌, ◌^◌, List, [], ◌∷◌, Option, Some, None, IsSome, IfSome, slice_set, option_map}
use Rattle.std.specs.List.{AllByRecursion}
use Rattle.std.specs.Option.{unwrap_or}
use Rattle.volt_value.specs.declared.value.Value.{Value}
use Rattle.row_codec.specs.declared.field.Field.{Field}
use Rattle.row_codec.specs.Packing.{row_width, row_of, IsRow, IsTuple}
use Rattle.tuple_block.specs.Tuples.{Slots, slot_at}
use Rattle.pane_index.specs.Rows.{Rows}
use Rattle.table_rows.specs.Held.{row_at, AreRising}

-- the rows in order of their places; beside them may be one at a free place that isn't among them yet
pub record Spread : Type 0 where
  pub fields : List Field
  pub held : List (ℕ × List Value)
  pub ready : Option (ℕ × List Value)

-- no rows
abbrev pub nothing : List Field → Spread
nothing fields = record { fields = fields; held = []; ready = None }

-- the rows of slots, of which the first has this number
abbrev pub held_from : List Field → ℕ → Slots → List (ℕ × List Value)
held_from fields n [] = []
held_from fields n (None ∷ slots) = held_from fields (suc n) slots
held_from fields n (Some tuple ∷ slots) = (n, row_of fields tuple) ∷ held_from fields (suc n) slots

-- without the slot of a spare place
abbrev pub masked : Option ℕ → Slots → Slots
masked None slots = slots
masked (Some place) slots = slice_set slots place None

-- each tuple of slots holds a row of these columns
abbrev pub AreTuples : List Field → Slots → Type 0
AreTuples fields [] = Unit {0}
AreTuples fields (None ∷ slots) = AreTuples fields slots
AreTuples fields (Some tuple ∷ slots) = IsTuple fields tuple × AreTuples fields slots

-- a row of these columns at a place
pub record IsPlaced (fields : List Field) (e : ℕ × List Value) : Type 0 where
  pub row : IsRow fields e.1
  pub limit : e.0 < 2 ^ 28

-- each row fits its columns, and has a place of its own
pub record IsSpread (s : Spread) : Type 0 where
  pub rising : AreRising s.held
  pub placed : AllByRecursion (IsPlaced s.fields) s.held
  pub free : IfSome s.ready (λ e. row_at s.held e.0 ≡ None)
  pub fits : IfSome s.ready (IsPlaced s.fields)

-- ---- how they lie in a pane, one place of which may be spare

abbrev pub spread_of : List Field → Rows → Option ℕ → Spread
spread_of fields pane spare = record {
  fields = fields;
  held = held_from fields 0 (masked spare pane.slots);
  ready = option_map (λ place. (place, row_of fields (unwrap_or (slot_at pane.slots place) []))) spare;
}

-- a tuple of these columns at a place
pub record IsSlot (fields : List Field) (place : ℕ) (tuple : List ℕ) : Type 0 where
  pub fits : IsTuple fields tuple
  pub limit : place < 2 ^ 28

pub record IsStored (fields : List Field) (pane : Rows) (spare : Option ℕ) : Type 0 where
  pub width : pane.width ≡ row_width fields
  pub slots : (place : ℕ) (tuple : List ℕ) → slot_at pane.slots place ≡ Some tuple → IsSlot fields place tuple
  pub held : IfSome spare (λ place. IsSome (slot_at pane.slots place))
