-- The orders of rows by columns.
use Rattle.std.specs.Prelude.{ℕ, Bool, List, [], ◌∷◌, map, slice_get}
use Rattle.std.specs.Option.{unwrap_or}
use Rattle.std.specs.BTreeSet.{insert_key}
use Rattle.std.specs.Cmp.Lexicographic.{slice_cmp}
use Rattle.std.specs.Ordering.{is_eq}
use Rattle.std.specs.declared.cmp.Ordering.{Ordering}
use Rattle.volt_value.specs.declared.value.Value.{Value}
use Rattle.volt_value.specs.declared.value.Value.TheVariants.{Null}
use Rattle.volt_value.specs.Order.{value_cmp}
use Rattle.volt_index.specs.Keys.{key_bytes}

-- a row's values in some columns, which may name a column more than once
abbrev pub key_values : List ℕ → List Value → List Value
key_values columns row = map (λ column. unwrap_or (slice_get row column) Null) columns

-- by the values in some columns, one after another
abbrev pub row_cmp : List ℕ → List Value → List Value → Ordering
row_cmp columns a b = slice_cmp value_cmp (key_values columns a) (key_values columns b)

-- two rows agree in some columns; NULL is like NULL
abbrev pub agree : List ℕ → List Value → List Value → Bool
agree columns a b = is_eq (row_cmp columns a b)

-- the spelling of a row's values in some columns
abbrev pub row_key : List ℕ → List Value → List ℕ
row_key columns row = key_bytes (key_values columns row)

-- elements put in order, one after another
abbrev pub in_order_by : {A : Type 0} → (A → A → Ordering) → List A → List A
in_order_by cmp [] = []
in_order_by cmp (e ∷ es) = insert_key cmp (in_order_by cmp es) e

-- rows in order of some columns
abbrev pub in_order : List ℕ → List (List Value) → List (List Value)
in_order columns rows = in_order_by (row_cmp columns) rows
