-- The spellings of rows in some columns go as the rows do.
use Rattle.std.proofs.Common.{◌≡◌, ℕ, zero, suc, ◌≤◌, Bool, true, false, cond, List, [], ◌∷◌, length, ℤ, pos, negsuc, nat_abs, Option, Some, None, Result, Ok, Err, slice_get, refl, sym, ap, ◌∙◌, arith, FitsSigned}
use Rattle.std.proofs.lemmas.Bool.{false≢true}
use Rattle.std.proofs.lemmas.Bool.Decides.{nat_tests}
use Rattle.std.proofs.lemmas.Int.{ints}
use Rattle.std.proofs.lemmas.Cmp.{tied_back, tied_itself}
use Rattle.std.proofs.lemmas.Map.Text.{is_eq-slice_cmp}
use Rattle.std.specs.Int.{w64}
use Rattle.std.specs.List.{AllByRecursion}
use Rattle.std.specs.Option.{unwrap_or}
use Rattle.std.specs.Str.{bytes_eq}
use Rattle.std.specs.Cmp.{IsTotalOrder, on_total}
use Rattle.std.specs.Cmp.Lexicographic.{slice_cmp, lists_total}
use Rattle.std.specs.Ordering.{nat_cmp, is_eq}
use Rattle.std.specs.declared.cmp.Ordering.{Ordering}
use Rattle.std.specs.declared.cmp.Ordering.TheVariants.{Less, Equal, Greater}
use Rattle.volt_value.specs.declared.value.Value.{Value}
use Rattle.volt_value.specs.declared.value.Value.TheVariants.{Null, Int, Text}
use Rattle.volt_value.specs.declared.column.ColType.{ColType}
use Rattle.volt_value.specs.declared.column.ColType.TheVariants.{Tiny, Small, Integer, Big, Varchar}
use Rattle.volt_value.specs.declared.column.Misfit.{Misfit}
use Rattle.volt_value.specs.declared.column.Misfit.TheVariants.{OutOfRange}
use Rattle.volt_value.specs.Values.{is_bigint}
use Rattle.volt_value.specs.Columns.{value_fits, integer_fits, greatest_of}
use Rattle.volt_value.specs.OrderLaws.{value_total}
use Rattle.volt_index.specs.Keys.{IsHeld, AreHeld}
use Rattle.volt_index.proofs.KeyOrder.{key_order}
use Rattle.row_codec.specs.declared.field.Field.{Field}
use Rattle.row_codec.specs.Faults.{value_fault, misfit_fault, columns_fault}
use Rattle.row_codec.specs.Packing.{IsRow}
use Rattle.row_codec.proofs.CellLemmas.{fits_from_fault}
use Rattle.row_codec.proofs.RowLemmas.{least_none}
use Rattle.table_rows.specs.Order.{key_values, row_cmp, agree, row_key}
use Rattle.table_rows.specs.Keyed.{placed_cmp}

-- ---- the values of a row that fits its columns

bigint_held : (z : ℤ) → is_bigint z ≡ true → FitsSigned w64 z
bigint_held (pos n) h = let b : n ≤ 9223372036854775807 = grind (arith, nat_tests) in omega (arith, ints)
bigint_held (negsuc n) h = let b : suc n ≤ 9223372036854775807 = grind (arith, nat_tests) in omega (arith, ints)

fits_held : (z : ℤ) (kind : ColType) → value_fits (Int z) kind ≡ Ok tt → FitsSigned w64 z
fits_held z kind h = bigint_held z (is_true (is_bigint z) (integer_fits z (greatest_of kind)) h)
  where
    is_true : (b : Bool) (r : Result (Unit {0}) Misfit) → cond b r (Err OutOfRange) ≡ Ok tt → b ≡ true
    is_true true r h = refl
    is_true false r h = absurd cc

value_held : (field : Field) (value : Value) → value_fault field value ≡ None → IsHeld value
value_held field Null h = tt
value_held field (Int z) h = fits_held z field.kind (fits_from_fault field (Int z) h)
value_held field (Text t) h = tt

values_held : (fields : List Field) (row : List Value) → length row ≡ length fields → columns_fault fields row ≡ None → AllByRecursion IsHeld row
values_held [] [] count fits = tt
values_held [] (v ∷ row) count fits = absurd cc
values_held (f ∷ fields) [] count fits = absurd cc
values_held (f ∷ fields) (v ∷ row) count fits =
    let parts = least_none (value_fault f v) (columns_fault fields row) fits in
    (value_held f v parts.0, values_held fields row (cc) parts.1)

value_at_held : (row : List Value) (column : ℕ) → AllByRecursion IsHeld row → IsHeld (unwrap_or (slice_get row column) Null)
value_at_held [] column held = tt
value_at_held (v ∷ row) zero held = held.0
value_at_held (v ∷ row) (suc column) held = value_at_held row column held.1

key_held : (columns : List ℕ) (row : List Value) → AllByRecursion IsHeld row → AreHeld (key_values columns row)
key_held [] row held = tt
key_held (column ∷ columns) row held = (value_at_held row column held, key_held columns row held)

row_held : (fields : List Field) (columns : List ℕ) (row : List Value) → IsRow fields row → AreHeld (key_values columns row)
row_held fields columns row is = key_held columns row (values_held fields row is.count is.fits)

-- ---- keys

pub key_cmp : (fields : List Field) (columns : List ℕ) (a b : List Value) → IsRow fields a → IsRow fields b → slice_cmp nat_cmp (row_key columns a) (row_key columns b) ≡ row_cmp columns a b
key_cmp fields columns a b is-a is-b = key_order (key_values columns a) (key_values columns b) (row_held fields columns a is-a) (row_held fields columns b is-b)

pub key_eq : (fields : List Field) (columns : List ℕ) (a b : List Value) → IsRow fields a → IsRow fields b → bytes_eq (row_key columns a) (row_key columns b) ≡ agree columns a b
key_eq fields columns a b is-a is-b = sym (is_eq-slice_cmp (row_key columns a) (row_key columns b)) ∙ ap is_eq (key_cmp fields columns a b is-a is-b)

-- ---- orders

pub row_total : (columns : List ℕ) → IsTotalOrder (row_cmp columns)
row_total columns = on_total (key_values columns) (lists_total value_total)

pub placed_total : (columns : List ℕ) → IsTotalOrder (placed_cmp columns)
placed_total columns = on_total (λ (e : ℕ × List Value). e.1) (row_total columns)

pub agree_itself : (columns : List ℕ) (row : List Value) → agree columns row row ≡ true
agree_itself columns row = ap is_eq (tied_itself (row_total columns) row)

pub is_equal : (o : Ordering) → is_eq o ≡ true → o ≡ Equal
is_equal Less h = absurd cc
is_equal Equal h = refl
is_equal Greater h = absurd cc

pub not_equal : (o : Ordering) → (o ≡ Equal → ⊥) → is_eq o ≡ false
not_equal Less h = refl
not_equal Equal h = absurd (h refl)
not_equal Greater h = refl

-- rows that don't agree do so neither way
pub turned_apart : (columns : List ℕ) (a b : List Value) → (row_cmp columns a b ≡ Equal → ⊥) → row_cmp columns b a ≡ Equal → ⊥
turned_apart columns a b apart equal = apart (tied_back (row_total columns) b a equal)
