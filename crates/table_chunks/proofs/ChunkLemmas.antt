-- The rows of slots, and their spelling.
use Rattle.std.proofs.Common.{◌≡◌, ℕ, zero, suc, ◌+◌, ◌<◌, ◌≤◌, ◌^◌, leb, Bool, true, false, cond, List, [], ◌∷◌, ◌++◌, map, flat_map, length, take, ℤ, Option, Some, None, IfOk, Result, Ok, Err, refl, sym, ap, ap₂, ◌∙◌, subst, arith}
use Rattle.std.proofs.lemmas.Bool.{leb-true}
use Rattle.std.proofs.lemmas.List.{take_more}
use Rattle.std.specs.List.{AllByRecursion}
use Rattle.volt_value.specs.declared.value.Value.{Value}
use Rattle.volt_value.specs.declared.value.Value.TheVariants.{Null, Int, Text}
use Rattle.volt_value.specs.declared.column.ColType.{ColType}
use Rattle.volt_value.specs.declared.column.ColType.TheVariants.{Tiny, Small, Integer, Big, Varchar}
use Rattle.volt_value.specs.declared.column.Misfit.{Misfit}
use Rattle.volt_value.specs.declared.column.Misfit.TheVariants.{OutOfRange, TooLong}
use Rattle.volt_value.specs.Values.{IsValue, is_bigint}
use Rattle.volt_value.specs.Columns.{value_fits, integer_fits, greatest_of}
use Rattle.row_codec.specs.declared.field.Field.{Field}
use Rattle.row_codec.specs.Cells.{cell_width, IsSound}
use Rattle.row_codec.specs.Faults.{value_fault, columns_fault}
use Rattle.row_codec.specs.Packing.{row_width, row_of, AreSound, IsTuple}
use Rattle.row_codec.proofs.CellLemmas.{fits_from_fault}
use Rattle.row_codec.proofs.RowLemmas.{least_none}
use Rattle.tuple_block.specs.Tuples.{Slots, Tuples, slot_at}
use Rattle.pane_index.specs.Blocks.{all_slots}
use Rattle.table_rows.specs.Spread.{AreTuples, held_from}
use Rattle.table_rows.specs.Standing.{rows_in}
use Rattle.table_chunks.specs.Chunks.{rows_of, IsSpelledRow, CanSpell}

-- ---- the rows of slots

pub rows_append : (fields : List Field) (a b : Slots) → rows_of fields (a ++ b) ≡ rows_of fields a ++ rows_of fields b
rows_append fields [] b = refl
rows_append fields (None ∷ a) b = rows_append fields a b
rows_append fields (Some tuple ∷ a) b = ap (λ rows. row_of fields tuple ∷ rows) (rows_append fields a b)

held_rows : (fields : List Field) (n : ℕ) (slots : Slots) → map (λ e. e.1) (held_from fields n slots) ≡ rows_of fields slots
held_rows fields n [] = refl
held_rows fields n (None ∷ slots) = held_rows fields (suc n) slots
held_rows fields n (Some tuple ∷ slots) = ap (λ rows. row_of fields tuple ∷ rows) (held_rows fields (suc n) slots)

by_block : (fields : List Field) (scan : List Tuples) → flat_map (λ block. rows_of fields block.slots) scan ≡ rows_of fields (all_slots scan)
by_block fields [] = refl
by_block fields (block ∷ scan) = ap (λ rows. rows_of fields block.slots ++ rows) (by_block fields scan) ∙ sym (rows_append fields block.slots (all_slots scan))

pub scan_rows : (fields : List Field) (scan : List Tuples) → flat_map (λ block. rows_of fields block.slots) scan ≡ rows_in fields scan
scan_rows fields scan = by_block fields scan ∙ sym (held_rows fields 0 (all_slots scan))

tuples_parts : (fields : List Field) (a b : Slots) → AreTuples fields (a ++ b) → AreTuples fields a × AreTuples fields b
tuples_parts fields [] b are = (tt, are)
tuples_parts fields (None ∷ a) b are = tuples_parts fields a b are
tuples_parts fields (Some tuple ∷ a) b are = let parts = tuples_parts fields a b are.1 in ((are.0, parts.0), parts.1)

pub scan_tuples : (fields : List Field) (scan : List Tuples) → AreTuples fields (all_slots scan) → AllByRecursion (λ block. AreTuples fields block.slots) scan
scan_tuples fields [] are = tt
scan_tuples fields (block ∷ scan) are = let parts = tuples_parts fields block.slots (all_slots scan) are in (parts.0, scan_tuples fields scan parts.1)

slot_tuples : (fields : List Field) (slots : Slots) (i : ℕ) → AreTuples fields slots → AreTuples fields (slot_at slots i ∷ [])
slot_tuples fields [] i are = tt
slot_tuples fields (None ∷ slots) zero are = tt
slot_tuples fields (Some tuple ∷ slots) zero are = (are.0, tt)
slot_tuples fields (None ∷ slots) (suc i) are = slot_tuples fields slots i are
slot_tuples fields (Some tuple ∷ slots) (suc i) are = slot_tuples fields slots i are.1

pub slot_given : (fields : List Field) (slots : Slots) (i : ℕ) (slot : Option (List ℕ)) → AreTuples fields slots → slot ≡ slot_at slots i → AreTuples fields (slot ∷ [])
slot_given fields slots i slot are is = subst (λ s. AreTuples fields (s ∷ [])) (sym is) (slot_tuples fields slots i are)

pub rows_more : (fields : List Field) (slots : Slots) (i : ℕ) (slot : Option (List ℕ)) (before after : List (List Value)) → i < length slots → slot ≡ slot_at slots i → before ≡ rows_of fields (take i slots)
    → after ≡ before ++ rows_of fields (slot ∷ []) → after ≡ rows_of fields (take (i + 1) slots)
rows_more fields slots i slot before after within is were are =
    are ∙ ap₂ (λ (rows : List (List Value)) (s : Option (List ℕ)). rows ++ rows_of fields (s ∷ [])) were is
    ∙ sym (rows_append fields (take i slots) (slot_at slots i ∷ []))
    ∙ ap (rows_of fields) (sym (take_more slots i None within))

-- ---- their spelling

is_true : {A B : Type 0} (b : Bool) (r : Result A B) (e : B) (x : A) → cond b r (Err e) ≡ Ok x → b ≡ true
is_true true r e x h = refl
is_true false r e x h = absurd cc

text_length : (kind : ColType) (t : List ℕ) → value_fits (Text t) kind ≡ Ok tt → cell_width kind ≤ 8192 → length t < 4294967296
text_length Tiny t fits width = absurd cc
text_length Small t fits width = absurd cc
text_length Integer t fits width = absurd cc
text_length Big t fits width = absurd cc
text_length (Varchar most) t fits width = let short = leb-true (length t) most (is_true (leb (length t) most) (Ok tt) TooLong tt fits) in omega arith

value_spelled : (field : Field) (value : Value) → value_fault field value ≡ None → IsSound value → cell_width field.kind ≤ 8192 → IsValue value
value_spelled field Null fault sound width = tt
value_spelled field (Int z) fault sound width = is_true (is_bigint z) (integer_fits z (greatest_of field.kind)) OutOfRange tt (fits_from_fault field (Int z) fault)
value_spelled field (Text t) fault sound width = (sound, text_length field.kind t (fits_from_fault field (Text t) fault) width)

values_spelled : (fields : List Field) (row : List Value) → length row ≡ length fields → columns_fault fields row ≡ None → AreSound row → row_width fields ≤ 8192 → AllByRecursion IsValue row
values_spelled [] [] count fits sound width = tt
values_spelled [] (v ∷ row) count fits sound width = absurd cc
values_spelled (f ∷ fields) [] count fits sound width = absurd cc
values_spelled (f ∷ fields) (v ∷ row) count fits sound width =
    let parts = least_none (value_fault f v) (columns_fault fields row) fits in
    (value_spelled f v parts.0 sound.0 (omega arith), values_spelled fields row (cc) parts.1 sound.1 (omega arith))

rows_spelled : (fields : List Field) (slots : Slots) → AreTuples fields slots → length fields < 256 → row_width fields ≤ 8192 → AllByRecursion IsSpelledRow (rows_of fields slots)
rows_spelled fields [] are few width = tt
rows_spelled fields (None ∷ slots) are few width = rows_spelled fields slots are few width
rows_spelled fields (Some tuple ∷ slots) are few width =
    let row = are.0.row in
    let count = row.count in
    ((omega (arith, count), values_spelled fields (row_of fields tuple) row.count row.fits row.sound width), rows_spelled fields slots are.1 few width)

few_rows : (fields : List Field) (slots : Slots) → length (rows_of fields slots) ≤ length slots
few_rows fields [] = omega arith
few_rows fields (None ∷ slots) = let rest = few_rows fields slots in omega arith
few_rows fields (Some tuple ∷ slots) = let rest = few_rows fields slots in omega arith

pub can_spell : (fields : List Field) (slots : Slots) → AreTuples fields slots → length fields < 256 → row_width fields ≤ 8192 → length slots ≡ 64 → CanSpell (rows_of fields slots)
can_spell fields slots are few width whole = record { count = omega (arith, few_rows fields slots); each = rows_spelled fields slots are few width }
