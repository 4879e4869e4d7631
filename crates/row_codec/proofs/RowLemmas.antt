-- Rows, column by column.
use Rattle.std.proofs.Common.{◌≡◌, ℕ, zero, suc, ◌+◌, ◌-◌, ◌<◌, ◌≤◌, Bool, true, false, cond, nat_le, List, [], ◌∷◌, ◌++◌, length, take, drop, Option, Some, None, inl, inr, refl, sym, ap, ap₂, ◌∙◌, subst, arith, append_assoc, append-nil, drop-drop, length-append, Ok}
use Rattle.std.proofs.lemmas.Bool.Decides.{nat_tests}
use Rattle.std.proofs.lemmas.List.{take_at, drop_at, take_more, length-take}
use Rattle.std.specs.List.{slice_get, slice_index, slice_index_or}
use Rattle.std.proofs.lemmas.Bool.{cases_lt}
use Rattle.std.proofs.Math.ListN.{get_or-append}
use Rattle.volt_value.specs.declared.value.Value.{Value}
use Rattle.volt_value.specs.Columns.{value_fits}
use Rattle.row_codec.specs.declared.field.Field.{Field}
use Rattle.row_codec.specs.declared.fault.RowFault.{RowFault}
use Rattle.row_codec.specs.Cells.{cell_width, cell_bytes, cell_value, IsSound}
use Rattle.row_codec.specs.Faults.{rank, least, value_fault, columns_fault}
use Rattle.row_codec.specs.Packing.{row_width, packed, row_of, AreSound, IsRow, IsTuple}
use Rattle.row_codec.proofs.CellLemmas.{fits_from_fault, value_back, width_is}

-- ---- the least fault

pub least_none : (a b : Option RowFault) → least a b ≡ None → (a ≡ None) × (b ≡ None)
least_none None b h = (refl, h)
least_none (Some a) None h = absurd cc
least_none (Some a) (Some b) h = absurd (never (nat_le (rank a) (rank b)) h)
  where
    never : (c : Bool) → cond c (Some a) (Some b) ≡ None → ⊥
    never true h = cc
    never false h = cc

least_empty : (a : Option RowFault) → least a None ≡ a
least_empty None = refl
least_empty (Some a) = refl

some_least : (a b c : RowFault) → least (cond (nat_le (rank a) (rank b)) (Some a) (Some b)) (Some c) ≡ least (Some a) (cond (nat_le (rank b) (rank c)) (Some b) (Some c))
some_least a b c = grind (arith, nat_tests)

least_assoc : (a b c : Option RowFault) → least (least a b) c ≡ least a (least b c)
least_assoc None b c = refl
least_assoc (Some a) None c = refl
least_assoc (Some a) (Some b) None = least_empty (least (Some a) (Some b))
least_assoc (Some a) (Some b) (Some c) = some_least a b c

pub columns_fault_push : (fields : List Field) (row : List Value) (field : Field) (value : Value) → length fields ≡ length row
    → columns_fault (fields ++ field ∷ []) (row ++ value ∷ []) ≡ least (columns_fault fields row) (value_fault field value)
columns_fault_push [] [] field value e = least_empty (value_fault field value)
columns_fault_push [] (v ∷ row) field value e = absurd cc
columns_fault_push (f ∷ fields) [] field value e = absurd cc
columns_fault_push (f ∷ fields) (v ∷ row) field value e =
    ap (least (value_fault f v)) (columns_fault_push fields row field value (cc)) ∙ sym (least_assoc (value_fault f v) (columns_fault fields row) (value_fault field value))

-- a row without a fault has none in each column
pub fault_at : (fields : List Field) (row : List Value) (i : ℕ) (field : Field) (value : Value) → columns_fault fields row ≡ None → i < length fields → i < length row
    → value_fits (slice_index_or row i value) (slice_index_or fields i field).kind ≡ Ok tt
fault_at [] row i field value none f-in v-in = absurd (omega arith)
fault_at (f ∷ fields) [] i field value none f-in v-in = absurd (omega arith)
fault_at (f ∷ fields) (v ∷ row) zero field value none f-in v-in = fits_from_fault f v (least_none (value_fault f v) (columns_fault fields row) none).0
fault_at (f ∷ fields) (v ∷ row) (suc i) field value none f-in v-in =
    fault_at fields row i field value (least_none (value_fault f v) (columns_fault fields row) none).1 (omega arith) (omega arith)

-- ---- packing

pub packed_push : (fields : List Field) (row : List Value) (field : Field) (value : Value) → length fields ≡ length row
    → packed (fields ++ field ∷ []) (row ++ value ∷ []) ≡ packed fields row ++ cell_bytes field.kind value
packed_push [] [] field value e = append-nil (cell_bytes field.kind value)
packed_push [] (v ∷ row) field value e = absurd cc
packed_push (f ∷ fields) [] field value e = absurd cc
packed_push (f ∷ fields) (v ∷ row) field value e =
    ap (λ (r : List ℕ). cell_bytes f.kind v ++ r) (packed_push fields row field value (cc)) ∙ sym (append_assoc (cell_bytes f.kind v) (packed fields row) (cell_bytes field.kind value))

pub AreSound_push : (row : List Value) (value : Value) → AreSound row → IsSound value → AreSound (row ++ value ∷ [])
AreSound_push [] value are is = (is, tt)
AreSound_push (v ∷ row) value are is = (are.0, AreSound_push row value are.1 is)

pub row_width_push : (fields : List Field) (field : Field) → row_width (fields ++ field ∷ []) ≡ row_width fields + cell_width field.kind
row_width_push [] field = omega arith
row_width_push (f ∷ fields) field = omega (arith, row_width_push fields field)

-- a part of the columns has no more bytes than all
pub row_width_at : (fields : List Field) (i : ℕ) (field : Field) → i < length fields → row_width (take i fields) + cell_width (slice_index_or fields i field).kind ≤ row_width fields
row_width_at [] i field within = absurd (omega arith)
row_width_at (f ∷ fields) zero field within = omega arith
row_width_at (f ∷ fields) (suc i) field within = omega (arith, row_width_at fields i field (omega arith))

pub packed_width : (fields : List Field) (row : List Value) → length row ≡ length fields → columns_fault fields row ≡ None → length (packed fields row) ≡ row_width fields
packed_width [] row e none = refl
packed_width (f ∷ fields) [] e none = absurd cc
packed_width (f ∷ fields) (v ∷ row) e none =
    let parts = least_none (value_fault f v) (columns_fault fields row) none in
    omega (arith, length-append (cell_bytes f.kind v) (packed fields row), width_is f.kind v (fits_from_fault f v parts.0), packed_width fields row (cc) parts.1)

pub row_back : (fields : List Field) (row : List Value) → length row ≡ length fields → columns_fault fields row ≡ None → row_width fields ≤ 8192 → row_of fields (packed fields row) ≡ row
row_back [] [] e none limit = refl
row_back [] (v ∷ row) e none limit = absurd cc
row_back (f ∷ fields) [] e none limit = absurd cc
row_back (f ∷ fields) (v ∷ row) e none limit =
    let parts = least_none (value_fault f v) (columns_fault fields row) none in
    let fits = fits_from_fault f v parts.0 in
    let cell = cell_bytes f.kind v in
    let rest = packed fields row in
    let wide : length cell ≡ cell_width f.kind = width_is f.kind v fits in
    ap₂ (λ (a b : List ℕ). cell_value f.kind a ∷ row_of fields b) (take_at cell rest (cell_width f.kind) wide) (drop_at cell rest (cell_width f.kind) wide)
    ∙ ap₂ (λ (a : Value) (b : List Value). a ∷ b) (value_back f.kind v fits (omega arith)) (row_back fields row (cc) parts.1 (omega arith))

pub is_tuple : (fields : List Field) (row : List Value) (tuple : List ℕ) → tuple ≡ packed fields row → length row ≡ length fields → columns_fault fields row ≡ None → row_width fields ≤ 8192 → AreSound row
    → IsTuple fields tuple × (row_of fields tuple ≡ row)
is_tuple fields row tuple is e none limit sound =
    let back : row_of fields tuple ≡ row = ap (row_of fields) is ∙ row_back fields row e none limit in (
      record {
        width = ap length is ∙ packed_width fields row e none;
        row = subst (IsRow fields) (sym back) (record { count = e; fits = none; sound = sound });
      },
      back,
    )

-- ---- reading

-- the bytes of a column
abbrev pub column_bytes : List Field → List ℕ → ℕ → Field → List ℕ
column_bytes fields tuple i field = take (cell_width (slice_index_or fields i field).kind) (drop (row_width (take i fields)) tuple)

pub cell_at : (fields : List Field) (tuple : List ℕ) (i : ℕ) (field : Field) → i < length fields → slice_get (row_of fields tuple) i ≡ Some (cell_value (slice_index_or fields i field).kind (column_bytes fields tuple i field))
cell_at [] tuple i field within = absurd (omega arith)
cell_at (f ∷ fields) tuple zero field within = refl
cell_at (f ∷ fields) tuple (suc i) field within =
    cell_at fields (drop (cell_width f.kind) tuple) i field (omega arith)
    ∙ ap (λ (b : List ℕ). Some (cell_value (slice_index_or fields i field).kind (take (cell_width (slice_index_or fields i field).kind) b)))
    (drop-drop (row_width (take i fields)) (cell_width f.kind) tuple)

pub sound_at : (row : List Value) (i : ℕ) (value : Value) → AreSound row → slice_get row i ≡ Some value → IsSound value
sound_at [] i value are is = absurd cc
sound_at (v ∷ row) zero value are is = subst IsSound (some_is v value is) are.0
  where
    some_is : (a b : Value) → Some a ≡ Some b → a ≡ b
    some_is a b e = cc
sound_at (v ∷ row) (suc i) value are is = sound_at row i value are.1 is

-- ---- one more column

same_length : (fields : List Field) (row : List Value) (i : ℕ) → i < length fields → i < length row → length (take i fields) ≡ length (take i row)
same_length fields row i f-in v-in = omega (arith, length-take i fields, length-take i row)

pub fault_more : (fields : List Field) (row : List Value) (i : ℕ) (field : Field) (value : Value) → i < length fields → i < length row → field ≡ slice_index_or fields i field → value ≡ slice_index_or row i value
    → columns_fault (take (i + 1) fields) (take (i + 1) row) ≡ least (columns_fault (take i fields) (take i row)) (value_fault field value)
fault_more fields row i field value f-in v-in f-is v-is =
    ap₂ columns_fault (take_more fields i field f-in) (take_more row i value v-in)
    ∙ ap₂ (λ (f : Field) (v : Value). columns_fault (take i fields ++ f ∷ []) (take i row ++ v ∷ [])) (sym f-is) (sym v-is)
    ∙ columns_fault_push (take i fields) (take i row) field value (same_length fields row i f-in v-in)

pub packed_more : (fields : List Field) (row : List Value) (i : ℕ) (field : Field) (value : Value) → i < length fields → i < length row → field ≡ slice_index_or fields i field → value ≡ slice_index_or row i value
    → packed (take (i + 1) fields) (take (i + 1) row) ≡ packed (take i fields) (take i row) ++ cell_bytes field.kind value
packed_more fields row i field value f-in v-in f-is v-is =
    ap₂ packed (take_more fields i field f-in) (take_more row i value v-in)
    ∙ ap₂ (λ (f : Field) (v : Value). packed (take i fields ++ f ∷ []) (take i row ++ v ∷ [])) (sym f-is) (sym v-is)
    ∙ packed_push (take i fields) (take i row) field value (same_length fields row i f-in v-in)

pub sound_more : (row : List Value) (i : ℕ) (value : Value) → i < length row → value ≡ slice_index_or row i value → AreSound (take i row) → IsSound value → AreSound (take (i + 1) row)
sound_more row i value v-in v-is are is =
    subst AreSound (sym (take_more row i value v-in ∙ ap (λ (v : Value). take i row ++ v ∷ []) (sym v-is))) (AreSound_push (take i row) value are is)

pub width_more : (fields : List Field) (i : ℕ) (field : Field) → i < length fields → row_width (take (i + 1) fields) ≡ row_width (take i fields) + cell_width (slice_index_or fields i field).kind
width_more fields i field within = ap row_width (take_more fields i field within) ∙ row_width_push (take i fields) (slice_index_or fields i field)

-- the bytes of a column, as they are cut out of the tuple
pub cell_is : (fields : List Field) (tuple : List ℕ) (i : ℕ) (field : Field) (start width : ℕ) → i < length fields → field ≡ slice_index_or fields i field → start ≡ row_width (take i fields) → width ≡ cell_width field.kind
    → slice_get (row_of fields tuple) i ≡ Some (cell_value field.kind (take (start + width - start) (drop start tuple)))
cell_is fields tuple i field start width within f-is start-is width-is =
    let count : start + width - start ≡ width = omega arith in
    cell_at fields tuple i field within
    ∙ ap (λ (f : Field). Some (cell_value f.kind (take (cell_width f.kind) (drop (row_width (take i fields)) tuple)))) (sym f-is)
    ∙ ap₂ (λ (w s : ℕ). Some (cell_value field.kind (take w (drop s tuple)))) (sym (count ∙ width-is)) (sym start-is)

pub cell_ends : (fields : List Field) (i : ℕ) (field : Field) (start width : ℕ) → i < length fields → field ≡ slice_index_or fields i field → start ≡ row_width (take i fields) → width ≡ cell_width field.kind → start + width ≤ row_width fields
cell_ends fields i field start width within f-is start-is width-is =
    let w : width ≡ cell_width (slice_index_or fields i field).kind = width-is ∙ ap (λ (f : Field). cell_width f.kind) f-is in
    omega (arith, row_width_at fields i field within)

-- one more offset
pub offsets_more : (fields : List Field) (offsets : List ℕ) (i end : ℕ) → length offsets ≡ i → end ≡ row_width (take i fields) → ((k : ℕ) → k < i → slice_index offsets k ≡ row_width (take k fields))
    → (k : ℕ) → k < i + 1 → slice_index (offsets ++ end ∷ []) k ≡ row_width (take k fields)
offsets_more fields offsets i end count is before k below = elim (cases_lt k i) [
  | inl lt ↦ get_or-append offsets (end ∷ []) 0 k (omega (arith, count)) ∙ before k lt
  | inr le ↦
      let here : k ≡ length offsets = omega (arith, count) in
      ap (λ n. slice_index (offsets ++ end ∷ []) n) here ∙ last_of offsets end ∙ is ∙ ap (λ n. row_width (take n fields)) (sym (here ∙ count))
]
  where
    last_of : (xs : List ℕ) (x : ℕ) → slice_index (xs ++ x ∷ []) (length xs) ≡ x
    last_of [] x = refl
    last_of (y ∷ xs) x = last_of xs x

same_some : {A : Type 0} (a b : A) → Some a ≡ Some b → a ≡ b
same_some a b e = cc

got_is : {A : Type 0} (xs : List A) (i : ℕ) (x : A) → slice_get xs i ≡ Some x → (i < length xs) × (slice_index_or xs i x ≡ x)
got_is [] i x got = absurd cc
got_is (y ∷ xs) zero x got = (omega arith, same_some y x got)
got_is (y ∷ xs) (suc i) x got = let h = got_is xs i x got in (omega (arith, h.0), h.1)

pub take_got : {A : Type 0} (xs : List A) (i : ℕ) (x : A) → slice_get xs i ≡ Some x → take (i + 1) xs ≡ take i xs ++ x ∷ []
take_got xs i x got = let h = got_is xs i x got in take_more xs i x h.0 ∙ ap (λ y. take i xs ++ y ∷ []) h.1
