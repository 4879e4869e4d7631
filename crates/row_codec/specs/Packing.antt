-- The packed tuple of a row.
use Rattle.std.specs.Prelude.{◌≡◌, ℕ, ◌+◌, ◌<◌, ◌≤◌, List, [], ◌∷◌, ◌++◌, length, take, drop, slice_index, None}
use Rattle.volt_value.specs.declared.value.Value.{Value}
use Rattle.row_codec.specs.declared.field.Field.{Field}
use Rattle.row_codec.specs.Cells.{cell_width, cell_bytes, cell_value, IsSound}
use Rattle.row_codec.specs.Faults.{columns_fault}

-- how many bytes a row has
abbrev pub row_width : List Field → ℕ
row_width [] = 0
row_width (field ∷ fields) = cell_width field.kind + row_width fields

-- a row's values, one behind another
abbrev pub packed : List Field → List Value → List ℕ
packed [] row = []
packed (field ∷ fields) [] = []
packed (field ∷ fields) (value ∷ row) = cell_bytes field.kind value ++ packed fields row

-- the row of a tuple
abbrev pub row_of : List Field → List ℕ → List Value
row_of [] tuple = []
row_of (field ∷ fields) tuple = cell_value field.kind (take (cell_width field.kind) tuple) ∷ row_of fields (drop (cell_width field.kind) tuple)

abbrev pub AreSound : List Value → Type 0
AreSound [] = Unit {0}
AreSound (value ∷ row) = IsSound value × AreSound row

-- a row that may stand in a table of these columns: a value for each, which fits it
pub record IsRow (fields : List Field) (row : List Value) : Type 0 where
  pub count : length row ≡ length fields
  pub fits : columns_fault fields row ≡ None
  pub sound : AreSound row

-- columns whose rows can be packed: at least one, and at most 8,192 bytes
pub record CanPack (fields : List Field) : Type 0 where
  pub some : 0 < row_width fields
  pub limit : row_width fields ≤ 8192

-- a tuple that holds a row of these columns
pub record IsTuple (fields : List Field) (tuple : List ℕ) : Type 0 where
  pub width : length tuple ≡ row_width fields
  pub row : IsRow fields (row_of fields tuple)

-- where each column begins in a tuple
pub record AreOffsets (fields : List Field) (offsets : List ℕ) : Type 0 where
  pub count : length offsets ≡ length fields
  pub at : (column : ℕ) → column < length fields → slice_index offsets column ≡ row_width (take column fields)

pub record IsLayout (fields : List Field) (offsets : List ℕ) (width : ℕ) : Type 0 where
  pub can_pack : CanPack fields
  pub begins : AreOffsets fields offsets
  pub width_is : width ≡ row_width fields
