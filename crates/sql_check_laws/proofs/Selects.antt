-- A SELECT: outputs, groups and orders name what is there, and give the classes that are told.
use Rattle.std.proofs.Common.{◌≡◌, ℕ, ◌+◌, ◌<◌, Bool, true, false, List, [], ◌∷◌, ◌++◌, map, length, Option, Some, None, is_some, refl, subst, ap}
use Rattle.std.specs.List.{list_all, list_any}
use Rattle.std.proofs.lemmas.Bool.{and_parts, and_from, or_parts, lt-ltb}
use Rattle.std.proofs.lemmas.Option.{slice_get_within}
use Rattle.volt_value.specs.declared.column.Class.{Class}
use Rattle.volt_value.specs.declared.column.Class.TheVariants as class
use Rattle.volt_value.specs.Columns.{class_of}
use Rattle.volt_catalog.specs.declared.column.Column.{Column}
use Rattle.volt_catalog.specs.Names.{same_name}
use Rattle.expr_parse.specs.declared.expression.ColumnName.{ColumnName}
use Rattle.expr_parse.specs.declared.expression.Expr.{Expr}
use Rattle.sql_parse.specs.declared.statement.Limit.{Limit}
use Rattle.sql_parse.specs.declared.statement.Limit.TheVariants as limit
use Rattle.sql_parse.specs.declared.statement.Output.{Output}
use Rattle.sql_parse.specs.declared.statement.OutputValue.{OutputValue}
use Rattle.sql_parse.specs.declared.statement.OutputValue.TheVariants as value
use Rattle.sql_parse.specs.declared.statement.SortKey.{SortKey}
use Rattle.sql_plan.specs.declared.select.Order.{Order}
use Rattle.sql_plan.specs.declared.select.OrderBy.{OrderBy}
use Rattle.sql_plan.specs.declared.select.OrderBy.TheVariants as by
use Rattle.sql_resolve.specs.declared.fault.CheckFault.TheVariants.{NoSuchName}
use Rattle.sql_resolve.specs.declared.names.FoundColumn.{FoundColumn}
use Rattle.sql_resolve.specs.declared.notes.Notes.{Notes}
use Rattle.sql_resolve.specs.Named.{Tables}
use Rattle.sql_resolve.specs.Names.{column_of, variable_in}
use Rattle.sql_resolve.specs.Notes.{blamed}
use Rattle.sql_resolve.specs.Expressions.{with, meaning_of, question, taken}
use Rattle.sql_check.specs.Selects.{Heads, class_given, heads_from, heads_of_columns, row_output, row_outputs, is_aggregate, column_by, or_column, output_named, order_by, order_one, ordered, limited_by, limited_to}
use Rattle.sql_meaning.specs.WellFormed.{is_class, gives, give_each, is_among, limit_fits}
use Rattle.sql_check_laws.specs.Numbers.{has_bigints, output_has_bigints}
use Rattle.sql_check_laws.proofs.Columns.{some-same, position-within, classes, FindsColumns}
use Rattle.sql_check_laws.proofs.Expressions.{IsRight, Gives, alone_in_is, list_all-append, expression_is}
use Rattle.sql_check_laws.proofs.Fine.{Finds, blamed_not, found_then, HasParam, question_is, taken_is}

-- ---- columns of outputs

abbrev pub head_classes : Heads → List Class
head_classes heads = map (λ (head : List ℕ × Class). head.1) heads

pub heads-classes : (columns : List Column) → head_classes (heads_of_columns columns) ≡ classes columns
heads-classes [] = refl
heads-classes (column ∷ columns) = ap (λ cs. class_of column.kind ∷ cs) (heads-classes columns)

abbrev pub have_bigints : List Output → Bool
have_bigints outputs = list_all (λ (output : Output). output_has_bigints output.value) outputs

module _ (names : Tables) where
  abbrev pub given_by : List Output → List Class
  given_by outputs = map (λ (output : Output). class_given names output.value) outputs

  pub heads-given : (place : ℕ) (outputs : List Output) → head_classes (heads_from names place outputs) ≡ given_by outputs
  heads-given place [] = refl
  heads-given place (output ∷ outputs) = ap (λ cs. class_given names output.value ∷ cs) (heads-given (place + 1) outputs)

-- ---- orders

-- what rows are put in order by is one of so many outputs or columns
abbrev pub AreAmong : ℕ → ℕ → List Order → Type 0
AreAmong outputs columns order = list_all (λ (o : Order). is_among outputs columns o.by) order ≡ true

module _ (params all : List Class) (names : Tables) (at : FindsColumns all names) where
  -- how many columns ORDER BY may name, where there are groups of so many
  abbrev pub columns_for : Bool → ℕ → ℕ
  columns_for true groups = groups
  columns_for false groups = length all

  column_by_is : (o : Option FoundColumn) (name : ColumnName) → column_of names name ≡ o → (outputs : ℕ) (key : OrderBy) → column_by o ≡ Some key → is_among outputs (length all) key ≡ true
  column_by_is None name found outputs key e = absurd (cc)
  column_by_is (Some column) name found outputs key e =
      subst (λ b. is_among outputs (length all) b ≡ true) (some-same (by.Column column.number) key e)
      (lt-ltb column.number (length all) (slice_get_within all column.number column.class (at name column found)))

  output_named-within : (heads : Heads) (name : ColumnName) (table : Option (List ℕ)) (place : ℕ) → output_named heads name table ≡ Some place → place < length heads
  output_named-within heads name None place e = position-within (λ (head : List ℕ × Class). same_name name.column head.0) heads place e
  output_named-within heads name (Some table) place e = absurd (cc)

  or_column_is : (groups : ℕ) (heads : Heads) (grouped : Bool) (name : ColumnName) (n : Option ℕ) → output_named heads name name.table ≡ n → (key : OrderBy)
      → or_column names grouped name n ≡ Some key → is_among (length heads) (columns_for grouped groups) key ≡ true
  or_column_is groups heads true name None found key e = absurd (cc)
  or_column_is groups heads false name None found key e = column_by_is (column_of names name) name refl (length heads) key e
  or_column_is groups heads grouped name (Some place) found key e =
      subst (λ b. is_among (length heads) (columns_for grouped groups) b ≡ true) (some-same (by.Output place) key e)
      (lt-ltb place (length heads) (output_named-within heads name name.table place found))

  pub ordered_is : (groups : ℕ) (heads : Heads) (grouped : Bool) (keys : List SortKey) (so_far : List Order) (notes : Notes)
      → Finds params (λ order. AreAmong (length heads) (columns_for grouped groups) so_far → AreAmong (length heads) (columns_for grouped groups) order) notes (ordered names heads grouped keys so_far notes)
  ordered_is groups heads grouped [] so_far notes fine = (fine, λ h. h)
  ordered_is groups heads grouped (key ∷ keys) so_far notes fine = step (λ before after. ordered_is groups heads grouped keys before after) (order_by names heads grouped key.column) refl fine
    where
      Ordered : List Order → Notes → Notes × List Order → Type 0
      Ordered before after found = Finds params (λ order. AreAmong (length heads) (columns_for grouped groups) before → AreAmong (length heads) (columns_for grouped groups) order) after found

      step : ((before : List Order) (after : Notes) → Ordered before after (ordered names heads grouped keys before after)) → (o : Option OrderBy) → order_by names heads grouped key.column ≡ o
          → Ordered so_far notes (with (order_one so_far key.descending o notes) (ordered names heads grouped keys))
      step later None e fine = absurd (blamed_not params NoSuchName notes (later so_far (blamed NoSuchName notes) fine).0)
      step later (Some found) e fine =
          let made : Order = record { by = found; descending = key.descending } in
          let rest = later (so_far ++ made ∷ []) notes fine in (
            rest.0,
            λ h. rest.1 (list_all-append (λ (o : Order). is_among (length heads) (columns_for grouped groups) o.by) so_far made h
                (or_column_is groups heads grouped key.column (output_named heads key.column key.column.table) refl found e)),
          )

  -- ---- LIMIT

  limited_by_is : (n : Option ℕ) (notes : Notes) → Finds params (λ l. HasParam params class.Int n → limit_fits params l ≡ true) notes (limited_by n notes)
  limited_by_is None notes fine = (fine, λ h. refl)
  limited_by_is (Some n) notes fine = (fine, λ h. ap (is_class class.Int) h)

  pub limited_to_is : (written : Option Limit) (notes : Notes) → Finds params (λ l. limit_fits params l ≡ true) notes (limited_to names written notes)
  limited_to_is None notes fine = (fine, refl)
  limited_to_is (Some (limit.Number z)) notes fine = (fine, refl)
  limited_to_is (Some limit.Parameter) notes fine =
      found_then params (HasParam params class.Int) (λ l. limit_fits params l ≡ true) notes (question (is_some names.program) class.Int notes) limited_by (question_is params (is_some names.program) class.Int notes) limited_by_is fine
  limited_to_is (Some (limit.Variable name)) notes fine =
      found_then params (HasParam params class.Int) (λ l. limit_fits params l ≡ true) notes (taken (variable_in names.program name) class.Int notes) limited_by (taken_is params (variable_in names.program name) class.Int notes) limited_by_is fine

  -- ---- outputs of rows

  right : (e : Expr) → has_bigints e ≡ true → IsRight all params (meaning_of names e)
  right = expression_is all params names at

  row_output_is : (x : OutputValue) → output_has_bigints x ≡ true → is_aggregate x ≡ false → (notes : Notes) → Finds params (Gives all params (class_given names x)) notes (row_output names x notes)
  row_output_is (value.Expr e) ok plain notes = alone_in_is all params (meaning_of names e) (right e ok) notes
  row_output_is value.CountRows ok plain notes = absurd (cc)
  row_output_is (value.Aggregate kind e) ok plain notes = absurd (cc)

  pub row_outputs_are : (outputs : List Output) → have_bigints outputs ≡ true → list_any (λ (output : Output). is_aggregate output.value) outputs ≡ false → (notes : Notes)
      → Finds params (λ xs. give_each all params xs (given_by names outputs) ≡ true) notes (row_outputs names outputs notes)
  row_outputs_are [] ok plain notes fine = (fine, refl)
  row_outputs_are (output ∷ outputs) ok plain notes fine =
      let parts = and_parts (output_has_bigints output.value) (have_bigints outputs) ok in
      let plains = or_parts (is_aggregate output.value) (list_any (λ (output : Output). is_aggregate output.value) outputs) plain in
      let first = row_output names output.value notes in
      let later = row_outputs_are outputs parts.1 plains.1 first.0 fine in
      let now = row_output_is output.value parts.0 plains.0 notes later.0 in
      (now.0, and_from (gives all params first.1 (class_given names output.value)) (give_each all params (row_outputs names outputs first.0).1 (given_by names outputs)) now.1 later.1)
