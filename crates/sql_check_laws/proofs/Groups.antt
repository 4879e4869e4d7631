-- The outputs of a SELECT with groups.
use Rattle.std.proofs.Common.{◌≡◌, ℕ, suc, true, nat_lt, ◌==◌, List, [], ◌∷◌, ◌++◌, length, slice_get, get_or, Option, Some, None, refl, sym, subst, ap, ◌∙◌, arith, append_assoc, append-nil}
use Rattle.std.specs.List.{list_all}
use Rattle.std.proofs.lemmas.Bool.{and_parts, and_from, or_left, or_right, eqb-true, lt-ltb}
use Rattle.std.proofs.lemmas.List.Quantifiers.{position-Some}
use Rattle.std.proofs.lemmas.Option.{slice_get_within, slice_get-get_or}
use Rattle.volt_value.specs.declared.column.Class.{Class}
use Rattle.volt_value.specs.declared.column.Class.TheVariants as class
use Rattle.expr_parse.specs.declared.expression.ColumnName.{ColumnName}
use Rattle.expr_parse.specs.declared.expression.Expr.{Expr, roll-Expr, map-Expr}
use Rattle.expr_parse.specs.declared.expression.Expr.TheOpen.{Expr-F as e}
use Rattle.expr_parse.specs.declared.expression.Expr.TheFolds.{fold-roll-Expr, ind-Expr}
use Rattle.sql_parse.specs.declared.statement.Aggregate.{Aggregate}
use Rattle.sql_parse.specs.declared.statement.Aggregate.TheVariants as kind
use Rattle.sql_parse.specs.declared.statement.Output.{Output}
use Rattle.sql_parse.specs.declared.statement.OutputValue.{OutputValue}
use Rattle.sql_parse.specs.declared.statement.OutputValue.TheVariants as value
use Rattle.sql_plan.specs.declared.select.Aggregated.{Aggregated}
use Rattle.sql_plan.specs.declared.select.Aggregated.TheVariants as agg
use Rattle.sql_plan.specs.declared.select.GroupOutput.{GroupOutput}
use Rattle.sql_plan.specs.declared.select.GroupOutput.TheVariants as output
use Rattle.sql_resolve.specs.declared.fault.CheckFault.TheVariants.{NoSuchName, TypeMismatch}
use Rattle.sql_resolve.specs.declared.names.FoundColumn.{FoundColumn}
use Rattle.sql_resolve.specs.declared.notes.Notes.{Notes}
use Rattle.sql_resolve.specs.Named.{Tables}
use Rattle.sql_resolve.specs.Names.{column_of}
use Rattle.sql_resolve.specs.Notes.{blamed}
use Rattle.sql_resolve.specs.Expressions.{with, sort_of_found, own_class, alone_in, noted_alone, Meaning, meaning_step, meaning_of, sort_of}
use Rattle.sql_check.specs.declared.groups.Grouping.{Grouping}
use Rattle.sql_check.specs.Selects.{column_step, column_written, class_given, group_one, group_columns, aggregated, no_outputs, with_group_column, with_aggregate, group_place, group_expr, group_output, group_outputs}
use Rattle.sql_meaning.specs.WellFormed.{is_class, aggregate_gives, aggregates_give, is_aggregate, group_class, aggregate_is, output_gives, outputs_give}
use Rattle.sql_check_laws.specs.Numbers.{has_bigints, output_has_bigints}
use Rattle.sql_check_laws.proofs.Columns.{some-same, get-left, FindsColumns}
use Rattle.sql_check_laws.proofs.Expressions.{is_class-same, IsRight, scalar_in_is, alone_in_is, comparable_one, list_all-append, expression_is}
use Rattle.sql_check_laws.proofs.Fine.{Finds, blamed_not, alone_is, slice_get-seam}
use Rattle.sql_check_laws.proofs.Selects.{have_bigints, given_by}

-- ---- outputs that are columns

module _ (names : Tables) where
  abbrev IsOfColumn : Expr → Type 0
  IsOfColumn x = (name : ColumnName) → column_written x ≡ Some name → sort_of names x ≡ sort_of_found (column_of names name)

  abbrev Known : Type 0
  Known = (x : Expr) × IsOfColumn x

  layer : (y : e Known) (name : ColumnName) → column_step (map-Expr Expr (Option ColumnName) column_written (map-Expr Known Expr (λ x. x.0) y)) ≡ Some name
      → (meaning_step names (map-Expr Expr Meaning (meaning_of names) (map-Expr Known Expr (λ x. x.0) y))).sort ≡ sort_of_found (column_of names name)
  layer (e.Column written) name h = ap (λ n. sort_of_found (column_of names n)) (some-same written name h)
  layer (e.Parenthesized x) name h = x.1 name h
  layer (e.Number z) name h = absurd (cc)
  layer (e.Text t) name h = absurd (cc)
  layer e.Null name h = absurd (cc)
  layer e.Parameter name h = absurd (cc)
  layer (e.Variable v) name h = absurd (cc)
  layer (e.RowColumn row column) name h = absurd (cc)
  layer (e.Rows v) name h = absurd (cc)
  layer (e.First v column) name h = absurd (cc)
  layer (e.Negate x) name h = absurd (cc)
  layer (e.Calculate op x y) name h = absurd (cc)
  layer (e.Compare op x y) name h = absurd (cc)
  layer (e.IsNull x negated) name h = absurd (cc)
  layer (e.Between x low high negated) name h = absurd (cc)
  layer (e.In x items negated) name h = absurd (cc)
  layer (e.Not x) name h = absurd (cc)
  layer (e.And x y) name h = absurd (cc)
  layer (e.Or x y) name h = absurd (cc)

  sort_of_column : (x : Expr) → IsOfColumn x
  sort_of_column = ind-Expr IsOfColumn (λ x y is. subst (λ z. IsOfColumn (roll-Expr z)) is (λ name h.
      ap (λ m. m.sort) (fold-roll-Expr Meaning (meaning_step names) (map-Expr Known Expr (λ x. x.0) y))
      ∙ layer y name (sym (fold-roll-Expr (Option ColumnName) column_step (map-Expr Known Expr (λ x. x.0) y)) ∙ h)))

-- ---- aggregates and outputs, one after another

module _ (all params : List Class) where
  aggregate-fits : (a : Aggregated) (class : Class) → aggregate_gives all params a class ≡ true → is_aggregate all params a ≡ true
  aggregate-fits a class.Int h = or_left (aggregate_gives all params a class.Int) (aggregate_gives all params a class.Text) h
  aggregate-fits a class.Text h = or_right (aggregate_gives all params a class.Int) (aggregate_gives all params a class.Text) h

  aggregates-more : (aggregates : List Aggregated) (given : List Class) (a : Aggregated) (class : Class) → aggregates_give all params aggregates given ≡ true → aggregate_gives all params a class ≡ true
      → aggregates_give all params (aggregates ++ a ∷ []) (given ++ class ∷ []) ≡ true
  aggregates-more [] [] a class h k = and_from (aggregate_gives all params a class) true k refl
  aggregates-more [] (c ∷ given) a class h k = absurd (cc)
  aggregates-more (b ∷ aggregates) [] a class h k = absurd (cc)
  aggregates-more (b ∷ aggregates) (c ∷ given) a class h k =
      let parts = and_parts (aggregate_gives all params b c) (aggregates_give all params aggregates given) h in
      and_from (aggregate_gives all params b c) (aggregates_give all params (aggregates ++ a ∷ []) (given ++ class ∷ [])) parts.0 (aggregates-more aggregates given a class parts.1 k)

  module _ (grouped : List ℕ) where
    outputs-more : (aggregates : List Aggregated) (outputs : List GroupOutput) (given : List Class) (o : GroupOutput) (class : Class) → outputs_give all params grouped aggregates outputs given ≡ true
        → output_gives all params grouped aggregates o class ≡ true → outputs_give all params grouped aggregates (outputs ++ o ∷ []) (given ++ class ∷ []) ≡ true
    outputs-more aggregates [] [] o class h k = and_from (output_gives all params grouped aggregates o class) true k refl
    outputs-more aggregates [] (c ∷ given) o class h k = absurd (cc)
    outputs-more aggregates (p ∷ outputs) [] o class h k = absurd (cc)
    outputs-more aggregates (p ∷ outputs) (c ∷ given) o class h k =
        let parts = and_parts (output_gives all params grouped aggregates p c) (outputs_give all params grouped aggregates outputs given) h in
        and_from (output_gives all params grouped aggregates p c) (outputs_give all params grouped aggregates (outputs ++ o ∷ []) (given ++ class ∷ [])) parts.0 (outputs-more aggregates outputs given o class parts.1 k)

    aggregate-among : (aggregates : List Aggregated) (a : Aggregated) (n : ℕ) (class : Class) (o : Option Aggregated) → slice_get aggregates n ≡ o → aggregate_is all params o class ≡ true
        → aggregate_is all params (slice_get (aggregates ++ a ∷ []) n) class ≡ true
    aggregate-among aggregates a n class None e h = absurd (cc)
    aggregate-among aggregates a n class (Some b) e h = ap (λ o. aggregate_is all params o class) (get-left aggregates (a ∷ []) n b e) ∙ h

    output-among : (aggregates : List Aggregated) (a : Aggregated) (o : GroupOutput) (class : Class) → output_gives all params grouped aggregates o class ≡ true → output_gives all params grouped (aggregates ++ a ∷ []) o class ≡ true
    output-among aggregates a (output.Column n) class h = h
    output-among aggregates a (output.Aggregate n) class h = aggregate-among aggregates a n class (slice_get aggregates n) refl h

    outputs-among : (aggregates : List Aggregated) (a : Aggregated) (outputs : List GroupOutput) (given : List Class) → outputs_give all params grouped aggregates outputs given ≡ true
        → outputs_give all params grouped (aggregates ++ a ∷ []) outputs given ≡ true
    outputs-among aggregates a [] [] h = refl
    outputs-among aggregates a [] (c ∷ given) h = absurd (cc)
    outputs-among aggregates a (p ∷ outputs) [] h = absurd (cc)
    outputs-among aggregates a (p ∷ outputs) (c ∷ given) h =
        let parts = and_parts (output_gives all params grouped aggregates p c) (outputs_give all params grouped aggregates outputs given) h in
        and_from (output_gives all params grouped (aggregates ++ a ∷ []) p c) (outputs_give all params grouped (aggregates ++ a ∷ []) outputs given) (output-among aggregates a p c parts.0) (outputs-among aggregates a outputs given parts.1)

    pub outputs_give-length : (aggregates : List Aggregated) (outputs : List GroupOutput) (given : List Class) → outputs_give all params grouped aggregates outputs given ≡ true → length outputs ≡ length given
    outputs_give-length aggregates [] [] h = refl
    outputs_give-length aggregates [] (c ∷ given) h = absurd (cc)
    outputs_give-length aggregates (p ∷ outputs) [] h = absurd (cc)
    outputs_give-length aggregates (p ∷ outputs) (c ∷ given) h =
        ap (λ (n : ℕ). suc n) (outputs_give-length aggregates outputs given (and_parts (output_gives all params grouped aggregates p c) (outputs_give all params grouped aggregates outputs given) h).1)

    -- outputs so far; where there are no columns of groups they are the aggregates
    pub record AreOutputs (given : List Class) (made : Grouping) : Type 0 where
      pub fit : list_all (is_aggregate all params) made.aggregates ≡ true
      pub give : outputs_give all params grouped made.aggregates made.outputs given ≡ true
      pub total : (length grouped == 0) ≡ true → aggregates_give all params made.aggregates given ≡ true

    pub none-are : AreOutputs [] no_outputs
    none-are = record { fit = refl; give = refl; total = λ e. refl }

    aggregate-is : (made : Grouping) (given : List Class) (a : Aggregated) (class : Class) → AreOutputs given made → aggregate_gives all params a class ≡ true → AreOutputs (given ++ class ∷ []) (with_aggregate made a)
    aggregate-is made given a class h k = record {
      fit = list_all-append (is_aggregate all params) made.aggregates a h.fit (aggregate-fits a class k);
      give = outputs-more (made.aggregates ++ a ∷ []) made.outputs given (output.Aggregate (length made.aggregates)) class (outputs-among made.aggregates a made.outputs given h.give)
          (ap (λ o. aggregate_is all params o class) (slice_get-seam made.aggregates a []) ∙ k);
      total = λ e. aggregates-more made.aggregates given a class (h.total e) k;
    }

    module _ (names : Tables) (at : FindsColumns all names) where
      right : (x : Expr) → has_bigints x ≡ true → IsRight all params (meaning_of names x)
      right = expression_is all params names at

      aggregated_is : (k : Aggregate) (x : Expr) → has_bigints x ≡ true → (notes : Notes)
          → Finds params (λ a. aggregate_gives all params a (class_given names (value.Aggregate k x)) ≡ true) notes (aggregated names k x notes)
      aggregated_is kind.Count x ok notes fine =
          let found = alone_in_is all params (meaning_of names x) (right x ok) notes fine in
          (found.0, comparable_one all params (own_class (sort_of names x)) (alone_in (meaning_of names x) notes).1 found.1)
      aggregated_is kind.Sum x ok notes fine =
          let found = scalar_in_is all params (meaning_of names x) (right x ok) class.Int (noted_alone (sort_of names x) notes) fine in
          (alone_is params (sort_of names x) notes found.0, found.1)
      aggregated_is kind.Min x ok notes fine = alone_in_is all params (meaning_of names x) (right x ok) notes fine
      aggregated_is kind.Max x ok notes fine = alone_in_is all params (meaning_of names x) (right x ok) notes fine

      -- a column of GROUP BY, in an output of its class
      column-is : (made : Grouping) (given : List Class) (found : Option FoundColumn) → ((column : FoundColumn) → found ≡ Some column → slice_get all column.number ≡ Some column.class)
          → (place : Option ℕ) → group_place grouped found ≡ place → (notes : Notes)
          → Finds params (λ new. AreOutputs given made → AreOutputs (given ++ own_class (sort_of_found found) ∷ []) new) notes (with_group_column made place notes)
      column-is made given found there None e notes fine = absurd (blamed_not params NoSuchName notes fine)
      column-is made given None there (Some place) e notes fine = absurd (cc)
      column-is made given (Some column) there (Some place) e notes fine =
          let stands = position-Some (λ n. n == column.number) grouped place 0 e in
          let number : slice_get grouped place ≡ Some column.number = slice_get-get_or grouped place 0 stands.0 ∙ ap Some (eqb-true (get_or grouped place 0) column.number stands.1) in (
            fine,
            λ h. record {
              fit = h.fit;
              give = outputs-more made.aggregates made.outputs given (output.Column place) column.class h.give
                  (ap (λ o. is_class column.class (group_class all o)) number ∙ ap (is_class column.class) (there column refl) ∙ is_class-same column.class);
              total = λ none. let empty : length grouped ≡ 0 = eqb-true (length grouped) 0 none in absurd (omega (arith, empty, stands.0));
            },
          )

      group_expr_is : (x : Expr) → has_bigints x ≡ true → (written : Option ColumnName) → column_written x ≡ written → (made : Grouping) (given : List Class) (notes : Notes)
          → Finds params (λ new. AreOutputs given made → AreOutputs (given ++ own_class (sort_of names x) ∷ []) new) notes (group_expr names grouped x written made notes)
      group_expr_is x ok (Some name) same made given notes fine =
          subst (λ sort. Finds params (λ new. AreOutputs given made → AreOutputs (given ++ own_class sort ∷ []) new) notes (group_expr names grouped x (Some name) made notes)) (sym (sort_of_column names x name same))
          (column-is made given (column_of names name) (at name) (group_place grouped (column_of names name)) refl notes) fine
      group_expr_is x ok None same made given notes fine = absurd (blamed_not params TypeMismatch notes (alone_in_is all params (meaning_of names x) (right x ok) (blamed TypeMismatch notes) fine).0)

      group_output_is : (x : OutputValue) → output_has_bigints x ≡ true → (made : Grouping) (given : List Class) (notes : Notes)
          → Finds params (λ new. AreOutputs given made → AreOutputs (given ++ class_given names x ∷ []) new) notes (group_output names grouped x made notes)
      group_output_is (value.Expr x) ok made given notes fine = group_expr_is x ok (column_written x) refl made given notes fine
      group_output_is value.CountRows ok made given notes fine = (fine, λ h. aggregate-is made given agg.CountRows class.Int h refl)
      group_output_is (value.Aggregate k x) ok made given notes fine =
          let found = aggregated_is k x ok notes fine in
          (found.0, λ h. aggregate-is made given (aggregated names k x notes).1 (class_given names (value.Aggregate k x)) h found.1)

      pub group_outputs_are : (outputs : List Output) → have_bigints outputs ≡ true → (made : Grouping) (given : List Class) (notes : Notes)
          → Finds params (λ new. AreOutputs given made → AreOutputs (given ++ given_by names outputs) new) notes (group_outputs names grouped outputs made notes)
      group_outputs_are [] ok made given notes fine = (fine, λ h. subst (λ g. AreOutputs g made) (sym (append-nil given)) h)
      group_outputs_are (o ∷ outputs) ok made given notes fine =
          let parts = and_parts (output_has_bigints o.value) (have_bigints outputs) ok in
          let class = class_given names o.value in
          let first = group_output names grouped o.value made notes in
          let later = group_outputs_are outputs parts.1 first.1 (given ++ class ∷ []) first.0 fine in
          let now = group_output_is o.value parts.0 made given notes later.0 in
          (now.0, λ h. subst (λ g. AreOutputs g (group_outputs names grouped outputs first.1 first.0).1) (append_assoc given (class ∷ []) (given_by names outputs)) (later.1 (now.1 h)))

-- ---- GROUP BY

abbrev pub AreWithin : ℕ → List ℕ → Type 0
AreWithin n numbers = list_all (λ k. nat_lt k n) numbers ≡ true

pub group_columns_are : (params all : List Class) (names : Tables) → FindsColumns all names → (columns : List ColumnName) (grouped : List ℕ) (notes : Notes)
    → Finds params (λ new. AreWithin (length all) grouped → AreWithin (length all) new) notes (group_columns names columns grouped notes)
group_columns_are params all names at [] grouped notes fine = (fine, λ h. h)
group_columns_are params all names at (name ∷ columns) grouped notes fine = step (λ before after. group_columns_are params all names at columns before after) (column_of names name) refl fine
  where
    Grouped : List ℕ → Notes → Notes × List ℕ → Type 0
    Grouped before after found = Finds params (λ new. AreWithin (length all) before → AreWithin (length all) new) after found

    step : ((before : List ℕ) (after : Notes) → Grouped before after (group_columns names columns before after)) → (o : Option FoundColumn) → column_of names name ≡ o
        → Grouped grouped notes (with (group_one grouped o notes) (group_columns names columns))
    step later None same fine = absurd (blamed_not params NoSuchName notes (later grouped (blamed NoSuchName notes) fine).0)
    step later (Some column) same fine =
        let rest = later (grouped ++ column.number ∷ []) notes fine in
        (rest.0, λ h. rest.1 (list_all-append (λ k. nat_lt k (length all)) grouped column.number h (lt-ltb column.number (length all) (slice_get_within all column.number column.class (at name column same)))))
