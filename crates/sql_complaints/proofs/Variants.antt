-- What is wrong in an expression, variant by variant.
use Rattle.std.proofs.Common.{◌≡◌, Bool, List, [], ◌∷◌, ◌++◌, map, flat_map, refl, sym, ap, ◌∙◌}
use Rattle.volt_value.specs.declared.column.Class.{Class}
use Rattle.expr_parse.specs.declared.expression.Arithmetic.{Arithmetic}
use Rattle.expr_parse.specs.declared.expression.Comparison.{Comparison}
use Rattle.expr_parse.specs.declared.expression.Expr.{Expr}
use Rattle.expr_parse.specs.declared.expression.Expr.TheOpen.{Expr-F as e}
use Rattle.expr_parse.specs.declared.expression.Expr.TheFolds.{fold-roll-Expr}
use Rattle.expr_parse.specs.declared.expression.Expr.TheVariants as expr
use Rattle.sql_resolve.specs.Expressions.{common, sort_of, meaning_of, Meaning}
use Rattle.sql_resolve.specs.Named.{Tables}
use Rattle.sql_complaints.specs.declared.complaints.Part.{Part}
use Rattle.sql_complaints.specs.declared.complaints.Wanted.TheVariants as wanted
use Rattle.sql_complaints.specs.Expressions.{Read, where_wanted, integer, truth, compared, between, contained, read_step, read, complaints}
use Rattle.sql_complaints.proofs.SortLemmas.{same_sort, same_sorts}

module _ (part : Part) (names : Tables) where
  pub inner_Calculate : (op : Arithmetic) (a b : Expr) → (read part names (expr.Calculate op a b)).inner ≡ integer (read part names a) ++ integer (read part names b)
  inner_Calculate op a b = ap (λ x. (read part names x).inner) (sym (expr.rolls-Calculate op a b)) ∙ ap (λ (r : Read). r.inner) (fold-roll-Expr Read (read_step part names) (e.Calculate op a b))

  pub inner_And : (a b : Expr) → (read part names (expr.And a b)).inner ≡ truth (read part names a) ++ truth (read part names b)
  inner_And a b = ap (λ x. (read part names x).inner) (sym (expr.rolls-And a b)) ∙ ap (λ (r : Read). r.inner) (fold-roll-Expr Read (read_step part names) (e.And a b))

  pub inner_Or : (a b : Expr) → (read part names (expr.Or a b)).inner ≡ truth (read part names a) ++ truth (read part names b)
  inner_Or a b = ap (λ x. (read part names x).inner) (sym (expr.rolls-Or a b)) ∙ ap (λ (r : Read). r.inner) (fold-roll-Expr Read (read_step part names) (e.Or a b))

  test_Compare : (op : Comparison) (a b : Expr) → (read part names (expr.Compare op a b)).test ≡ compared (read part names a) (read part names b)
  test_Compare op a b = ap (λ x. (read part names x).test) (sym (expr.rolls-Compare op a b)) ∙ ap (λ (r : Read). r.test) (fold-roll-Expr Read (read_step part names) (e.Compare op a b))

  test_Between : (a low high : Expr) (negated : Bool) → (read part names (expr.Between a low high negated)).test ≡ between (read part names a) (read part names low) (read part names high)
  test_Between a low high negated = ap (λ x. (read part names x).test) (sym (expr.rolls-Between a low high negated)) ∙ ap (λ (r : Read). r.test) (fold-roll-Expr Read (read_step part names) (e.Between a low high negated))

  test_In : (a : Expr) (items : List Expr) (negated : Bool) → (read part names (expr.In a items negated)).test ≡ contained (read part names a) (map (read part names) items)
  test_In a items negated = ap (λ x. (read part names x).test) (sym (expr.rolls-In a items negated)) ∙ ap (λ (r : Read). r.test) (fold-roll-Expr Read (read_step part names) (e.In a items negated))

  -- with the class of the values that are compared
  pub compared_at : (op : Comparison) (a b : Expr) (class : Class) → class ≡ common (sort_of names a ∷ sort_of names b ∷ [])
      → (read part names (expr.Compare op a b)).test ≡ complaints part names (wanted.Value class) a ++ complaints part names (wanted.Value class) b
  compared_at op a b class h =
      test_Compare op a b
      ∙ ap (λ class. complaints part names (wanted.Value class) a ++ complaints part names (wanted.Value class) b)
      ((λ i. common (same_sort part names a i ∷ same_sort part names b i ∷ [])) ∙ sym h)

  pub between_at : (a low high : Expr) (negated : Bool) (class : Class) → class ≡ common (sort_of names a ∷ sort_of names low ∷ sort_of names high ∷ [])
      → (read part names (expr.Between a low high negated)).test
      ≡ complaints part names (wanted.Value class) a ++ complaints part names (wanted.Value class) low ++ complaints part names (wanted.Value class) high
  between_at a low high negated class h =
      test_Between a low high negated
      ∙ ap (λ class. complaints part names (wanted.Value class) a ++ complaints part names (wanted.Value class) low ++ complaints part names (wanted.Value class) high)
      ((λ i. common (same_sort part names a i ∷ same_sort part names low i ∷ same_sort part names high i ∷ [])) ∙ sym h)

  flat_read : (class : Class) (items : List Expr) → flat_map (where_wanted (wanted.Value class)) (map (read part names) items) ≡ flat_map (complaints part names (wanted.Value class)) items
  flat_read class [] = refl
  flat_read class (x ∷ items) = ap (λ xs. complaints part names (wanted.Value class) x ++ xs) (flat_read class items)

  pub contained_at : (a : Expr) (items : List Expr) (negated : Bool) (class : Class) → class ≡ common (sort_of names a ∷ map (λ (m : Meaning). m.sort) (map (meaning_of names) items))
      → (read part names (expr.In a items negated)).test ≡ complaints part names (wanted.Value class) a ++ flat_map (complaints part names (wanted.Value class)) items
  contained_at a items negated class h =
      test_In a items negated
      ∙ ap (λ class. complaints part names (wanted.Value class) a ++ flat_map (where_wanted (wanted.Value class)) (map (read part names) items))
      ((λ i. common (same_sort part names a i ∷ same_sorts part names items i)) ∙ sym h)
      ∙ ap (λ xs. complaints part names (wanted.Value class) a ++ xs) (flat_read class items)
