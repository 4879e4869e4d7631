-- What an expression gives is the same for checking and for complaints.
use Rattle.std.proofs.Common.{◌≡◌, Bool, true, false, List, [], ◌∷◌, map, is_some, refl, sym, subst, ap, ◌∙◌}
use Rattle.expr_parse.specs.declared.expression.Expr.{Expr, roll-Expr, map-Expr}
use Rattle.expr_parse.specs.declared.expression.Expr.TheOpen.{Expr-F as e}
use Rattle.expr_parse.specs.declared.expression.Expr.TheFolds.{fold-roll-Expr, ind-Expr}
use Rattle.sql_resolve.specs.Expressions.{Meaning, meaning_step, meaning_of, sort_of}
use Rattle.sql_resolve.specs.Named.{Tables}
use Rattle.sql_complaints.specs.declared.complaints.Part.{Part}
use Rattle.sql_complaints.specs.Expressions.{Read, question, read_step, read}
use Rattle.sql_resolve.specs.declared.sort.Sort.TheVariants.{Open}

module _ (part : Part) (names : Tables) where
  abbrev IsSame : Expr → Type 0
  IsSame x = (read part names x).sort ≡ sort_of names x

  abbrev Known : Type 0
  Known = (x : Expr) × IsSame x

  question-sort : (stray : Bool) → (question part stray).sort ≡ Open
  question-sort true = refl
  question-sort false = refl

  layer : (y : e Known) → (read_step part names (map-Expr Expr Read (read part names) (map-Expr Known Expr (λ x. x.0) y))).sort ≡ (meaning_step names (map-Expr Expr Meaning (meaning_of names) (map-Expr Known Expr (λ x. x.0) y))).sort
  layer (e.Number z) = refl
  layer (e.Text t) = refl
  layer e.Null = refl
  layer e.Parameter = question-sort (is_some names.program)
  layer (e.Column name) = refl
  layer (e.Parenthesized x) = x.1
  layer (e.Variable v) = refl
  layer (e.RowColumn row column) = refl
  layer (e.Rows v) = refl
  layer (e.First v column) = refl
  layer (e.Negate x) = refl
  layer (e.Calculate op x y) = refl
  layer (e.Compare op x y) = refl
  layer (e.IsNull x negated) = refl
  layer (e.Between x low high negated) = refl
  layer (e.In x items negated) = refl
  layer (e.Not x) = refl
  layer (e.And x y) = refl
  layer (e.Or x y) = refl

  pub same_sort : (x : Expr) → (read part names x).sort ≡ sort_of names x
  same_sort = ind-Expr IsSame (λ x y is. subst (λ z. IsSame (roll-Expr z)) is
      (ap (λ (r : Read). r.sort) (fold-roll-Expr Read (read_step part names) (map-Expr Known Expr (λ x. x.0) y)) ∙ layer y
      ∙ sym (ap (λ (m : Meaning). m.sort) (fold-roll-Expr Meaning (meaning_step names) (map-Expr Known Expr (λ x. x.0) y)))))

  pub same_sorts : (xs : List Expr) → map (λ (r : Read). r.sort) (map (read part names) xs) ≡ map (λ (m : Meaning). m.sort) (map (meaning_of names) xs)
  same_sorts [] = refl
  same_sorts (x ∷ xs) = λ i. same_sort x i ∷ same_sorts xs i
