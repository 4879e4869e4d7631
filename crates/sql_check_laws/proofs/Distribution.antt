-- What checking tells of the conjuncts of a join is what the meaning of SQL asks of them.
use Rattle.std.proofs.Common.{◌≡◌, ℕ, Bool, true, false, ◌&&◌, ◌||◌, List, [], ◌∷◌, ◌++◌, map, flat_map, refl, sym, subst, ap, ◌∙◌}
use Rattle.std.specs.List.{list_all}
use Rattle.expr_parse.specs.declared.expression.Comparison.{Comparison}
use Rattle.expr_parse.specs.declared.expression.Comparison.TheVariants as compare
use Rattle.sql_plan.specs.declared.expression.Scalar.{Scalar, fold-Scalar}
use Rattle.sql_plan.specs.declared.expression.Scalar.TheOpen.{Scalar-F as s}
use Rattle.sql_plan.specs.declared.expression.Cond.{Cond, roll-Cond, map-Cond}
use Rattle.sql_plan.specs.declared.expression.Cond.TheOpen.{Cond-F as c}
use Rattle.sql_plan.specs.declared.expression.Cond.TheFolds.{fold-roll-Cond, ind-Cond}
use Rattle.sql_check.specs.declared.distribution.Told.{Told}
use Rattle.sql_check.specs.declared.distribution.Told.TheVariants.{Yes, No, NotYet}
use Rattle.sql_check.specs.Distribution as check
use Rattle.sql_check.specs.Distribution.{Part, told, conjunct, part_step, part_of, is_yes, all_tell}
use Rattle.sql_meaning.specs.WellFormed as formed
use Rattle.sql_meaning.specs.WellFormed.{Conjunct, other_conjunct, conjuncts_step, conjuncts_of}

-- ---- both say the same of single expressions

plain_step : (x : s Bool) → check.is_plain_step x ≡ formed.is_plain_step x
plain_step (s.Literal x) = refl
plain_step (s.Column n) = refl
plain_step (s.Param n) = refl
plain_step (s.Negate x) = refl
plain_step (s.Chain first rest) = refl

plain : (e : Scalar) → check.is_plain e ≡ formed.is_plain e
plain e = λ i. fold-Scalar Bool (λ x. plain_step x i) e

column_step : (n : ℕ) (x : s Bool) → check.is_column_step n x ≡ formed.is_column_step n x
column_step n (s.Literal x) = refl
column_step n (s.Column m) = refl
column_step n (s.Param m) = refl
column_step n (s.Negate x) = refl
column_step n (s.Chain first rest) = refl

column : (n : ℕ) (e : Scalar) → check.is_column n e ≡ formed.is_column n e
column n e = λ i. fold-Scalar Bool (λ x. column_step n x i) e

equality : (op : Comparison) → check.is_equality op ≡ formed.is_equality op
equality compare.Equal = refl
equality compare.NotEqual = refl
equality compare.Less = refl
equality compare.LessOrEqual = refl
equality compare.Greater = refl
equality compare.GreaterOrEqual = refl

equates : (left right : ℕ) (op : Comparison) (a b : Scalar) → check.equates left right op a b ≡ formed.equates left right op a b
equates left right op a b = λ i. equality op i && ((column left a i && column right b i) || (column right a i && column left b i))

all_items : (items : List Scalar) → list_all check.is_plain items ≡ list_all formed.is_plain items
all_items items = λ i. list_all (λ e. plain e i) items

-- ---- conjuncts one after another

abbrev run : List Conjunct → Told → Told
run [] so_far = so_far
run (first ∷ rest) so_far = run rest (told first.equates first.plain so_far)

run-append : (xs ys : List Conjunct) (so_far : Told) → run (xs ++ ys) so_far ≡ run ys (run xs so_far)
run-append [] ys so_far = refl
run-append (x ∷ xs) ys so_far = run-append xs ys (told x.equates x.plain so_far)

run-yes : (xs : List Conjunct) → run xs Yes ≡ Yes
run-yes [] = refl
run-yes (x ∷ xs) = run-yes xs

run-no : (xs : List Conjunct) → run xs No ≡ No
run-no [] = refl
run-no (x ∷ xs) = run-no xs

run-first : (equal plain : Bool) (xs : List Conjunct) → is_yes (run xs NotYet) ≡ formed.tell_parts xs → is_yes (run xs (told equal plain NotYet)) ≡ (equal || (plain && formed.tell_parts xs))
run-first true plain xs h = ap is_yes (run-yes xs)
run-first false true xs h = h
run-first false false xs h = ap is_yes (run-no xs)

run-tells : (xs : List Conjunct) → is_yes (run xs NotYet) ≡ formed.tell_parts xs
run-tells [] = refl
run-tells (x ∷ xs) = run-first x.equates x.plain xs (run-tells xs)

and-true : (b : Bool) → b ≡ (b && true)
and-true true = refl
and-true false = refl

and-assoc : (a b d : Bool) → (a && (b && d)) ≡ ((a && b) && d)
and-assoc true b d = refl
and-assoc false b d = refl

all_plain-append : (xs ys : List Conjunct) → formed.all_plain (xs ++ ys) ≡ (formed.all_plain xs && formed.all_plain ys)
all_plain-append [] ys = refl
all_plain-append (x ∷ xs) ys = ap (λ b. x.plain && b) (all_plain-append xs ys) ∙ and-assoc x.plain (formed.all_plain xs) (formed.all_plain ys)

-- ---- a condition

module _ (left right : ℕ) where
  record Same (e : Cond) : Type 0 where
    pub plain : (part_of left right e).plain ≡ formed.all_plain (conjuncts_of left right e)
    pub tells : (so_far : Told) → (part_of left right e).tells so_far ≡ run (conjuncts_of left right e) so_far

  abbrev Known : Type 0
  Known = (e : Cond) × Same e

  abbrev conds : List Known → List Cond
  conds xs = map (λ (x : Known). x.0) xs

  abbrev parts : c Known → c Part
  parts y = map-Cond Cond Part (part_of left right) (map-Cond Known Cond (λ e. e.0) y)

  abbrev listed : c Known → c (List Conjunct)
  listed y = map-Cond Cond (List Conjunct) (conjuncts_of left right) (map-Cond Known Cond (λ e. e.0) y)

  all_plain_are : (xs : List Known) → check.all_plain (map (part_of left right) (conds xs)) ≡ formed.all_plain (flat_map (λ cs. cs) (map (conjuncts_of left right) (conds xs)))
  all_plain_are [] = refl
  all_plain_are (x ∷ xs) =
      (λ i. x.1.plain i && all_plain_are xs i)
      ∙ sym (all_plain-append (conjuncts_of left right x.0) (flat_map (λ cs. cs) (map (conjuncts_of left right) (conds xs))))

  each_plain_are : (xs : List Known) → check.all_plain (map (part_of left right) (conds xs)) ≡ list_all formed.all_plain (map (conjuncts_of left right) (conds xs))
  each_plain_are [] = refl
  each_plain_are (x ∷ xs) = λ i. x.1.plain i && each_plain_are xs i

  all_tell_are : (xs : List Known) (so_far : Told) → all_tell (map (part_of left right) (conds xs)) so_far ≡ run (flat_map (λ cs. cs) (map (conjuncts_of left right) (conds xs))) so_far
  all_tell_are [] so_far = refl
  all_tell_are (x ∷ xs) so_far =
      all_tell_are xs ((part_of left right x.0).tells so_far)
      ∙ ap (run (flat_map (λ cs. cs) (map (conjuncts_of left right) (conds xs)))) (x.1.tells so_far)
      ∙ sym (run-append (conjuncts_of left right x.0) (flat_map (λ cs. cs) (map (conjuncts_of left right) (conds xs))) so_far)

  layer_plain : (y : c Known) → (part_step left right (parts y)).plain ≡ formed.all_plain (conjuncts_step left right (listed y))
  layer_plain c.Unknown = refl
  layer_plain (c.Compare op a b) = (λ i. plain a i && plain b i) ∙ and-true (formed.is_plain a && formed.is_plain b)
  layer_plain (c.IsNull a) = plain a ∙ and-true (formed.is_plain a)
  layer_plain (c.Between a b d) = (λ i. plain a i && plain b i && plain d i) ∙ and-true (formed.is_plain a && formed.is_plain b && formed.is_plain d)
  layer_plain (c.In a items) = (λ i. plain a i && all_items items i) ∙ and-true (formed.is_plain a && list_all formed.is_plain items)
  layer_plain (c.Not x) = x.1.plain ∙ and-true (formed.all_plain (conjuncts_of left right x.0))
  layer_plain (c.And xs) = all_plain_are xs
  layer_plain (c.Or xs) = each_plain_are xs ∙ and-true (list_all formed.all_plain (map (conjuncts_of left right) (conds xs)))

  layer_tells : (y : c Known) (so_far : Told) → (part_step left right (parts y)).tells so_far ≡ run (conjuncts_step left right (listed y)) so_far
  layer_tells c.Unknown so_far = refl
  layer_tells (c.Compare op a b) so_far = λ i. told (equates left right op a b i) (plain a i && plain b i) so_far
  layer_tells (c.IsNull a) so_far = λ i. told false (plain a i) so_far
  layer_tells (c.Between a b d) so_far = λ i. told false (plain a i && plain b i && plain d i) so_far
  layer_tells (c.In a items) so_far = λ i. told false (plain a i && all_items items i) so_far
  layer_tells (c.Not x) so_far = λ i. told false (x.1.plain i) so_far
  layer_tells (c.And xs) so_far = all_tell_are xs so_far
  layer_tells (c.Or xs) so_far = λ i. told false (each_plain_are xs i) so_far

  part_roll : (x : c Cond) → part_of left right (roll-Cond x) ≡ part_step left right (map-Cond Cond Part (part_of left right) x)
  part_roll x = fold-roll-Cond Part (part_step left right) x

  conjuncts_roll : (x : c Cond) → conjuncts_of left right (roll-Cond x) ≡ conjuncts_step left right (map-Cond Cond (List Conjunct) (conjuncts_of left right) x)
  conjuncts_roll x = fold-roll-Cond (List Conjunct) (conjuncts_step left right) x

  same : (e : Cond) → Same e
  same = ind-Cond Same (λ x y is. subst (λ z. Same (roll-Cond z)) is (record {
    plain = ap (λ part. part.plain) (part_roll (map-Cond Known Cond (λ e. e.0) y)) ∙ layer_plain y ∙ ap formed.all_plain (sym (conjuncts_roll (map-Cond Known Cond (λ e. e.0) y)));
    tells = λ so_far. ap (λ part. part.tells so_far) (part_roll (map-Cond Known Cond (λ e. e.0) y)) ∙ layer_tells y so_far ∙ ap (λ cs. run cs so_far) (sym (conjuncts_roll (map-Cond Known Cond (λ e. e.0) y)));
  }))

  pub tell_alike : (on filter : Cond) → check.tell_parts left right on filter ≡ formed.tell_parts (conjuncts_of left right on ++ conjuncts_of left right filter)
  tell_alike on filter =
      ap is_yes ((same filter).tells ((part_of left right on).tells NotYet)
      ∙ ap (run (conjuncts_of left right filter)) ((same on).tells NotYet)
      ∙ sym (run-append (conjuncts_of left right on) (conjuncts_of left right filter) NotYet))
      ∙ run-tells (conjuncts_of left right on ++ conjuncts_of left right filter)
