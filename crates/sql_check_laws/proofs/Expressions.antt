-- What expressions stand for has the class that was wanted, where no fault was found.
use Rattle.std.proofs.Common.{◌≡◌, ℕ, Bool, true, false, ◌&&◌, List, [], ◌∷◌, ◌++◌, map, slice_get, Option, Some, None, is_some, refl, sym, subst, ap, ◌∙◌}
use Rattle.std.specs.List.{list_all}
use Rattle.std.proofs.lemmas.List.{map-append}
use Rattle.std.proofs.lemmas.Bool.{cond_both, and_parts, and_from, or_left, or_right}
use Rattle.volt_value.specs.declared.value.Value.TheVariants as v
use Rattle.volt_value.specs.declared.column.Class.{Class}
use Rattle.volt_value.specs.declared.column.Class.TheVariants as class
use Rattle.expr_parse.specs.declared.expression.Arithmetic.{Arithmetic}
use Rattle.expr_parse.specs.declared.expression.Comparison.{Comparison}
use Rattle.expr_parse.specs.declared.expression.Expr.{Expr, roll-Expr, map-Expr}
use Rattle.expr_parse.specs.declared.expression.Expr.TheOpen.{Expr-F as e}
use Rattle.expr_parse.specs.declared.expression.Expr.TheFolds.{fold-roll-Expr, ind-Expr}
use Rattle.sql_plan.specs.declared.expression.Scalar.{Scalar}
use Rattle.sql_plan.specs.declared.expression.Scalar.TheVariants as s
use Rattle.sql_plan.specs.declared.expression.Cond.{Cond}
use Rattle.sql_plan.specs.declared.expression.Cond.TheVariants as c
use Rattle.sql_resolve.specs.declared.bound.Given.{Given}
use Rattle.sql_resolve.specs.declared.fault.CheckFault.TheVariants.{NoSuchName, TypeMismatch}
use Rattle.sql_resolve.specs.declared.names.FoundColumn.{FoundColumn}
use Rattle.sql_resolve.specs.declared.notes.Notes.{Notes}
use Rattle.sql_resolve.specs.declared.resolved.Resolved.{Resolved}
use Rattle.sql_resolve.specs.declared.resolved.Resolved.TheVariants as r
use Rattle.sql_resolve.specs.Named.{Tables}
use Rattle.sql_resolve.specs.Names.{column_of, variable_in, row_column_in, rows_in, first_in}
use Rattle.sql_resolve.specs.Notes.{fitted}
use Rattle.sql_resolve.specs.Expressions.{own_class, common, with, as_scalar, as_cond, Meaning, scalar_in, cond_in, noted_alone, alone_in, scalars_in, column_found, group_alike, chained, conjoined, disjoined, negated_if, comparing, between, contained, as_param, taken, question, given, meaning_step, meaning_of}
use Rattle.sql_meaning.specs.WellFormed.{is_class, gives, are_comparable, fits}
use Rattle.sql_meaning.proofs.Classes.{gives_Literal, gives_Column, gives_Param, gives_Negate, gives_Chain, fits_Unknown, fits_Compare, fits_IsNull, fits_Between, fits_In, fits_Not, fits_And, fits_Or}
use Rattle.sql_check_laws.specs.Numbers.{has_bigints_step, has_bigints}
use Rattle.sql_check_laws.proofs.Columns.{FindsColumns}
use Rattle.sql_check_laws.proofs.Fine.{Finds, found_then, blamed_not, fitted_is, alone_is, HasParam, question_is, taken_is}

pub is_class-same : (class : Class) → is_class class (Some class) ≡ true
is_class-same class.Int = refl
is_class-same class.Text = refl

pub list_all-append : {A : Type 0} (p : A → Bool) (xs : List A) (y : A) → list_all p xs ≡ true → p y ≡ true → list_all p (xs ++ y ∷ []) ≡ true
list_all-append p [] y h k = and_from (p y) true k refl
list_all-append p (x ∷ xs) y h k = let parts = and_parts (p x) (list_all p xs) h in and_from (p x) (list_all p (xs ++ y ∷ [])) parts.0 (list_all-append p xs y parts.1 k)

module _ (columns params : List Class) where
  abbrev pub Gives : Class → Scalar → Type 0
  Gives wanted x = gives columns params x wanted ≡ true

  abbrev pub Fits : Cond → Type 0
  Fits x = fits columns params x ≡ true

  -- what an expression stands for, where a value of a class is wanted
  abbrev Stands : Class → Resolved → Type 0
  Stands wanted r.Null = Unit {0}
  Stands wanted (r.Value x) = Gives wanted x
  Stands wanted (r.Chain first rest) = Gives wanted (s.Chain first rest)
  Stands wanted (r.Truth x) = Fits x
  Stands wanted (r.And xs) = Fits (c.And xs)
  Stands wanted (r.Or xs) = Fits (c.Or xs)

  abbrev pub IsRight : Meaning → Type 0
  IsRight m = (wanted : Class) (notes : Notes) → Finds params (Stands wanted) notes (m.resolve wanted notes)

  -- ---- one value, one condition

  null_gives : (wanted : Class) → Gives wanted (s.Literal v.Null)
  null_gives wanted = gives_Literal columns params wanted v.Null

  as_scalar_is : (wanted : Class) (found : Resolved) (notes : Notes) → Finds params (λ x. Stands wanted found → Gives wanted x) notes (as_scalar found notes)
  as_scalar_is wanted r.Null notes fine = (fine, λ h. null_gives wanted)
  as_scalar_is wanted (r.Value x) notes fine = (fine, λ h. h)
  as_scalar_is wanted (r.Chain first rest) notes fine = (fine, λ h. h)
  as_scalar_is wanted (r.Truth x) notes fine = absurd (blamed_not params TypeMismatch notes fine)
  as_scalar_is wanted (r.And xs) notes fine = absurd (blamed_not params TypeMismatch notes fine)
  as_scalar_is wanted (r.Or xs) notes fine = absurd (blamed_not params TypeMismatch notes fine)

  as_cond_is : (wanted : Class) (found : Resolved) (notes : Notes) → Finds params (λ x. Stands wanted found → Fits x) notes (as_cond found notes)
  as_cond_is wanted r.Null notes fine = (fine, λ h. fits_Unknown columns params)
  as_cond_is wanted (r.Truth x) notes fine = (fine, λ h. h)
  as_cond_is wanted (r.And xs) notes fine = (fine, λ h. h)
  as_cond_is wanted (r.Or xs) notes fine = (fine, λ h. h)
  as_cond_is wanted (r.Value x) notes fine = absurd (blamed_not params TypeMismatch notes fine)
  as_cond_is wanted (r.Chain first rest) notes fine = absurd (blamed_not params TypeMismatch notes fine)

  pub scalar_in_is : (m : Meaning) → IsRight m → (wanted : Class) (notes : Notes) → Finds params (Gives wanted) notes (scalar_in m wanted notes)
  scalar_in_is m h wanted notes = found_then params (Stands wanted) (Gives wanted) notes (m.resolve wanted notes) as_scalar (h wanted notes) (as_scalar_is wanted)

  pub cond_in_is : (m : Meaning) → IsRight m → (notes : Notes) → Finds params Fits notes (cond_in m notes)
  cond_in_is m h notes = found_then params (Stands class.Int) Fits notes (m.resolve class.Int notes) as_cond (h class.Int notes) (as_cond_is class.Int)

  pub alone_in_is : (m : Meaning) → IsRight m → (notes : Notes) → Finds params (Gives (own_class m.sort)) notes (alone_in m notes)
  alone_in_is m h notes fine =
      let found = scalar_in_is m h (own_class m.sort) (noted_alone m.sort notes) fine in
      (alone_is params m.sort notes found.0, found.1)

  abbrev GiveAll : Class → List Scalar → Type 0
  GiveAll wanted xs = list_all (λ x. gives columns params x wanted) xs ≡ true

  -- ---- comparisons

  -- values of one class are comparable
  pub comparable : (class : Class) (xs : List Scalar) → GiveAll class xs → are_comparable columns params xs ≡ true
  comparable class.Int xs h = or_left (list_all (λ x. gives columns params x class.Int) xs) (list_all (λ x. gives columns params x class.Text) xs) h
  comparable class.Text xs h = or_right (list_all (λ x. gives columns params x class.Int) xs) (list_all (λ x. gives columns params x class.Text) xs) h

  give_more : (class : Class) (x : Scalar) (xs : List Scalar) → Gives class x → GiveAll class xs → GiveAll class (x ∷ xs)
  give_more class x xs h k = and_from (gives columns params x class) (list_all (λ x. gives columns params x class) xs) h k

  pub comparable_one : (class : Class) (x : Scalar) → Gives class x → are_comparable columns params (x ∷ []) ≡ true
  comparable_one class x h = comparable class (x ∷ []) (give_more class x [] h refl)

  negated_fits : (negated : Bool) (x : Cond) → Fits x → Fits (negated_if negated x)
  negated_fits true x h = fits_Not columns params x ∙ h
  negated_fits false x h = h

  comparing_is : (op : Comparison) (a b : Meaning) → IsRight a → IsRight b → (wanted : Class) (notes : Notes) → Finds params (Stands wanted) notes (comparing op a b notes)
  comparing_is op a b h k wanted notes fine =
      let class = common (a.sort ∷ b.sort ∷ []) in
      let left = scalar_in a class notes in
      let y = scalar_in_is b k class left.0 fine in
      let x = scalar_in_is a h class notes y.0 in (
        x.0,
        fits_Compare columns params op left.1 (scalar_in b class left.0).1
            ∙ comparable class (left.1 ∷ (scalar_in b class left.0).1 ∷ []) (give_more class left.1 ((scalar_in b class left.0).1 ∷ []) x.1 (give_more class (scalar_in b class left.0).1 [] y.1 refl)),
      )

  between_is : (a low high : Meaning) (negated : Bool) → IsRight a → IsRight low → IsRight high → (wanted : Class) (notes : Notes) → Finds params (Stands wanted) notes (between a low high negated notes)
  between_is a low high negated h k l wanted notes fine =
      let class = common (a.sort ∷ low.sort ∷ high.sort ∷ []) in
      let first = scalar_in a class notes in
      let second = scalar_in low class first.0 in
      let third = scalar_in high class second.0 in
      let z = scalar_in_is high l class second.0 fine in
      let y = scalar_in_is low k class first.0 z.0 in
      let x = scalar_in_is a h class notes y.0 in (
        x.0,
        negated_fits negated (c.Between first.1 second.1 third.1) (fits_Between columns params first.1 second.1 third.1
            ∙ comparable class (first.1 ∷ second.1 ∷ third.1 ∷ []) (give_more class first.1 (second.1 ∷ third.1 ∷ []) x.1 (give_more class second.1 (third.1 ∷ []) y.1 (give_more class third.1 [] z.1 refl)))),
      )

  abbrev AreRight : List Meaning → Type 0
  AreRight [] = Unit {0}
  AreRight (m ∷ ms) = IsRight m × AreRight ms

  scalars_in_is : (ms : List Meaning) → AreRight ms → (class : Class) (notes : Notes) → Finds params (GiveAll class) notes (scalars_in ms class notes)
  scalars_in_is [] h class notes fine = (fine, refl)
  scalars_in_is (m ∷ ms) h class notes fine =
      let first = scalar_in m class notes in
      let later = scalars_in_is ms h.1 class first.0 fine in
      let x = scalar_in_is m h.0 class notes later.0 in
      (x.0, give_more class first.1 (scalars_in ms class first.0).1 x.1 later.1)

  contained_is : (m : Meaning) (ms : List Meaning) (negated : Bool) → IsRight m → AreRight ms → (wanted : Class) (notes : Notes) → Finds params (Stands wanted) notes (contained m ms negated notes)
  contained_is m ms negated h k wanted notes fine =
      let class = common (m.sort ∷ map (λ item. item.sort) ms) in
      let first = scalar_in m class notes in
      let items = scalars_in_is ms k class first.0 fine in
      let x = scalar_in_is m h class notes items.0 in (
        x.0,
        negated_fits negated (c.In first.1 (scalars_in ms class first.0).1) (fits_In columns params first.1 (scalars_in ms class first.0).1
            ∙ comparable class (first.1 ∷ (scalars_in ms class first.0).1) (give_more class first.1 (scalars_in ms class first.0).1 x.1 items.1)),
      )

  null_test_is : (m : Meaning) (negated : Bool) → IsRight m → (wanted : Class) (notes : Notes)
      → Finds params (Stands wanted) notes (with (alone_in m notes) (λ x notes. (notes, r.Truth (negated_if negated (c.IsNull x)))))
  null_test_is m negated h wanted notes fine =
      let x = alone_in_is m h notes fine in
      (x.0, negated_fits negated (c.IsNull (alone_in m notes).1) (fits_IsNull columns params (alone_in m notes).1 ∙ comparable_one (own_class m.sort) (alone_in m notes).1 x.1))

  -- ---- arithmetic

  abbrev right_sides : List (Arithmetic × Scalar) → List (Arithmetic × (Class → Bool))
  right_sides rest = map (λ (x : Arithmetic × Scalar). (x.0, gives columns params x.1)) rest

  abbrev are_integers : List (Arithmetic × Scalar) → Bool
  are_integers rest = list_all (λ (next : Arithmetic × (Class → Bool)). next.1 class.Int) (right_sides rest)

  chain_gives : (first : Scalar) (rest : List (Arithmetic × Scalar)) → Gives class.Int first → are_integers rest ≡ true → Gives class.Int (s.Chain first rest)
  chain_gives first rest h k = gives_Chain columns params class.Int first rest ∙ and_from (gives columns params first class.Int) (are_integers rest) h k

  chain_parts : (first : Scalar) (rest : List (Arithmetic × Scalar)) → Gives class.Int (s.Chain first rest) → Gives class.Int first × (are_integers rest ≡ true)
  chain_parts first rest h = and_parts (gives columns params first class.Int) (are_integers rest) (sym (gives_Chain columns params class.Int first rest) ∙ h)

  one_more : (op : Arithmetic) (first right : Scalar) (rest : List (Arithmetic × Scalar)) → Gives class.Int (s.Chain first rest) → Gives class.Int right → Gives class.Int (s.Chain first (rest ++ (op, right) ∷ []))
  one_more op first right rest h k =
      let parts = chain_parts first rest h in
      chain_gives first (rest ++ (op, right) ∷ []) parts.0 (subst (λ sides. list_all (λ (next : Arithmetic × (Class → Bool)). next.1 class.Int) sides ≡ true)
      (sym (map-append (λ (x : Arithmetic × Scalar). (x.0, gives columns params x.1)) rest ((op, right) ∷ [])))
      (list_all-append (λ (next : Arithmetic × (Class → Bool)). next.1 class.Int) (right_sides rest) (op, gives columns params right) parts.1 k))

  new_chain : (op : Arithmetic) (first right : Scalar) → Gives class.Int first → Gives class.Int right → Gives class.Int (s.Chain first ((op, right) ∷ []))
  new_chain op first right h k = chain_gives first ((op, right) ∷ []) h (and_from (gives columns params right class.Int) true k refl)

  first_chain : (op : Arithmetic) (left : Resolved) (right : Scalar) (notes : Notes)
      → Finds params (λ found. Stands class.Int left → Gives class.Int right → Stands class.Int found) notes (with (as_scalar left notes) (λ x notes. (notes, r.Chain x ((op, right) ∷ []))))
  first_chain op left right notes fine =
      let x = as_scalar_is class.Int left notes fine in
      (x.0, λ h k. new_chain op (as_scalar left notes).1 right (x.1 h) k)

  chained_is : (op : Arithmetic) (left : Resolved) (right : Scalar) (notes : Notes) → Finds params (λ found. Stands class.Int left → Gives class.Int right → Stands class.Int found) notes (chained op left right notes)
  chained_is op (r.Chain first rest) right notes fine = (
    fine,
    λ h k. cond_both (group_alike op rest) (r.Chain first (rest ++ (op, right) ∷ [])) (r.Chain (s.Chain first rest) ((op, right) ∷ [])) (Stands class.Int)
        (λ same. one_more op first right rest h k) (λ other. new_chain op (s.Chain first rest) right h k),
  )
  chained_is op r.Null right notes fine = first_chain op r.Null right notes fine
  chained_is op (r.Value x) right notes fine = first_chain op (r.Value x) right notes fine
  chained_is op (r.Truth x) right notes fine = first_chain op (r.Truth x) right notes fine
  chained_is op (r.And xs) right notes fine = first_chain op (r.And xs) right notes fine
  chained_is op (r.Or xs) right notes fine = first_chain op (r.Or xs) right notes fine

  to_integer : (wanted : Class) (x : Resolved) → class.Int ≡ wanted → Stands class.Int x → Stands wanted x
  to_integer wanted x same h = subst (λ class. Stands class x) same h

  calculating_is : (op : Arithmetic) (a b : Meaning) → IsRight a → IsRight b → (wanted : Class) (notes : Notes)
      → Finds params (Stands wanted) notes (with (a.resolve class.Int (fitted class.Int wanted notes)) (λ left notes. with (scalar_in b class.Int notes) (chained op left)))
  calculating_is op a b h k wanted notes fine =
      let before = fitted class.Int wanted notes in
      let left = a.resolve class.Int before in
      let right = scalar_in b class.Int left.0 in
      let found = chained_is op left.1 right.1 right.0 fine in
      let y = scalar_in_is b k class.Int left.0 found.0 in
      let x = h class.Int before y.0 in
      let fits = fitted_is params class.Int wanted notes x.0 in
      (fits.0, to_integer wanted (chained op left.1 right.1 right.0).1 fits.1 (found.1 x.1 y.1))

  negating_is : (m : Meaning) → IsRight m → (wanted : Class) (notes : Notes)
      → Finds params (Stands wanted) notes (with (scalar_in m class.Int (fitted class.Int wanted notes)) (λ x notes. (notes, r.Value (s.Negate x))))
  negating_is m h wanted notes fine =
      let before = fitted class.Int wanted notes in
      let x = scalar_in_is m h class.Int before fine in
      let fits = fitted_is params class.Int wanted notes x.0 in
      (fits.0, to_integer wanted (r.Value (s.Negate (scalar_in m class.Int before).1)) fits.1 (gives_Negate columns params class.Int (scalar_in m class.Int before).1 ∙ x.1))

  -- ---- AND and OR

  abbrev all_fit : List Cond → Bool
  all_fit xs = list_all (λ fits. fits) (map (fits columns params) xs)

  all_fit-more : (xs : List Cond) (y : Cond) → all_fit xs ≡ true → Fits y → all_fit (xs ++ y ∷ []) ≡ true
  all_fit-more xs y h k = subst (λ fs. list_all (λ fits. fits) fs ≡ true) (sym (map-append (fits columns params) xs (y ∷ []))) (list_all-append (λ fits. fits) (map (fits columns params) xs) (fits columns params y) h k)

  both_fit : (x y : Cond) → Fits x → Fits y → all_fit (x ∷ y ∷ []) ≡ true
  both_fit x y h k = and_from (fits columns params x) (all_fit (y ∷ [])) h (and_from (fits columns params y) true k refl)

  first_and : (wanted : Class) (left : Resolved) (right : Cond) (notes : Notes)
      → Finds params (λ found. Stands class.Int left → Fits right → Stands wanted found) notes (with (as_cond left notes) (λ x notes. (notes, r.And (x ∷ right ∷ []))))
  first_and wanted left right notes fine =
      let x = as_cond_is class.Int left notes fine in
      (x.0, λ h k. fits_And columns params ((as_cond left notes).1 ∷ right ∷ []) ∙ both_fit (as_cond left notes).1 right (x.1 h) k)

  conjoined_is : (wanted : Class) (left : Resolved) (right : Cond) (notes : Notes) → Finds params (λ found. Stands class.Int left → Fits right → Stands wanted found) notes (conjoined left right notes)
  conjoined_is wanted (r.And xs) right notes fine = (fine, λ h k. fits_And columns params (xs ++ right ∷ []) ∙ all_fit-more xs right (sym (fits_And columns params xs) ∙ h) k)
  conjoined_is wanted r.Null right notes fine = first_and wanted r.Null right notes fine
  conjoined_is wanted (r.Value x) right notes fine = first_and wanted (r.Value x) right notes fine
  conjoined_is wanted (r.Chain first rest) right notes fine = first_and wanted (r.Chain first rest) right notes fine
  conjoined_is wanted (r.Truth x) right notes fine = first_and wanted (r.Truth x) right notes fine
  conjoined_is wanted (r.Or xs) right notes fine = first_and wanted (r.Or xs) right notes fine

  first_or : (wanted : Class) (left : Resolved) (right : Cond) (notes : Notes)
      → Finds params (λ found. Stands class.Int left → Fits right → Stands wanted found) notes (with (as_cond left notes) (λ x notes. (notes, r.Or (x ∷ right ∷ []))))
  first_or wanted left right notes fine =
      let x = as_cond_is class.Int left notes fine in
      (x.0, λ h k. fits_Or columns params ((as_cond left notes).1 ∷ right ∷ []) ∙ both_fit (as_cond left notes).1 right (x.1 h) k)

  disjoined_is : (wanted : Class) (left : Resolved) (right : Cond) (notes : Notes) → Finds params (λ found. Stands class.Int left → Fits right → Stands wanted found) notes (disjoined left right notes)
  disjoined_is wanted (r.Or xs) right notes fine = (fine, λ h k. fits_Or columns params (xs ++ right ∷ []) ∙ all_fit-more xs right (sym (fits_Or columns params xs) ∙ h) k)
  disjoined_is wanted r.Null right notes fine = first_or wanted r.Null right notes fine
  disjoined_is wanted (r.Value x) right notes fine = first_or wanted (r.Value x) right notes fine
  disjoined_is wanted (r.Chain first rest) right notes fine = first_or wanted (r.Chain first rest) right notes fine
  disjoined_is wanted (r.Truth x) right notes fine = first_or wanted (r.Truth x) right notes fine
  disjoined_is wanted (r.And xs) right notes fine = first_or wanted (r.And xs) right notes fine

  joining_is : (a b : Meaning) (join : Resolved → Cond → Notes → Notes × Resolved) → IsRight a → IsRight b → (wanted : Class)
      → ((left : Resolved) (right : Cond) (notes : Notes) → Finds params (λ found. Stands class.Int left → Fits right → Stands wanted found) notes (join left right notes))
      → (notes : Notes) → Finds params (Stands wanted) notes (with (a.resolve class.Int notes) (λ left notes. with (cond_in b notes) (join left)))
  joining_is a b join h k wanted joins notes fine =
      let left = a.resolve class.Int notes in
      let right = cond_in b left.0 in
      let found = joins left.1 right.1 right.0 fine in
      let y = cond_in_is b k left.0 found.0 in
      let x = h class.Int notes y.0 in
      (x.0, found.1 x.1 y.1)

  -- ---- operands

  column_found_is : (o : Option FoundColumn) → ((column : FoundColumn) → o ≡ Some column → slice_get columns column.number ≡ Some column.class)
      → (wanted : Class) (notes : Notes) → Finds params (Stands wanted) notes (column_found o wanted notes)
  column_found_is None at wanted notes fine = absurd (blamed_not params NoSuchName notes fine)
  column_found_is (Some column) at wanted notes fine =
      let fits = fitted_is params column.class wanted notes fine in
      (fits.0, gives_Column columns params wanted column.number ∙ ap (is_class wanted) (at column refl ∙ ap Some fits.1) ∙ is_class-same wanted)

  as_param_is : (wanted : Class) (n : Option ℕ) (notes : Notes) → Finds params (λ found. HasParam params wanted n → Stands wanted found) notes (as_param n notes)
  as_param_is wanted None notes fine = (fine, λ h. tt)
  as_param_is wanted (Some n) notes fine = (fine, λ h. gives_Param columns params wanted n ∙ ap (is_class wanted) h ∙ is_class-same wanted)

  given_is : (x : Given) → IsRight (given x)
  given_is x wanted notes = found_then params (HasParam params wanted) (Stands wanted) notes (taken x wanted notes) as_param (taken_is params x wanted notes) (as_param_is wanted)

  -- ---- any expression

  module _ (names : Tables) (at : FindsColumns columns names) where
    abbrev HasRight : Expr → Type 0
    HasRight x = has_bigints x ≡ true → IsRight (meaning_of names x)

    abbrev Told : Type 0
    Told = (x : Expr) × HasRight x

    abbrev meant : e Told → e Meaning
    meant y = map-Expr Expr Meaning (meaning_of names) (map-Expr Told Expr (λ x. x.0) y)

    abbrev counted : e Told → e Bool
    counted y = map-Expr Expr Bool has_bigints (map-Expr Told Expr (λ x. x.0) y)

    items_are : (items : List Told) → list_all (λ item. item) (map has_bigints (map (λ (x : Told). x.0) items)) ≡ true → AreRight (map (meaning_of names) (map (λ (x : Told). x.0) items))
    items_are [] h = tt
    items_are (x ∷ items) h =
        let parts = and_parts (has_bigints x.0) (list_all (λ item. item) (map has_bigints (map (λ (x : Told). x.0) items))) h in
        (x.1 parts.0, items_are items parts.1)

    layer : (y : e Told) → has_bigints_step (counted y) ≡ true → IsRight (meaning_step names (meant y))
    layer (e.Number z) h wanted notes fine =
        let fits = fitted_is params class.Int wanted notes fine in
        (fits.0, to_integer wanted (r.Value (s.Literal (v.Int z))) fits.1 (gives_Literal columns params class.Int (v.Int z) ∙ h))
    layer (e.Text t) h wanted notes fine =
        let fits = fitted_is params class.Text wanted notes fine in
        (fits.0, subst (λ class. Gives class (s.Literal (v.Text t))) fits.1 (gives_Literal columns params class.Text (v.Text t)))
    layer e.Null h wanted notes fine = (fine, tt)
    layer e.Parameter h wanted notes fine =
        found_then params (HasParam params wanted) (Stands wanted) notes (question (is_some names.program) wanted notes) as_param (question_is params (is_some names.program) wanted notes) (as_param_is wanted) fine
    layer (e.Column name) h wanted notes fine = column_found_is (column_of names name) (at name) wanted notes fine
    layer (e.Parenthesized x) h wanted notes fine = x.1 h wanted notes fine
    layer (e.Variable v) h wanted notes fine = given_is (variable_in names.program v) wanted notes fine
    layer (e.RowColumn row column) h wanted notes fine = given_is (row_column_in names.program row column) wanted notes fine
    layer (e.Rows name) h wanted notes fine = given_is (rows_in names.program name) wanted notes fine
    layer (e.First name column) h wanted notes fine = given_is (first_in names.program name column) wanted notes fine
    layer (e.Negate x) h wanted notes fine = negating_is (meaning_of names x.0) (x.1 h) wanted notes fine
    layer (e.Calculate op x y) h wanted notes fine =
        let parts = and_parts (has_bigints x.0) (has_bigints y.0) h in
        calculating_is op (meaning_of names x.0) (meaning_of names y.0) (x.1 parts.0) (y.1 parts.1) wanted notes fine
    layer (e.Compare op x y) h wanted notes fine =
        let parts = and_parts (has_bigints x.0) (has_bigints y.0) h in
        comparing_is op (meaning_of names x.0) (meaning_of names y.0) (x.1 parts.0) (y.1 parts.1) wanted notes fine
    layer (e.IsNull x negated) h wanted notes fine = null_test_is (meaning_of names x.0) negated (x.1 h) wanted notes fine
    layer (e.Between x low high negated) h wanted notes fine =
        let parts = and_parts (has_bigints x.0 && has_bigints low.0) (has_bigints high.0) h in
        let first = and_parts (has_bigints x.0) (has_bigints low.0) parts.0 in
        between_is (meaning_of names x.0) (meaning_of names low.0) (meaning_of names high.0) negated (x.1 first.0) (low.1 first.1) (high.1 parts.1) wanted notes fine
    layer (e.In x items negated) h wanted notes fine =
        let parts = and_parts (has_bigints x.0) (list_all (λ item. item) (map has_bigints (map (λ (x : Told). x.0) items))) h in
        contained_is (meaning_of names x.0) (map (meaning_of names) (map (λ (x : Told). x.0) items)) negated (x.1 parts.0) (items_are items parts.1) wanted notes fine
    layer (e.Not x) h wanted notes fine =
        let found = cond_in_is (meaning_of names x.0) (x.1 h) notes fine in
        (found.0, negated_fits true (cond_in (meaning_of names x.0) notes).1 found.1)
    layer (e.And x y) h wanted notes fine =
        let parts = and_parts (has_bigints x.0) (has_bigints y.0) h in
        joining_is (meaning_of names x.0) (meaning_of names y.0) conjoined (x.1 parts.0) (y.1 parts.1) wanted (conjoined_is wanted) notes fine
    layer (e.Or x y) h wanted notes fine =
        let parts = and_parts (has_bigints x.0) (has_bigints y.0) h in
        joining_is (meaning_of names x.0) (meaning_of names y.0) disjoined (x.1 parts.0) (y.1 parts.1) wanted (disjoined_is wanted) notes fine

    has_bigints_roll : (x : e Expr) → has_bigints (roll-Expr x) ≡ has_bigints_step (map-Expr Expr Bool has_bigints x)
    has_bigints_roll x = fold-roll-Expr Bool has_bigints_step x

    meaning_roll : (x : e Expr) → meaning_of names (roll-Expr x) ≡ meaning_step names (map-Expr Expr Meaning (meaning_of names) x)
    meaning_roll x = fold-roll-Expr Meaning (meaning_step names) x

    pub expression_is : (x : Expr) → has_bigints x ≡ true → IsRight (meaning_of names x)
    expression_is = ind-Expr HasRight (λ x y is. subst (λ z. HasRight (roll-Expr z)) is
        (λ h. subst IsRight (sym (meaning_roll (map-Expr Told Expr (λ x. x.0) y))) (layer y (sym (has_bigints_roll (map-Expr Told Expr (λ x. x.0) y)) ∙ h))))
