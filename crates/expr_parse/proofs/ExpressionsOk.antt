-- In the grammar of expressions one token ahead decides, however deep it nests.
use Rattle.std.proofs.Common.{◌≡◌, ℕ, zero, suc, Bool, true, false, List, [], ◌∷◌, ◌++◌, refl}
use Rattle.sql_grammar.specs.declared.kind.Kind.{Kind}
use Rattle.sql_grammar.specs.declared.kind.Kind.TheVariants as k
use Rattle.sql_grammar.specs.Grammar.{G, never, null, first, cont, ok, is_in}
use Rattle.expr_parse.specs.declared.expression.Expr.{Expr}
use Rattle.expr_parse.specs.declared.levels.Level.{Level}
use Rattle.expr_parse.specs.declared.levels.Level.TheVariants.{Whole, Negation, Sum, Sign}
use Rattle.expr_parse.specs.Expressions.{column, literal, bound, rows, first_of_rows, named, parenthesized, atom, minus, signed, product, sum, null_test, between, sums, among, excluded, compared, contained, tested, predicate, inverted, negation, conjunction, disjunction, by_level, level, deeper, expr, inner_expr, after_sign, after_product, after_sum, after_negation, after_whole}

-- what may go on after a text of these levels, inside a longer one
abbrev pub after : Level → List Kind
after Whole = after_whole
after Negation = after_negation
after Sum = after_sum
after Sign = after_sign

-- with what an operand begins
abbrev pub operands : List Kind
operands = k.LeftParen ∷ k.Number ∷ k.Text ∷ k.Null ∷ k.Question ∷ k.Name ∷ k.Colon ∷ k.Rows ∷ k.First ∷ []

module _ (depth : ℕ) (inner : Level → G Expr) where
  atom-null : null (atom depth inner) ≡ false
  unfolding atom parenthesized literal named column rows first_of_rows
  atom-null = refl

  atom-first : first (atom depth inner) ≡ operands
  unfolding atom parenthesized literal named column rows first_of_rows
  atom-first = refl

  signed-null : null (signed depth inner) ≡ false
  unfolding signed minus
  signed-null = rw (atom-null) refl

  signed-first : first (signed depth inner) ≡ k.Minus ∷ operands
  unfolding signed minus
  signed-first = rw (atom-first) refl

  signed-cont : cont (signed depth inner) ≡ after_sign
  unfolding signed minus
  signed-cont = refl

  product-null : null (product depth inner) ≡ false
  unfolding product
  product-null = signed-null

  product-first : first (product depth inner) ≡ k.Minus ∷ operands
  unfolding product
  product-first = rw (signed-first, signed-null) refl

  product-cont : cont (product depth inner) ≡ after_product
  unfolding product
  product-cont = refl

  sum-null : null (sum depth inner) ≡ false
  unfolding sum
  sum-null = product-null

  sum-first : first (sum depth inner) ≡ k.Minus ∷ operands
  unfolding sum
  sum-first = rw (product-first, product-null) refl

  sum-cont : cont (sum depth inner) ≡ after_sum
  unfolding sum
  sum-cont = refl

  negation-null : null (negation depth inner) ≡ false
  unfolding negation inverted predicate
  negation-null = rw (sum-null) refl

  negation-first : first (negation depth inner) ≡ k.Not ∷ k.Minus ∷ operands
  unfolding negation inverted predicate
  negation-first = rw (sum-first, sum-null) refl

  negation-cont : cont (negation depth inner) ≡ after_negation
  unfolding negation
  negation-cont = refl

  disjunction-first : first (disjunction depth inner) ≡ k.Not ∷ k.Minus ∷ operands
  unfolding disjunction conjunction
  disjunction-first = simp (negation-first, negation-null)

-- what is to be known of the rules of one nesting further in
pub record Knows (inner : Level → G Expr) : Type 0 where
  pub null_whole : null (inner Whole) ≡ false
  pub null_negation : null (inner Negation) ≡ false
  pub null_sum : null (inner Sum) ≡ false
  pub null_sign : null (inner Sign) ≡ false
  pub cont_whole : cont (inner Whole) ≡ after Whole
  pub cont_negation : cont (inner Negation) ≡ after Negation
  pub cont_sum : cont (inner Sum) ≡ after Sum
  pub cont_sign : cont (inner Sign) ≡ after Sign
  pub ok_whole : ok (inner Whole) ≡ true
  pub ok_negation : ok (inner Negation) ≡ true
  pub ok_sum : ok (inner Sum) ≡ true
  pub ok_sign : ok (inner Sign) ≡ true

module _ (depth : ℕ) (inner : Level → G Expr) (known : Knows inner) where
  atom-cont : cont (atom depth inner) ≡ k.Dot ∷ k.Dot ∷ []
  unfolding atom parenthesized literal named column bound rows first_of_rows
  atom-cont = simp (known.null_whole)

  atom-ok : ok (atom depth inner) ≡ true
  unfolding atom parenthesized literal named column bound rows first_of_rows
  atom-ok = simp (known.cont_whole, known.ok_whole)

  signed-ok : ok (signed depth inner) ≡ true
  unfolding signed minus
  signed-ok = simp (known.null_sign, known.cont_sign, known.ok_sign, atom-ok, atom-first depth inner, atom-null depth inner, atom-cont)

  product-ok : ok (product depth inner) ≡ true
  unfolding product
  product-ok = simp (signed-ok, signed-cont depth inner, signed-null depth inner)

  sum-ok : ok (sum depth inner) ≡ true
  unfolding sum
  sum-ok = simp (product-ok, product-cont depth inner, product-null depth inner)

  among-ok : (b : Bool) → ok (among depth inner b) ≡ true
  unfolding among sums
  among-ok b = simp (known.cont_sum, known.ok_sum)

  among-cont : (b : Bool) → cont (among depth inner b) ≡ []
  unfolding among sums
  among-cont b = simp (known.null_sum)

  between-ok : (b : Bool) → ok (between depth inner b) ≡ true
  unfolding between
  between-ok b = simp (sum-ok, sum-cont depth inner)

  between-cont : (b : Bool) → cont (between depth inner b) ≡ after_sum
  unfolding between
  between-cont b = simp (sum-cont depth inner)

  excluded-ok : ok (excluded depth inner) ≡ true
  unfolding excluded
  excluded-ok = simp (among-ok, between-ok)

  excluded-cont : cont (excluded depth inner) ≡ after_sum
  unfolding excluded
  excluded-cont = simp (among-cont, between-cont)

  compared-ok : ok (compared depth inner) ≡ true
  unfolding compared
  compared-ok = simp (sum-ok)

  compared-null : null (compared depth inner) ≡ true
  unfolding compared
  compared-null = refl

  compared-first : first (compared depth inner) ≡ k.Equal ∷ k.NotEqual ∷ k.Less ∷ k.LessEqual ∷ k.Greater ∷ k.GreaterEqual ∷ []
  unfolding compared
  compared-first = refl

  compared-cont : cont (compared depth inner) ≡ after_sum ++ k.Equal ∷ k.NotEqual ∷ k.Less ∷ k.LessEqual ∷ k.Greater ∷ k.GreaterEqual ∷ []
  unfolding compared
  compared-cont = simp (sum-cont depth inner, sum-null depth inner)

  tested-ok : ok (tested depth inner) ≡ true
  unfolding tested contained null_test
  tested-ok = simp (among-ok, between-ok, excluded-ok, compared-ok, compared-first)

  tested-null : null (tested depth inner) ≡ true
  unfolding tested contained compared
  tested-null = refl

  tested-first : first (tested depth inner) ≡ k.Is ∷ k.Not ∷ k.Between ∷ k.In ∷ k.Equal ∷ k.NotEqual ∷ k.Less ∷ k.LessEqual ∷ k.Greater ∷ k.GreaterEqual ∷ []
  unfolding tested contained compared
  tested-first = refl

  tested-cont : cont (tested depth inner) ≡ after_sum ++ after_sum ++ after_sum ++ k.Equal ∷ k.NotEqual ∷ k.Less ∷ k.LessEqual ∷ k.Greater ∷ k.GreaterEqual ∷ k.In ∷ k.Between ∷ k.Not ∷ k.Is ∷ []
  unfolding tested contained null_test
  tested-cont = simp (among-cont, between-cont, excluded-cont, compared-cont, compared-null)

  predicate-ok : ok (predicate depth inner) ≡ true
  unfolding predicate
  predicate-ok = simp (sum-ok, tested-ok, tested-first, sum-cont depth inner)

  predicate-null : null (predicate depth inner) ≡ false
  unfolding predicate
  predicate-null = simp (sum-null depth inner)

  predicate-first : first (predicate depth inner) ≡ k.Minus ∷ operands
  unfolding predicate
  predicate-first = simp (sum-null depth inner, sum-first depth inner)

  predicate-cont : cont (predicate depth inner) ≡ (after_sum ++ after_sum ++ after_sum ++ k.Equal ∷ k.NotEqual ∷ k.Less ∷ k.LessEqual ∷ k.Greater ∷ k.GreaterEqual ∷ k.In ∷ k.Between ∷ k.Not ∷ k.Is ∷ []) ++ after_sum
  unfolding predicate
  predicate-cont = simp (tested-cont, tested-null, sum-cont depth inner)

  negation-ok : ok (negation depth inner) ≡ true
  unfolding negation inverted
  negation-ok = simp (known.null_negation, known.cont_negation, known.ok_negation, predicate-ok, predicate-first, predicate-cont, predicate-null)

  conjunction-ok : ok (conjunction depth inner) ≡ true
  unfolding conjunction
  conjunction-ok = simp (negation-ok, negation-cont depth inner)

  conjunction-cont : cont (conjunction depth inner) ≡ k.And ∷ (after_negation ++ after_negation)
  unfolding conjunction
  conjunction-cont = simp (negation-cont depth inner)

  disjunction-ok : ok (disjunction depth inner) ≡ true
  unfolding disjunction
  disjunction-ok = simp (conjunction-ok, conjunction-cont)

-- the rules of the innermost nesting
abbrev none : Level → G Expr
none l = never

zero-ok : (l : Level) → ok (by_level zero none l) ≡ true
unfolding disjunction conjunction negation inverted predicate tested contained excluded among sums between compared null_test sum product signed minus atom parenthesized literal named column bound rows first_of_rows
zero-ok Whole = refl
zero-ok Negation = refl
zero-ok Sum = refl
zero-ok Sign = refl

by_level-null : (depth : ℕ) (inner : Level → G Expr) (l : Level) → null (by_level depth inner l) ≡ false
unfolding disjunction conjunction
by_level-null depth inner Whole = negation-null depth inner
by_level-null depth inner Negation = negation-null depth inner
by_level-null depth inner Sum = sum-null depth inner
by_level-null depth inner Sign = signed-null depth inner

by_level-cont : (depth : ℕ) (inner : Level → G Expr) (l : Level) → cont (by_level depth inner l) ≡ after l
unfolding disjunction
by_level-cont depth inner Whole = refl
by_level-cont depth inner Negation = negation-cont depth inner
by_level-cont depth inner Sum = sum-cont depth inner
by_level-cont depth inner Sign = signed-cont depth inner

by_level-ok : (depth : ℕ) (inner : Level → G Expr) → Knows inner → (l : Level) → ok (by_level depth inner l) ≡ true
by_level-ok depth inner known Whole = disjunction-ok depth inner known
by_level-ok depth inner known Negation = negation-ok depth inner known
by_level-ok depth inner known Sum = sum-ok depth inner known
by_level-ok depth inner known Sign = signed-ok depth inner known

pub level-null : (depth : ℕ) (l : Level) → null (level depth l) ≡ false
unfolding level
level-null zero l = by_level-null zero none l
level-null (suc depth) l = by_level-null (suc depth) (level depth) l

pub level-cont : (depth : ℕ) (l : Level) → cont (level depth l) ≡ after l
unfolding level
level-cont zero l = by_level-cont zero none l
level-cont (suc depth) l = by_level-cont (suc depth) (level depth) l

pub level-first : (depth : ℕ) → first (level depth Whole) ≡ k.Not ∷ k.Minus ∷ operands
unfolding level
level-first zero = disjunction-first zero none
level-first (suc depth) = disjunction-first (suc depth) (level depth)

knows : (depth : ℕ) → ((l : Level) → ok (level depth l) ≡ true) → Knows (level depth)
knows depth oks = record {
  null_whole = level-null depth Whole;
  null_negation = level-null depth Negation;
  null_sum = level-null depth Sum;
  null_sign = level-null depth Sign;
  cont_whole = level-cont depth Whole;
  cont_negation = level-cont depth Negation;
  cont_sum = level-cont depth Sum;
  cont_sign = level-cont depth Sign;
  ok_whole = oks Whole;
  ok_negation = oks Negation;
  ok_sum = oks Sum;
  ok_sign = oks Sign;
}

pub level-ok : (depth : ℕ) (l : Level) → ok (level depth l) ≡ true
unfolding level
level-ok zero l = zero-ok l
level-ok (suc depth) l = by_level-ok (suc depth) (level depth) (knows depth (level-ok depth)) l

pub expr-ok : (depth : ℕ) → ok (expr depth) ≡ true
unfolding expr
expr-ok depth = simp (level-ok depth Whole)

pub expr-null : (depth : ℕ) → null (expr depth) ≡ false
unfolding expr
expr-null depth = level-null depth Whole

pub expr-cont : (depth : ℕ) → cont (expr depth) ≡ after_whole
unfolding expr
expr-cont depth = level-cont depth Whole

pub expr-first : (depth : ℕ) → first (expr depth) ≡ k.Not ∷ k.Minus ∷ operands
unfolding expr
expr-first depth = level-first depth

pub inner_expr-ok : (depth : ℕ) → ok (inner_expr depth) ≡ true
unfolding inner_expr deeper
inner_expr-ok zero = refl
inner_expr-ok (suc depth) = simp (level-ok depth Whole, level-cont depth Whole)

pub inner_expr-null : (depth : ℕ) → null (inner_expr depth) ≡ false
unfolding inner_expr deeper
inner_expr-null zero = refl
inner_expr-null (suc depth) = level-null depth Whole

pub inner_expr-cont : (depth : ℕ) → cont (inner_expr depth) ≡ after_whole
unfolding inner_expr
inner_expr-cont depth = refl

pub inner_expr-first : (depth : ℕ) → is_in k.Star (first (inner_expr depth)) ≡ false
unfolding inner_expr deeper
inner_expr-first zero = refl
inner_expr-first (suc depth) = simp (level-first depth)
