-- The grammar of expressions. Each rule stands below its text.
--
-- The number that the rules take is how deep parentheses, NOT and unary minus may still nest.
use Rattle.std.specs.Prelude.{ℕ, ℤ, zero, suc, Bool, true, false, List, [], ◌∷◌, Option}
use Rattle.sql_grammar.specs.declared.kind.Kind.{Kind}
use Rattle.sql_grammar.specs.declared.kind.Kind.TheVariants as k
use Rattle.sql_grammar.specs.Grammar.{G, tok, pure, seq, alt, map, skip, chain, guard, never, limit, note, listed, opt, is}
use Rattle.expr_parse.specs.declared.expression.Arithmetic.{Arithmetic}
use Rattle.expr_parse.specs.declared.expression.Arithmetic.TheVariants.{Add, Subtract, Multiply, Divide}
use Rattle.expr_parse.specs.declared.expression.Comparison.{Comparison}
use Rattle.expr_parse.specs.declared.expression.Comparison.TheVariants as c
use Rattle.expr_parse.specs.declared.expression.ColumnName.{ColumnName}
use Rattle.expr_parse.specs.declared.expression.Expr.{Expr}
use Rattle.expr_parse.specs.declared.expression.Expr.TheVariants as e
use Rattle.expr_parse.specs.declared.levels.Level.{Level}
use Rattle.expr_parse.specs.declared.levels.Level.TheVariants.{Whole, Negation, Sum, Sign}
use Rattle.expr_parse.specs.Words.{number_of, text_of, column_named, bound_named}

-- how deep parentheses, NOT, unary minus and steps nest
abbrev pub max_nesting : ℕ
max_nesting = 100

-- how many tokens an expression has at most
abbrev pub max_tokens : ℕ
max_tokens = 4096

abbrev pub can_nest : ℕ → Bool
can_nest zero = false
can_nest (suc depth) = true

-- Names

abbrev pub name : G (List ℕ)
name = tok k.Name

-- ["." name]
abbrev pub after_dot : G (Option (List ℕ))
after_dot = opt (skip k.Dot name)

-- col = name ["." name]
unfoldable pub column : G ColumnName
column = map (λ p. column_named p.0 p.1) (seq name after_dot)

-- the rule, and then a token of this kind
abbrev pub before : {A : Type 0} → G A → Kind → G A
before g kind = map (λ p. p.0) (seq g (tok kind))

-- "(" rule ")"
abbrev pub parens : {A : Type 0} → ℕ → G A → G A
parens depth g = map (λ p. p.1) (seq (guard (can_nest depth) (tok k.LeftParen)) (before g k.RightParen))

-- Atoms

abbrev pub number : G ℤ
number = map number_of (tok k.Number)

abbrev pub text : G (List ℕ)
text = map text_of (tok k.Text)

-- number | text | NULL | "?"
unfoldable pub literal : G Expr
literal = alt (map e.Number number) (alt (map e.Text text) (alt (is k.Null e.Null) (is k.Question e.Parameter)))

-- ":" name ["." name]
unfoldable pub bound : G Expr
bound = map (λ p. bound_named p.0 p.1) (seq name after_dot)

-- ROWS "(" name ")"
unfoldable pub rows : ℕ → G Expr
rows depth = map e.Rows (parens depth name)

-- FIRST "(" name "." name ")"
unfoldable pub first_of_rows : ℕ → G Expr
first_of_rows depth = map (λ p. e.First p.0 p.1) (parens depth (seq name (skip k.Dot name)))

-- col | ":" name ["." name] | ROWS "(" name ")" | FIRST "(" name "." name ")"
unfoldable pub named : ℕ → G Expr
named depth = alt (map e.Column column)
    (alt (skip k.Colon bound) (alt (skip k.Rows (rows depth)) (skip k.First (first_of_rows depth))))

-- Operators

abbrev pub scaling : G Arithmetic
scaling = alt (is k.Star Multiply) (is k.Slash Divide)

abbrev pub adding : G Arithmetic
adding = alt (is k.Plus Add) (is k.Minus Subtract)

-- cmp
abbrev pub comparing : G Comparison
comparing = alt (is k.Equal c.Equal) (alt (is k.NotEqual c.NotEqual) (alt (is k.Less c.Less)
    (alt (is k.LessEqual c.LessOrEqual) (alt (is k.Greater c.Greater) (is k.GreaterEqual c.GreaterOrEqual)))))

abbrev pub calculate : Expr → Arithmetic × Expr → Expr
calculate x p = e.Calculate p.0 x p.1

-- what may go on after an operand of these strengths, inside a longer one
abbrev pub after_sign : List Kind
after_sign = k.Dot ∷ []

abbrev pub after_product : List Kind
after_product = k.Dot ∷ k.Star ∷ k.Slash ∷ []

abbrev pub after_sum : List Kind
after_sum = k.Dot ∷ k.Star ∷ k.Slash ∷ k.Plus ∷ k.Minus ∷ []

abbrev pub after_negation : List Kind
after_negation = k.Dot ∷ k.Star ∷ k.Slash ∷ k.Plus ∷ k.Minus ∷ k.Equal ∷ k.NotEqual ∷ k.Less ∷ k.LessEqual ∷ k.Greater
    ∷ k.GreaterEqual ∷ k.Is ∷ k.Not ∷ k.Between ∷ k.In ∷ []

abbrev pub after_whole : List Kind
after_whole = k.Or ∷ k.And ∷ after_negation

-- The rules that nest. `inner` has those of one nesting further in.
module _ (depth : ℕ) (inner : Level → G Expr) where
  -- "(" expr ")"
  unfoldable pub parenthesized : G Expr
  parenthesized = map e.Parenthesized (parens depth (inner Whole))

  -- atom = "(" expr ")" | number | text | NULL | "?" | col | ":" name ["." name] | ROWS .. | FIRST ..
  unfoldable pub atom : G Expr
  atom = alt parenthesized (alt literal (named depth))

  -- "-" signed
  unfoldable pub minus : G Expr
  minus = map (λ p. e.Negate p.1) (seq (guard (can_nest depth) (tok k.Minus)) (inner Sign))

  -- unary - over atom
  unfoldable pub signed : G Expr
  signed = note after_sign (alt minus atom)

  -- * / over unary -
  unfoldable pub product : G Expr
  product = note after_product (chain calculate signed (seq scaling signed))

  -- + - over * /
  unfoldable pub sum : G Expr
  sum = note after_sum (chain calculate product (seq adding product))

  -- [NOT] NULL
  unfoldable pub null_test : G (Expr → Expr)
  null_test = map (λ negated. λ x. e.IsNull x negated) (alt (skip k.Not (is k.Null true)) (is k.Null false))

  -- sum AND sum
  abbrev pub range : G (Expr × Expr)
  range = seq sum (skip k.And sum)

  -- BETWEEN's sum AND sum
  unfoldable pub between : Bool → G (Expr → Expr)
  between negated = map (λ p. λ x. e.Between x p.0 p.1 negated) range

  -- sum {"," sum}
  unfoldable pub sums : G (List Expr)
  sums = listed (inner Sum)

  -- "(" sum {"," sum} ")"
  unfoldable pub among : Bool → G (Expr → Expr)
  among negated = map (λ xs. λ x. e.In x xs negated) (parens depth sums)

  -- BETWEEN sum AND sum | IN "(" sum {"," sum} ")", behind NOT
  unfoldable pub excluded : G (Expr → Expr)
  excluded = alt (skip k.Between (between true)) (skip k.In (among true))

  -- [cmp sum]
  unfoldable pub compared : G (Expr → Expr)
  compared = alt (map (λ p. λ x. e.Compare p.0 x p.1) (seq comparing sum)) (pure (λ x. x))

  -- [cmp sum | BETWEEN sum AND sum | IN "(" sum {"," sum} ")"]
  unfoldable pub contained : G (Expr → Expr)
  contained = alt (skip k.Between (between false)) (alt (skip k.In (among false)) compared)

  -- [cmp sum | IS [NOT] NULL | [NOT] BETWEEN sum AND sum | [NOT] IN "(" sum {"," sum} ")"]
  unfoldable pub tested : G (Expr → Expr)
  tested = alt (skip k.Is null_test) (alt (skip k.Not excluded) contained)

  -- predicate = sum [cmp sum | IS .. | [NOT] BETWEEN .. | [NOT] IN ..]
  unfoldable pub predicate : G Expr
  predicate = map (λ p. p.1 p.0) (seq sum tested)

  -- NOT negation
  unfoldable pub inverted : G Expr
  inverted = map (λ p. e.Not p.1) (seq (guard (can_nest depth) (tok k.Not)) (inner Negation))

  -- NOT over predicate
  unfoldable pub negation : G Expr
  negation = note after_negation (alt inverted predicate)

  -- AND over NOT
  unfoldable pub conjunction : G Expr
  conjunction = chain e.And negation (skip k.And negation)

  -- OR over AND
  unfoldable pub disjunction : G Expr
  disjunction = note after_whole (chain e.Or conjunction (skip k.Or conjunction))

  abbrev pub by_level : Level → G Expr
  by_level Whole = disjunction
  by_level Negation = negation
  by_level Sum = sum
  by_level Sign = signed

-- the rules where so many nestings are left
unfoldable pub level : ℕ → Level → G Expr
level zero l = by_level zero (λ x. never) l
level (suc depth) l = by_level (suc depth) (level depth) l

-- the rules of one nesting further in
unfoldable pub deeper : ℕ → Level → G Expr
deeper zero l = never
deeper (suc depth) l = level depth l

-- expr, where so many nestings are left
unfoldable pub expr : ℕ → G Expr
expr depth = limit max_tokens (level depth Whole)

-- expr, behind a parenthesis that was opened there
unfoldable pub inner_expr : ℕ → G Expr
inner_expr depth = limit max_tokens (note after_whole (deeper depth Whole))
