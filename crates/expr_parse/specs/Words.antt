-- What the tokens that a tree keeps say.
use Rattle.std.specs.Prelude.{ℕ, ℤ, pos, ◌-◌, Bool, ◌&&◌, nat_lt, slice_index, if◌then◌else◌, List, [], ◌∷◌, length, take, drop, Option, Some, None}
use Rattle.volt_text.specs.Tokens.{is_quote}
use Rattle.sql_grammar.specs.TokenKinds.{number_value}
use Rattle.expr_parse.specs.declared.expression.ColumnName.{ColumnName}
use Rattle.expr_parse.specs.declared.expression.Expr.{Expr}
use Rattle.expr_parse.specs.declared.expression.Expr.TheVariants as e

abbrev pub value_or_zero : Option ℕ → ℤ
value_or_zero None = pos 0
value_or_zero (Some n) = pos n

-- the value of a number; digits that are no number, as their value is too great, stand for 0
unfoldable pub number_of : List ℕ → ℤ
number_of digits = value_or_zero (number_value digits)

-- each quote that stands doubled as one: the one whose `doubled` this is.
abbrev pub halved : List ℕ → List ℕ
halved [] = []
halved (b ∷ []) = b ∷ []
halved (b ∷ c ∷ bs) = if is_quote b && is_quote c then b ∷ halved bs else b ∷ halved (c ∷ bs)

-- the bytes stand in quotes
abbrev pub is_quoted : List ℕ → Bool
is_quoted bs = nat_lt 1 (length bs) && is_quote (slice_index bs 0) && is_quote (slice_index bs (length bs - 1))

-- the value of a quoted text: what stands between its quotes. Bytes that don't stand in quotes have no value
unfoldable pub text_of : List ℕ → List ℕ
text_of bs = if is_quoted bs then halved (drop 1 (take (length bs - 1) bs)) else []

-- `name`, or `name "." name`: a column, alone or behind its table.
abbrev pub column_named : List ℕ → Option (List ℕ) → ColumnName
column_named name None = record { table = None; column = name }
column_named name (Some column) = record { table = Some name; column = column }

-- `":" name`, or `":" name "." name`: a variable, or a column of a row.
abbrev pub bound_named : List ℕ → Option (List ℕ) → Expr
bound_named name None = e.Variable name
bound_named name (Some column) = e.RowColumn name column
