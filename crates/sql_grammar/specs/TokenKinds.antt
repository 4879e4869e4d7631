-- Which kind a token has.
use Rattle.std.specs.Prelude.{ℕ, ◌+◌, ◌-◌, ◌*◌, nat_le, if◌then◌else◌, List, [], ◌∷◌, Option, Some, None, codes}
use Rattle.std.specs.Str.{byte, str_eq_ignore_ascii_case}
use Rattle.volt_text.specs.declared.token.TokenKind.{TokenKind}
use Rattle.volt_text.specs.declared.token.TokenKind.TheVariants as t
use Rattle.sql_grammar.specs.declared.kind.Kind.{Kind}
use Rattle.sql_grammar.specs.declared.kind.Kind.TheVariants as k

-- the greatest number
abbrev pub max_number : ℕ
max_number = 9223372036854775807

-- the value of digits
abbrev pub digits_from : ℕ → List ℕ → ℕ
digits_from n [] = n
digits_from n (b ∷ bs) = digits_from (10 * n + (b - byte "0")) bs

-- the value of digits, where it isn't above the greatest number
unfoldable pub number_value : List ℕ → Option ℕ
number_value digits = if nat_le (digits_from 0 digits) max_number then Some (digits_from 0 digits) else None

-- the words that are no names
unfoldable pub keywords : List (List ℕ × Kind)
keywords = (codes "CREATE", k.Create) ∷ (codes "TABLE", k.Table) ∷ (codes "CONSTRAINT", k.Constraint) ∷ (codes "PRIMARY", k.Primary) ∷ (codes "KEY", k.Key)
    ∷ (codes "NOT", k.Not) ∷ (codes "NULL", k.Null) ∷ (codes "TINYINT", k.Tinyint) ∷ (codes "SMALLINT", k.Smallint) ∷ (codes "INTEGER", k.Integer)
    ∷ (codes "BIGINT", k.Bigint) ∷ (codes "VARCHAR", k.Varchar) ∷ (codes "BYTES", k.Bytes) ∷ (codes "UNIQUE", k.Unique) ∷ (codes "INDEX", k.Index)
    ∷ (codes "ON", k.On) ∷ (codes "PARTITION", k.Partition) ∷ (codes "COLUMN", k.Column) ∷ (codes "PROCEDURE", k.Procedure) ∷ (codes "PARAMETER", k.Parameter)
    ∷ (codes "AS", k.As) ∷ (codes "PROGRAM", k.Program) ∷ (codes "BEGIN", k.Begin) ∷ (codes "END", k.End) ∷ (codes "INSERT", k.Insert)
    ∷ (codes "INTO", k.Into) ∷ (codes "VALUES", k.Values) ∷ (codes "UPDATE", k.Update) ∷ (codes "SET", k.Set) ∷ (codes "WHERE", k.Where)
    ∷ (codes "DELETE", k.Delete) ∷ (codes "FROM", k.From) ∷ (codes "SELECT", k.Select) ∷ (codes "INNER", k.Inner) ∷ (codes "JOIN", k.Join)
    ∷ (codes "GROUP", k.Group) ∷ (codes "BY", k.By) ∷ (codes "ORDER", k.Order) ∷ (codes "LIMIT", k.Limit) ∷ (codes "COUNT", k.Count)
    ∷ (codes "SUM", k.Sum) ∷ (codes "MIN", k.Min) ∷ (codes "MAX", k.Max) ∷ (codes "ASC", k.Asc) ∷ (codes "DESC", k.Desc)
    ∷ (codes "OR", k.Or) ∷ (codes "AND", k.And) ∷ (codes "IS", k.Is) ∷ (codes "BETWEEN", k.Between) ∷ (codes "IN", k.In)
    ∷ (codes "ROWS", k.Rows) ∷ (codes "FIRST", k.First) ∷ (codes "LET", k.Let) ∷ (codes "SQL", k.Sql) ∷ (codes "IF", k.If)
    ∷ (codes "THEN", k.Then) ∷ (codes "ELSE", k.Else) ∷ (codes "FOR", k.For) ∷ (codes "DO", k.Do) ∷ (codes "ABORT", k.Abort)
    ∷ (codes "RETURN", k.Return) ∷ []

unfoldable pub signs : List (List ℕ × Kind)
signs = (codes "(", k.LeftParen) ∷ (codes ")", k.RightParen) ∷ (codes ",", k.Comma) ∷ (codes ";", k.Semicolon) ∷ (codes ".", k.Dot)
    ∷ (codes "*", k.Star) ∷ (codes "+", k.Plus) ∷ (codes "-", k.Minus) ∷ (codes "/", k.Slash) ∷ (codes "=", k.Equal)
    ∷ (codes "<>", k.NotEqual) ∷ (codes "!=", k.NotEqual) ∷ (codes "<", k.Less) ∷ (codes "<=", k.LessEqual) ∷ (codes ">", k.Greater)
    ∷ (codes ">=", k.GreaterEqual) ∷ (codes "?", k.Question) ∷ (codes ":", k.Colon) ∷ []

-- the kind of a text in a list, where letters are compared without their case
abbrev pub lookup : List (List ℕ × Kind) → List ℕ → Kind → Kind
lookup [] text other = other
lookup (p ∷ ps) text other = if str_eq_ignore_ascii_case p.0 text then p.1 else lookup ps text other

abbrev pub number_kind : Option ℕ → Kind
number_kind None = k.Bad
number_kind (Some n) = k.Number

-- the kind of a token with these bytes
unfoldable pub kind_of : TokenKind → List ℕ → Kind
kind_of t.Word text = lookup keywords text k.Name
kind_of t.Number text = number_kind (number_value text)
kind_of t.Text text = k.Text
kind_of t.Sign text = lookup signs text k.Bad
