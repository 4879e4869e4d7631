-- The grammar of statements. Each rule stands below its text.
--
-- The number that the rules take is how deep parentheses, NOT and unary minus may still nest.
use Rattle.std.specs.Prelude.{ℕ, Bool, true, false, List, [], ◌∷◌, Option, Some, None}
use Rattle.sql_grammar.specs.declared.kind.Kind.{Kind}
use Rattle.sql_grammar.specs.declared.kind.Kind.TheVariants as k
use Rattle.sql_grammar.specs.Grammar.{G, tok, pure, seq, alt, map, skip, guard, note, listed, opt, is}
use Rattle.expr_parse.specs.declared.expression.ColumnName.{ColumnName}
use Rattle.expr_parse.specs.declared.expression.Expr.{Expr}
use Rattle.sql_parse.specs.declared.select.Origin.{Origin}
use Rattle.sql_parse.specs.declared.select.Rest.{Rest}
use Rattle.sql_parse.specs.declared.select.Behind.{Behind}
use Rattle.sql_parse.specs.declared.statement.Aggregate.{Aggregate}
use Rattle.sql_parse.specs.declared.statement.Aggregate.TheVariants as a
use Rattle.sql_parse.specs.declared.statement.Assignment.{Assignment}
use Rattle.sql_parse.specs.declared.statement.Insert.{Insert}
use Rattle.sql_parse.specs.declared.statement.Update.{Update}
use Rattle.sql_parse.specs.declared.statement.Delete.{Delete}
use Rattle.sql_parse.specs.declared.statement.Select.{Select}
use Rattle.sql_parse.specs.declared.statement.Limit.{Limit}
use Rattle.sql_parse.specs.declared.statement.Limit.TheVariants as limit
use Rattle.sql_parse.specs.declared.statement.Output.{Output}
use Rattle.sql_parse.specs.declared.statement.OutputValue.{OutputValue}
use Rattle.sql_parse.specs.declared.statement.OutputValue.TheVariants as out
use Rattle.sql_parse.specs.declared.statement.Outputs.{Outputs}
use Rattle.sql_parse.specs.declared.statement.Outputs.TheVariants as outs
use Rattle.sql_parse.specs.declared.statement.SecondTable.{SecondTable}
use Rattle.sql_parse.specs.declared.statement.SecondTable.TheVariants as second
use Rattle.sql_parse.specs.declared.statement.SortKey.{SortKey}
use Rattle.sql_parse.specs.declared.statement.Stmt.{Stmt}
use Rattle.sql_parse.specs.declared.statement.Stmt.TheVariants as s
use Rattle.sql_parse.specs.declared.statement.TableName.{TableName}
use Rattle.expr_parse.specs.Expressions.{can_nest, name, number, column, before, parens, expr, inner_expr, max_nesting}

-- Parts that hold no expression

-- [[AS] name]
unfoldable pub alias : G (Option (List ℕ))
alias = alt (skip k.As (map (λ n. Some n) name)) (opt name)

-- name [[AS] name]
unfoldable pub table : G TableName
table = map (λ p. record { table = p.0; alias = p.1 }) (seq name alias)

-- [AS name]
unfoldable pub output_name : G (Option (List ℕ))
output_name = opt (skip k.As name)

-- col {"," col}
unfoldable pub columns : G (List ColumnName)
columns = listed column

-- [GROUP BY col {"," col}]
unfoldable pub groups : G (List ColumnName)
groups = alt (skip k.Group (skip k.By columns)) (pure [])

-- [ASC | DESC]
unfoldable pub descending : G Bool
descending = alt (is k.Desc true) (alt (is k.Asc false) (pure false))

-- key = col [ASC | DESC]
unfoldable pub key : G SortKey
key = map (λ p. record { column = p.0; descending = p.1 }) (seq column descending)

-- key {"," key}
unfoldable pub keys : G (List SortKey)
keys = listed key

-- [ORDER BY key {"," key}]
unfoldable pub order : G (List SortKey)
order = alt (skip k.Order (skip k.By keys)) (pure [])

-- number | "?" | ":" name
unfoldable pub limit_value : G Limit
limit_value = alt (map limit.Number number)
    (alt (is k.Question limit.Parameter) (skip k.Colon (map limit.Variable name)))

-- [LIMIT (number | "?" | ":" name)]
unfoldable pub limited : G (Option Limit)
limited = opt (skip k.Limit limit_value)

-- [GROUP BY ..] [ORDER BY ..] [LIMIT ..]
unfoldable pub tail : G Rest
tail = map (λ p. record { groups = p.0; order = p.1.0; limit = p.1.1 }) (seq groups (seq order limited))

-- the parts of a SELECT together
abbrev pub select_of : Outputs → Behind → Select
select_of outputs behind = record {
  outputs = outputs;
  first = behind.origin.first;
  second = behind.origin.second;
  filter = behind.origin.filter;
  groups = behind.rest.groups;
  order = behind.rest.order;
  limit = behind.rest.limit;
}

-- name {"," name}
unfoldable pub names : G (List (List ℕ))
names = listed name

-- what may go on after a statement, inside a longer one
abbrev pub after_statement : List Kind
after_statement = k.As ∷ k.Name ∷ k.Comma ∷ k.Inner ∷ k.Join ∷ k.Where ∷ k.Group ∷ k.Order ∷ k.Limit ∷ k.Asc ∷ k.Desc
    ∷ k.Dot ∷ k.Star ∷ k.Slash ∷ k.Plus ∷ k.Minus ∷ k.Equal ∷ k.NotEqual ∷ k.Less ∷ k.LessEqual ∷ k.Greater ∷ k.GreaterEqual
    ∷ k.Is ∷ k.Not ∷ k.Between ∷ k.In ∷ k.And ∷ k.Or ∷ []

module _ (depth : ℕ) where
  -- [WHERE expr]
  unfoldable pub filter : G (Option Expr)
  filter = opt (skip k.Where (expr depth))

  -- expr {"," expr}, in parentheses
  unfoldable pub inner_exprs : G (List Expr)
  inner_exprs = listed (inner_expr depth)

  -- ["(" names ")"]
  unfoldable pub named_columns : G (Option (List (List ℕ)))
  named_columns = opt (parens depth names)

  -- "(" expr {"," expr} ")"
  unfoldable pub values : G (List Expr)
  values = parens depth inner_exprs

  -- Writes

  -- INSERT INTO name ["(" names ")"] VALUES "(" expr {"," expr} ")"
  unfoldable pub insert : G Insert
  insert = map (λ p. record { table = p.0; columns = p.1.0; values = p.1.1 })
      (seq name (seq named_columns (skip k.Values values)))

  -- name "=" expr
  unfoldable pub assignment : G Assignment
  assignment = map (λ p. record { column = p.0; value = p.1 }) (seq name (skip k.Equal (expr depth)))

  -- name "=" expr {"," name "=" expr}
  unfoldable pub assignments : G (List Assignment)
  assignments = listed assignment

  -- UPDATE name SET name "=" expr {"," name "=" expr} [WHERE expr]
  unfoldable pub update : G Update
  update = map (λ p. record { table = p.0; sets = p.1.0; filter = p.1.1 })
      (seq name (skip k.Set (seq assignments filter)))

  -- DELETE FROM name [WHERE expr]
  unfoldable pub delete : G Delete
  delete = map (λ p. record { table = p.0; filter = p.1 }) (seq name filter)

  -- SELECT

  -- expr ")"
  unfoldable pub closed : G Expr
  closed = before (inner_expr depth) k.RightParen

  -- "(" expr ")"
  unfoldable pub aggregated : Aggregate → G OutputValue
  aggregated aggregate = map (λ p. out.Aggregate aggregate p.1) (seq (guard (can_nest depth) (tok k.LeftParen)) closed)

  -- "*" ")" | expr ")"
  unfoldable pub counted_value : G OutputValue
  counted_value = alt (skip k.Star (is k.RightParen out.CountRows)) (map (λ x. out.Aggregate a.Count x) closed)

  -- "(" ("*" | expr) ")"
  unfoldable pub counted : G OutputValue
  counted = map (λ p. p.1) (seq (guard (can_nest depth) (tok k.LeftParen)) counted_value)

  -- (MIN | MAX) "(" expr ")" | expr
  unfoldable pub least_or_greatest : G OutputValue
  least_or_greatest = alt (skip k.Min (aggregated a.Min)) (alt (skip k.Max (aggregated a.Max)) (map out.Expr (expr depth)))

  -- COUNT "(" ("*" | expr) ")" | (SUM | MIN | MAX) "(" expr ")" | expr
  unfoldable pub output_value : G OutputValue
  output_value = alt (skip k.Count counted) (alt (skip k.Sum (aggregated a.Sum)) least_or_greatest)

  -- out = (expr | COUNT .. | (SUM | MIN | MAX) ..) [AS name]
  unfoldable pub output : G Output
  output = map (λ p. record { value = p.0; name = p.1 }) (seq output_value output_name)

  -- out {"," out}
  unfoldable pub listed_outputs : G (List Output)
  listed_outputs = listed output

  -- "*" | out {"," out}
  unfoldable pub outputs : G Outputs
  outputs = alt (is k.Star outs.All) (map outs.Listed listed_outputs)

  -- name [[AS] name] ON expr
  unfoldable pub joined : G SecondTable
  joined = map (λ p. second.Joined p.0 p.1) (seq table (skip k.On (expr depth)))

  -- ["," name [[AS] name] | [INNER] JOIN name [[AS] name] ON expr]
  unfoldable pub second_table : G (Option SecondTable)
  second_table = alt (skip k.Comma (map (λ t. Some (second.Listed t)) table))
      (alt (skip k.Inner (skip k.Join (map (λ t. Some t) joined))) (alt (skip k.Join (map (λ t. Some t) joined)) (pure None)))

  -- name [[AS] name] [("," .. | [INNER] JOIN ..)] [WHERE expr]
  unfoldable pub source : G Origin
  source = map (λ p. record { first = p.0; second = p.1.0; filter = p.1.1 }) (seq table (seq second_table filter))

  -- FROM name [[AS] name] [("," .. | [INNER] JOIN ..)] [WHERE expr] [GROUP BY ..] [ORDER BY ..] [LIMIT ..]
  unfoldable pub behind : G Behind
  behind = skip k.From (map (λ p. record { origin = p.0; rest = p.1 }) (seq source tail))

  -- SELECT ("*" | out {"," out}) FROM name [[AS] name] [("," .. | [INNER] JOIN ..)]
  --     [WHERE expr] [GROUP BY col {"," col}] [ORDER BY key {"," key}] [LIMIT (number | "?" | ":" name)]
  unfoldable pub select : G Select
  select = map (λ p. select_of p.0 p.1) (seq outputs behind)

  -- stmt = INSERT .. | UPDATE .. | DELETE .. | SELECT ..
  unfoldable pub stmt : G Stmt
  stmt = note after_statement (alt (skip k.Insert (skip k.Into (map s.Insert insert)))
      (alt (skip k.Update (map s.Update update))
      (alt (skip k.Delete (skip k.From (map s.Delete delete))) (skip k.Select (map s.Select select)))))

-- a statement that stands alone
unfoldable pub statement : G Stmt
statement = stmt max_nesting
