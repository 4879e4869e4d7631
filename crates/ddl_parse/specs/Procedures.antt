-- The grammar of procedures. Each rule stands below its text.
--
-- The number that the rules take is how deep steps, parentheses, NOT and unary minus may still nest.
use Rattle.std.specs.Prelude.{ℕ, ℤ, pos, zero, suc, Bool, false, is_none, List, [], ◌∷◌, Option, Some, None}
use Rattle.sql_grammar.specs.declared.kind.Kind.{Kind}
use Rattle.sql_grammar.specs.declared.kind.Kind.TheVariants as k
use Rattle.sql_grammar.specs.Grammar.{G, tok, pure, seq, alt, map, skip, chain, note, joined, listed, opt, is}
use Rattle.expr_parse.specs.declared.expression.ColumnName.{ColumnName}
use Rattle.expr_parse.specs.declared.expression.Expr.{Expr}
use Rattle.expr_parse.specs.declared.expression.Expr.TheVariants as e
use Rattle.ddl_parse.specs.declared.procedure.ParameterText.{ParameterText}
use Rattle.ddl_parse.specs.declared.procedure.ProcBody.{ProcBody}
use Rattle.ddl_parse.specs.declared.procedure.ProcBody.TheVariants as body
use Rattle.ddl_parse.specs.declared.procedure.ProcPartition.{ProcPartition}
use Rattle.ddl_parse.specs.declared.procedure.ProcText.{ProcText}
use Rattle.ddl_parse.specs.declared.procedure.ProgramText.{ProgramText}
use Rattle.ddl_parse.specs.declared.procedure.ReturnText.{ReturnText}
use Rattle.ddl_parse.specs.declared.procedure.ReturnText.TheVariants as r
use Rattle.ddl_parse.specs.declared.procedure.StepText.{StepText}
use Rattle.ddl_parse.specs.declared.procedure.StepText.TheVariants as s
use Rattle.expr_parse.specs.Expressions.{name, number, text, before, expr, max_nesting}
use Rattle.sql_parse.specs.Statements.{stmt}
use Rattle.ddl_parse.specs.Types.{type_name, closed}

-- Steps

-- what one column behind RETURN gives: a name alone is a result
abbrev pub lone_column : Option (List ℕ) → ColumnName → ReturnText
lone_column None c = r.Result c.column
lone_column (Some table) c = r.Values (e.Column c ∷ [])

-- the expressions are one column without its table
abbrev pub is_lone_name : List Expr → Bool
is_lone_name (e.Column c ∷ []) = is_none c.table
is_lone_name xs = false

-- what expressions behind RETURN give: a name alone is a result, and all else is values
abbrev pub returned_of : List Expr → ReturnText
returned_of (e.Column c ∷ []) = lone_column c.table c
returned_of xs = r.Values xs

-- what one expression behind RETURN gives that is a name alone
abbrev pub result_of : Option Expr → ReturnText
result_of (Some (e.Column c)) = r.Result c.column
result_of value = r.Nothing

-- any number of texts of the rule
abbrev pub many : {A : Type 0} → G A → G (List A)
many g = chain joined (pure []) g

-- what may go on after steps, inside more of them
abbrev pub after_steps : List Kind
after_steps = k.Let ∷ k.Sql ∷ k.If ∷ k.For ∷ k.Abort ∷ k.Return ∷ []

-- The rules of steps. The number is how deep parentheses, NOT, unary minus and steps may still nest in a step

-- text ";"
abbrev pub message : G (List ℕ)
message = before text k.Semicolon

-- END ";"
abbrev pub ended : G (Unit {0})
ended = skip k.End (map (λ t. tt) (tok k.Semicolon))

-- [name "="]
unfoldable pub result_name : G (Option (List ℕ))
result_name = opt (before name k.Equal)

-- name "=" expr ";"
unfoldable pub assigned : ℕ → G StepText
assigned depth = map (λ p. s.Let p.0 p.1) (seq name (skip k.Equal (before (expr depth) k.Semicolon)))

-- [name "="] stmt ";"
unfoldable pub executed : ℕ → G StepText
executed depth = map (λ p. s.Sql p.0 p.1) (seq result_name (before (stmt depth) k.Semicolon))

-- expr {"," expr}
unfoldable pub exprs : ℕ → G (List Expr)
exprs depth = listed (expr depth)

-- [name | expr {"," expr}] ";"
unfoldable pub returned : ℕ → G ReturnText
returned depth = alt (is k.Semicolon r.Nothing) (map returned_of (before (exprs depth) k.Semicolon))

-- [ELSE {step}]
unfoldable pub otherwise : G (List StepText) → G (List StepText)
otherwise inner = alt (skip k.Else inner) (pure [])

-- name IN name DO {step} END ";"
unfoldable pub repeated : G (List StepText) → G StepText
repeated inner = map (λ p. s.For p.0 p.1.0 p.1.1.0) (seq name (skip k.In (seq name (skip k.Do (seq inner ended)))))

-- expr THEN {step} [ELSE {step}] END ";"
unfoldable pub chosen : ℕ → G (List StepText) → G StepText
chosen depth inner = map (λ p. s.If p.0 p.1.0 p.1.1.0) (seq (expr depth) (skip k.Then (seq inner (seq (otherwise inner) ended))))

-- step = LET name "=" expr ";" | SQL [name "="] stmt ";" | IF expr THEN {step} [ELSE {step}] END ";"
--     | FOR name IN name DO {step} END ";" | ABORT text ";" | RETURN [name | expr {"," expr}] ";"
unfoldable pub step : ℕ → G (List StepText) → G StepText
step depth inner = alt (skip k.Let (assigned depth)) (alt (skip k.Sql (executed depth)) (alt (skip k.If (chosen depth inner))
    (alt (skip k.For (repeated inner)) (alt (skip k.Abort (map s.Abort message)) (skip k.Return (map s.Return (returned depth)))))))

-- {step}, where so many nestings are left: a step is one
unfoldable pub steps : ℕ → G (List StepText)
steps zero = note after_steps (pure [])
steps (suc depth) = note after_steps (many (step depth (steps depth)))

-- Procedures

-- [PARAMETER number]
unfoldable pub parameter_number : G ℤ
parameter_number = alt (skip k.Parameter number) (pure (pos 0))

-- ON TABLE name COLUMN name [PARAMETER number]
unfoldable pub partitioned : G ProcPartition
partitioned = map (λ p. record { table = p.0; column = p.1.0; parameter = p.1.1 })
    (skip k.On (skip k.Table (seq name (skip k.Column (seq name parameter_number)))))

-- name type
unfoldable pub parameter : G ParameterText
parameter = map (λ p. record { name = p.0; kind = p.1 }) (seq name type_name)

-- name type {"," name type}
unfoldable pub listed_parameters : G (List ParameterText)
listed_parameters = listed parameter

-- [name type {"," name type}]
unfoldable pub parameters : G (List ParameterText)
parameters = alt listed_parameters (pure [])

-- "(" [name type {"," name type}] ")" BEGIN {step} END
unfoldable pub program : G ProgramText
program = map (λ p. record { parameters = p.0; steps = p.1 }) (seq (closed parameters) (skip k.Begin (before (steps max_nesting) k.End)))

-- stmt | PROGRAM "(" [name type {"," name type}] ")" BEGIN {step} END
unfoldable pub proc_body : G ProcBody
proc_body = alt (skip k.Program (map body.Program program)) (map body.Statement (stmt max_nesting))

-- name [PARTITION ON TABLE name COLUMN name [PARAMETER number]] AS (stmt | PROGRAM ..)
unfoldable pub procedure : G ProcText
procedure = map (λ p. record { name = p.0; partition = p.1.0; body = p.1.1 })
    (seq name (seq (opt (skip k.Partition partitioned)) (skip k.As proc_body)))
