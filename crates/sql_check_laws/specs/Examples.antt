-- Statements of the example's procedures, as they are read.
use Rattle.std.specs.Prelude.{[], ◌∷◌, codes, Some, None}
use Rattle.expr_parse.specs.declared.expression.Comparison.TheVariants.{Equal}
use Rattle.expr_parse.specs.declared.expression.Expr.TheVariants.{Column, Parameter, Compare}
use Rattle.sql_parse.specs.declared.statement.Outputs.TheVariants.{Listed}
use Rattle.sql_parse.specs.declared.statement.OutputValue.TheVariants as value
use Rattle.sql_parse.specs.declared.statement.Stmt.{Stmt}
use Rattle.sql_parse.specs.declared.statement.Stmt.TheVariants.{Insert, Select}

-- INSERT INTO acct VALUES (?, ?)
abbrev pub put : Stmt
put = Insert (record { table = codes "acct"; columns = None; values = Parameter ∷ Parameter ∷ [] })

-- SELECT bal FROM acct WHERE id = ?
abbrev pub get : Stmt
get = Select (record {
  outputs = Listed (record { value = value.Expr (Column (record { table = None; column = codes "bal" })); name = None } ∷ []);
  first = record { table = codes "acct"; alias = None };
  second = None;
  filter = Some (Compare Equal (Column (record { table = None; column = codes "id" })) Parameter);
  groups = [];
  order = [];
  limit = None;
})
