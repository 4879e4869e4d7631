-- What is wrong in an expression, from the left to the right of the text.
use Rattle.std.specs.Prelude.{Bool, true, false, List, [], ◌∷◌, ◌++◌, map, flat_map, is_some, Option, Some, None}
use Rattle.volt_value.specs.declared.column.Class.TheVariants as class
use Rattle.expr_parse.specs.declared.expression.ColumnName.{ColumnName}
use Rattle.expr_parse.specs.declared.expression.Expr.{Expr, fold-Expr}
use Rattle.expr_parse.specs.declared.expression.Expr.TheOpen.{Expr-F as e}
use Rattle.sql_resolve.specs.declared.bound.Given.{Given}
use Rattle.sql_resolve.specs.declared.bound.Given.TheVariants as g
use Rattle.sql_resolve.specs.declared.names.FoundColumn.{FoundColumn}
use Rattle.sql_resolve.specs.declared.sort.Sort.{Sort}
use Rattle.sql_resolve.specs.declared.sort.Sort.TheVariants.{Value, Null, Open, Truth}
use Rattle.sql_resolve.specs.Expressions.{common, sort_of_found, sort_of_given}
use Rattle.sql_resolve.specs.Named.{Tables}
use Rattle.sql_resolve.specs.Names.{column_of, variable_in, row_column_in, rows_in, first_in}
use Rattle.sql_complaints.specs.declared.complaints.About.{About}
use Rattle.sql_complaints.specs.declared.complaints.About.TheVariants as about
use Rattle.sql_complaints.specs.declared.complaints.Complaint.{Complaint}
use Rattle.sql_complaints.specs.declared.complaints.Part.{Part}
use Rattle.sql_complaints.specs.declared.complaints.Wanted.{Wanted}
use Rattle.sql_complaints.specs.declared.complaints.Wanted.TheVariants as wanted
use Rattle.sql_complaints.specs.Complaints.{complaint, misfit}

-- ---- names

abbrev pub if_found : Part → ColumnName → Option FoundColumn → List Complaint
if_found part name None = complaint part (about.NoColumn name) ∷ []
if_found part name (Some column) = []

-- a value of a program: the name is bound, and what it stands for has the column
abbrev pub if_given : Part → About → About → Given → List Complaint
if_given part unbound lacking g.Unbound = complaint part unbound ∷ []
if_given part unbound lacking g.NoColumn = complaint part lacking ∷ []
if_given part unbound lacking (g.Value x class) = []

-- ---- expressions

-- what an expression gives, what is wrong with it where something is wanted, and what is wrong in it; and again what is
-- wrong in a name, and in a comparison, of which others say nothing
pub record Read : Type 0 where
  pub sort : Sort
  pub own : Wanted → List Complaint
  pub inner : List Complaint
  pub leaf : List Complaint
  pub test : List Complaint

abbrev pub where_wanted : Wanted → Read → List Complaint
where_wanted wanted x = x.own wanted ++ x.inner

abbrev pub operand : Part → Sort → List Complaint → Read
operand part sort inner = record { sort = sort; own = λ wanted. misfit part wanted sort; inner = inner; leaf = inner; test = [] }

abbrev pub operation : Part → Sort → List Complaint → Read
operation part sort inner = record { sort = sort; own = λ wanted. misfit part wanted sort; inner = inner; leaf = []; test = [] }

abbrev pub comparison : Part → List Complaint → Read
comparison part inner = record { sort = Truth; own = λ wanted. misfit part wanted Truth; inner = inner; leaf = []; test = inner }

abbrev pub integer : Read → List Complaint
integer = where_wanted (wanted.Value class.Int)

abbrev pub truth : Read → List Complaint
truth = where_wanted wanted.Truth

-- a `?` in a program is wrong wherever it stands, and is no value by itself besides
abbrev pub strays : Part → Wanted → List Complaint
strays part wanted.Alone = misfit part wanted.Alone Open
strays part _ = []

abbrev pub question : Part → Bool → Read
question part true = record { sort = Open; own = strays part; inner = complaint part about.Question ∷ []; leaf = complaint part about.Question ∷ []; test = [] }
question part false = operand part Open []

abbrev pub given : Part → About → About → Given → Read
given part unbound lacking x = operand part (sort_of_given x) (if_given part unbound lacking x)

-- values that are compared are of one class
abbrev pub compared : Read → Read → List Complaint
compared x y =
    let wanted = wanted.Value (common (x.sort ∷ y.sort ∷ [])) in
    where_wanted wanted x ++ where_wanted wanted y

abbrev pub between : Read → Read → Read → List Complaint
between x low high =
    let wanted = wanted.Value (common (x.sort ∷ low.sort ∷ high.sort ∷ [])) in
    where_wanted wanted x ++ where_wanted wanted low ++ where_wanted wanted high

abbrev pub contained : Read → List Read → List Complaint
contained x items =
    let class = common (x.sort ∷ map (λ item. item.sort) items) in
    where_wanted (wanted.Value class) x ++ flat_map (where_wanted (wanted.Value class)) items

-- an expression whose operands were read already
abbrev pub read_step : Part → Tables → e Read → Read
read_step part names (e.Number z) = operand part (Value class.Int) []
read_step part names (e.Text t) = operand part (Value class.Text) []
read_step part names e.Null = operand part Null []
read_step part names e.Parameter = question part (is_some names.program)
read_step part names (e.Column name) = operand part (sort_of_found (column_of names name)) (if_found part name (column_of names name))
read_step part names (e.Parenthesized x) = record { sort = x.sort; own = x.own; inner = x.inner; leaf = []; test = [] }
read_step part names (e.Variable v) = given part (about.Unbound v) (about.Unbound v) (variable_in names.program v)
read_step part names (e.RowColumn r c) = given part (about.Unbound r) (about.NoField r c) (row_column_in names.program r c)
read_step part names (e.Rows r) = given part (about.Unbound r) (about.Unbound r) (rows_in names.program r)
read_step part names (e.First r c) = given part (about.Unbound r) (about.NoField r c) (first_in names.program r c)
read_step part names (e.Negate x) = operation part (Value class.Int) (integer x)
read_step part names (e.Calculate op x y) = operation part (Value class.Int) (integer x ++ integer y)
read_step part names (e.Compare op x y) = comparison part (compared x y)
read_step part names (e.IsNull x negated) = operation part Truth (where_wanted wanted.Alone x)
read_step part names (e.Between x low high negated) = comparison part (between x low high)
read_step part names (e.In x items negated) = comparison part (contained x items)
read_step part names (e.Not x) = operation part Truth (truth x)
read_step part names (e.And x y) = operation part Truth (truth x ++ truth y)
read_step part names (e.Or x y) = operation part Truth (truth x ++ truth y)

abbrev pub read : Part → Tables → Expr → Read
read part names = fold-Expr Read (read_step part names)

-- what is wrong in an expression that stands where something is wanted
abbrev pub complaints : Part → Tables → Wanted → Expr → List Complaint
complaints part names wanted expr = where_wanted wanted (read part names expr)
