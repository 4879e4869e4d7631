-- What holds of each compiled program, and of the whole plan of an input.
use Rattle.std.specs.Prelude.{◌≡◌, ℕ, ◌≤◌, Bool, true, false, not, ◌&&◌, ◌==◌, nat_lt, nat_le, List, [], ◌∷◌, ◌++◌, map, length, slice_get, Option, Some, None, option_to_list, is_some}
use Rattle.std.specs.List.{list_all, AllByRecursion}
use Rattle.volt_value.specs.declared.column.Class.{Class}
use Rattle.volt_value.specs.declared.column.Class.TheVariants as class
use Rattle.volt_value.specs.declared.column.ColType.{ColType}
use Rattle.volt_value.specs.Columns.{class_of}
use Rattle.volt_catalog.specs.declared.column.Column.{Column}
use Rattle.volt_catalog.specs.declared.procedure.ProcDef.{ProcDef}
use Rattle.volt_catalog.specs.Rules.{Contents}
use Rattle.volt_catalog.specs.Catalog.{IsCatalog}
use Rattle.sql_plan.specs.declared.plan.Plan.{Plan}
use Rattle.sql_plan.specs.declared.prepared.Prepared.{Prepared}
use Rattle.sql_plan.specs.declared.prepared.Scope.{Scope}
use Rattle.sql_plan.specs.declared.prepared.Scope.TheVariants.{OnePartition}
use Rattle.sql_plan.specs.declared.program.Program.{Program}
use Rattle.sql_plan.specs.declared.program.ProgramStep.{ProgramStep, fold-ProgramStep}
use Rattle.sql_plan.specs.declared.program.ProgramStep.TheOpen.{ProgramStep-F as s}
use Rattle.sql_plan.specs.declared.program.ProgramValue.{ProgramValue}
use Rattle.sql_plan.specs.declared.program.ProgramValue.TheVariants as place
use Rattle.sql_plan.specs.declared.program.Returned.{Returned}
use Rattle.sql_plan.specs.declared.program.Returned.TheVariants as returned
use Rattle.sql_plan.specs.Prepared.{written_by}
use Rattle.sql_meaning.specs.Tables.{table_at}
use Rattle.sql_meaning.specs.WellFormed.{is_class, gives, fits, are_comparable, most_places, IsPrepared}

-- ---- statements of a procedure

abbrev pub is_one_partition : Scope → Bool
is_one_partition OnePartition = true
is_one_partition _ = false

abbrev pub is_partitioned : Contents → Option ℕ → Bool
is_partitioned catalog None = true
is_partitioned catalog (Some number) = is_some (table_at catalog number).part

-- A procedure that runs on one partition changes no table that all partitions have.
abbrev pub suits : Contents → Bool → Prepared → Bool
suits catalog true statement = is_one_partition statement.scope && is_partitioned catalog (written_by statement.action)
suits catalog false statement = not (is_one_partition statement.scope)

pub record IsStatement (catalog : Contents) (single : Bool) (statement : Prepared) : Type 0 where
  pub prepared : IsPrepared catalog statement
  pub suits : suits catalog single statement ≡ true

-- ---- steps: numbers are in range, and classes fit

-- the classes of a program's variables and of its results' columns
pub record Names : Type 0 where
  pub variables : List Class
  pub results : List (List Class)

abbrev pub class_at : Option (List Class) → ℕ → Option Class
class_at None n = None
class_at (Some classes) n = slice_get classes n

abbrev pub integer_if : Bool → Option Class
integer_if true = Some class.Int
integer_if false = None

-- the class of a value of the program, where rows of these classes are gone over
abbrev pub class_of_value : Names → List (List Class) → ProgramValue → Option Class
class_of_value names rows (place.Variable n) = slice_get names.variables n
class_of_value names rows (place.Column row column) = class_at (slice_get rows row) column
class_of_value names rows (place.Rows result) = integer_if (nat_lt result (length names.results))
class_of_value names rows (place.First result column) = class_at (slice_get names.results result) column

abbrev pub known_classes : List (Option Class) → List Class
known_classes [] = []
known_classes (None ∷ more) = known_classes more
known_classes (Some c ∷ more) = c ∷ known_classes more

abbrev pub are_known : List (Option Class) → Bool
are_known classes = list_all is_some classes

abbrev pub same_classes : List Class → List (Option Class) → Bool
same_classes [] [] = true
same_classes (c ∷ classes) (o ∷ more) = is_class c o && same_classes classes more
same_classes _ _ = false

-- an expression and a condition over values of the program
abbrev pub value_fits_in : List (Option Class) → (List Class → Bool) → Bool
value_fits_in args holds = are_known args && holds (known_classes args)

abbrev pub gives_class : List Class → Option Class → (Class → Bool) → Bool
gives_class params None holds = false
gives_class params (Some wanted) holds = holds wanted

abbrev pub suits_statement : Names → List (Option Class) → Option (List Class) → Option Prepared → Bool
suits_statement names args result None = false
suits_statement names args None (Some statement) = same_classes statement.params args
suits_statement names args (Some classes) (Some statement) =
    same_classes statement.params args && same_classes classes (map (λ column. Some column.1) statement.columns)

abbrev pub result_classes : Names → Option ℕ → Option (List Class)
result_classes names None = None
result_classes names (Some n) = slice_get names.results n

abbrev pub result_is_there : Names → Option ℕ → Bool
result_is_there names None = true
result_is_there names (Some n) = nat_lt n (length names.results)

abbrev pub returned_fits : Names → List (List Class) → Returned → Bool
returned_fits names rows returned.Nothing = true
returned_fits names rows (returned.Result n) = nat_lt n (length names.results)
returned_fits names rows (returned.Values args values) =
    value_fits_in (map (class_of_value names rows) args) (λ params. list_all (λ e. are_comparable [] params (e ∷ [])) values)
    && nat_le (length values) most_places

-- a step whose inner steps are known to fit, where rows of these classes are gone over
abbrev pub fits_step : Names → List Prepared → s (List (List Class) → Bool) → List (List Class) → Bool
fits_step names statements (s.Let variable args value) rows =
    value_fits_in (map (class_of_value names rows) args) (λ params.
    gives_class params (slice_get names.variables variable) (gives [] params value))
fits_step names statements (s.Sql statement args result) rows =
    suits_statement names (map (class_of_value names rows) args) (result_classes names result) (slice_get statements statement)
    && result_is_there names result
fits_step names statements (s.If args condition steps otherwise) rows =
    value_fits_in (map (class_of_value names rows) args) (λ params. fits [] params condition)
    && list_all (λ step. step rows) steps && list_all (λ step. step rows) otherwise
fits_step names statements (s.For row result steps) rows =
    (row == length rows) && nat_lt result (length names.results)
    && list_all (λ step. step (rows ++ option_to_list (slice_get names.results result))) steps
fits_step names statements (s.Abort text) rows = true
fits_step names statements (s.Return what) rows = returned_fits names rows what

abbrev pub step_fits : Names → List Prepared → ProgramStep → List (List Class) → Bool
step_fits names statements = fold-ProgramStep (List (List Class) → Bool) (fits_step names statements)

abbrev pub names_of : Program → Names
names_of program = record { variables = program.variables; results = program.results }

-- ---- procedures

-- the class of a table's column
abbrev pub column_class : Option Column → Option Class
column_class None = None
column_class (Some column) = Some (class_of column.kind)

abbrev pub param_class : Option ColType → Option Class
param_class None = None
param_class (Some kind) = Some (class_of kind)

abbrev pub are_same : Option Class → Option Class → Bool
are_same (Some c) other = is_class c other
are_same None other = false

abbrev pub is_number : ℕ → Option ℕ → Bool
is_number n None = false
is_number n (Some m) = m == n

-- A procedure runs on the partition of a parameter, which is of the class of the table's partitioning column.
abbrev pub part_fits : Contents → List ColType → Option (ℕ × ℕ × ℕ) → Bool
part_fits catalog params None = true
part_fits catalog params (Some part) =
    let table = table_at catalog part.0 in
    is_number part.1 table.part && are_same (param_class (slice_get params part.2)) (column_class (slice_get table.columns part.1))

pub record IsProcedure (catalog : Contents) (def : ProcDef) (program : Program) : Type 0 where
  -- the parameters are the first variables
  pub variables : List Class
  pub params : program.variables ≡ map class_of def.params ++ variables
  pub part : part_fits catalog def.params def.part ≡ true
  pub statements : AllByRecursion (IsStatement catalog (is_some def.part)) program.statements
  pub steps : list_all (λ step. step_fits (names_of program) program.statements step []) program.steps ≡ true

pub record IsPlan (plan : Plan) : Type 0 where
  pub catalog : IsCatalog plan.catalog
  pub some_part : 1 ≤ plan.parts
  pub few_parts : plan.parts ≤ 32
  pub procs : AllByRecursion (λ proc. IsProcedure plan.catalog proc.0 proc.1) plan.procs
