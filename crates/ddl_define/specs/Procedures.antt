-- What later definitions must know of a procedure: its name, and the tables that its statements name.
use Rattle.std.specs.Prelude.{ℕ, Bool, nat_le, List, [], ◌∷◌, ◌++◌, length, map, Option, Some, None}
use Rattle.std.specs.List.{list_any, flat_map}
use Rattle.volt_catalog.specs.declared.fault.CatalogFault.{CatalogFault}
use Rattle.volt_catalog.specs.declared.fault.CatalogFault.TheVariants.{DuplicateName, TooMany}
use Rattle.volt_catalog.specs.Names.{same_name}
use Rattle.volt_catalog.specs.Rules.{first_fault}
use Rattle.sql_parse.specs.declared.statement.SecondTable.{SecondTable}
use Rattle.sql_parse.specs.declared.statement.SecondTable.TheVariants.{Listed, Joined}
use Rattle.sql_parse.specs.declared.statement.Stmt.{Stmt}
use Rattle.sql_parse.specs.declared.statement.Stmt.TheVariants.{Insert, Update, Delete, Select}
use Rattle.ddl_parse.specs.declared.procedure.ProcBody.{ProcBody}
use Rattle.ddl_parse.specs.declared.procedure.ProcBody.TheVariants.{Statement, Program}
use Rattle.ddl_parse.specs.declared.procedure.ProcText.{ProcText}
use Rattle.ddl_parse.specs.declared.procedure.StepText.{StepText, fold-StepText}
use Rattle.ddl_parse.specs.declared.procedure.StepText.TheOpen.{StepText-F as s}
use Rattle.ddl_define.specs.declared.definitions.DefinedProcedure.{DefinedProcedure}

-- ---- the tables that statements name

abbrev pub tables_in_second : Option SecondTable → List (List ℕ)
tables_in_second None = []
tables_in_second (Some (Listed second)) = second.table ∷ []
tables_in_second (Some (Joined second on)) = second.table ∷ []

-- from left to right; a table that is named twice is there twice
abbrev pub tables_in : Stmt → List (List ℕ)
tables_in (Insert statement) = statement.table ∷ []
tables_in (Update statement) = statement.table ∷ []
tables_in (Delete statement) = statement.table ∷ []
tables_in (Select statement) = statement.first.table ∷ tables_in_second statement.second

-- of steps one behind another
abbrev pub all_tables : List (List (List ℕ)) → List (List ℕ)
all_tables steps = flat_map (λ tables. tables) steps

-- of a step, where those of the steps in it are known already
abbrev pub tables_step : s (List (List ℕ)) → List (List ℕ)
tables_step (s.Sql result statement) = tables_in statement
tables_step (s.If condition steps otherwise) = all_tables steps ++ all_tables otherwise
tables_step (s.For row result steps) = all_tables steps
tables_step _ = []

abbrev pub tables_in_step : StepText → List (List ℕ)
tables_in_step = fold-StepText (List (List ℕ)) tables_step

abbrev pub tables_in_body : ProcBody → List (List ℕ)
tables_in_body (Statement statement) = tables_in statement
tables_in_body (Program program) = all_tables (map tables_in_step program.steps)

abbrev pub procedure_from : ProcText → DefinedProcedure
procedure_from text = record { name = text.name; tables = tables_in_body text.body }

-- ---- the rules

-- how many procedures there may be
abbrev pub most_procedures : ℕ
most_procedures = 256

abbrev pub is_procedure : List DefinedProcedure → List ℕ → Bool
is_procedure procedures name = list_any (λ procedure. same_name name procedure.name) procedures

-- a statement of one of the procedures names this table
abbrev pub is_in_use : List DefinedProcedure → List ℕ → Bool
is_in_use procedures table = list_any (λ procedure. list_any (same_name table) procedure.tables) procedures

abbrev pub fault_of_procedure : List DefinedProcedure → ProcText → Option CatalogFault
fault_of_procedure procedures text = first_fault (
    (is_procedure procedures text.name, DuplicateName)
    ∷ (nat_le most_procedures (length procedures), TooMany)
    ∷ [])
