-- What a statement is checked to be, or the fault of the least number of those that it has.
use Rattle.std.specs.Prelude.{Bool, Option, Some, None, Result, Ok, Err}
use Rattle.volt_catalog.specs.Rules.{Contents}
use Rattle.sql_parse.specs.declared.statement.Stmt.{Stmt}
use Rattle.sql_parse.specs.declared.statement.Stmt.TheVariants.{Insert, Update, Delete, Select}
use Rattle.sql_plan.specs.declared.prepared.Prepared.{Prepared}
use Rattle.sql_resolve.specs.declared.bound.Bound.{Bound}
use Rattle.sql_resolve.specs.declared.fault.CheckFault.{CheckFault}
use Rattle.sql_resolve.specs.declared.fault.CheckFault.TheVariants.{NoSuchName}
use Rattle.sql_check.specs.declared.examined.Examined.{Examined}
use Rattle.sql_check.specs.Statements.{examined_insert, examined_update, examined_delete}
use Rattle.sql_check.specs.SelectStatement.{examined_select}

-- a statement, which may stand in a program that has bound this, with its faults: nothing where a table that it names
-- isn't there
unfoldable pub examined : Contents → Option Bound → Stmt → Bool → Option Examined
examined catalog program (Insert insert) single = examined_insert catalog program insert single
examined catalog program (Update update) single = examined_update catalog program update single
examined catalog program (Delete delete) single = examined_delete catalog program delete single
examined catalog program (Select select) single = examined_select catalog program select single

-- it is accepted where it has no fault
abbrev pub accepted : Option CheckFault → Prepared → Result Prepared CheckFault
accepted None prepared = Ok prepared
accepted (Some fault) prepared = Err fault

unfoldable pub answered : Option Examined → Result Prepared CheckFault
answered None = Err NoSuchName
answered (Some found) = accepted found.fault found.prepared

-- a statement of its own
abbrev pub checked : Contents → Stmt → Bool → Result Prepared CheckFault
checked catalog statement single = answered (examined catalog None statement single)
