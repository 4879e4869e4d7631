-- What a procedure is compiled to, or the fault of the least number of those that it has.
use Rattle.std.specs.Prelude.{ℕ, List, is_some, Option, Some, None, Result, Ok, Err}
use Rattle.volt_value.specs.declared.column.ColType.{ColType}
use Rattle.volt_catalog.specs.declared.procedure.ProcDef.{ProcDef}
use Rattle.volt_catalog.specs.Rules.{Contents}
use Rattle.ddl_parse.specs.declared.procedure.ProcText.{ProcText}
use Rattle.sql_plan.specs.declared.program.Program.{Program}
use Rattle.proc_lang.specs.declared.body.Body.{Body}
use Rattle.proc_lang.specs.declared.fault.ProcFault.{ProcFault}
use Rattle.proc_lang.specs.Faults.{least, no_such_name}
use Rattle.proc_lang.specs.Bodies.{body_of}
use Rattle.proc_lang.specs.Partition.{partition_of}

abbrev pub def_of : ProcText → List ColType → Option (ℕ × ℕ × ℕ) → ProcDef
def_of text kinds part = record { name = text.name; params = kinds; part = part }

abbrev pub accepted : Option ProcFault → ProcDef × Program → Result (ProcDef × Program) ProcFault
accepted None compiled = Ok compiled
accepted (Some fault) compiled = Err fault

-- accepted where neither what it does nor where it runs has a fault
abbrev pub answered : ProcText → Body → Result (Option (ℕ × ℕ × ℕ)) ProcFault → Result (ProcDef × Program) ProcFault
answered text body (Ok part) = accepted body.fault (def_of text body.params part, body.program)
answered text body (Err fault) = Err (least body.fault fault)

abbrev pub with_body : Contents → ProcText → Option Body → Result (ProcDef × Program) ProcFault
with_body catalog text None = Err no_such_name
with_body catalog text (Some body) = answered text body (partition_of catalog body.params text.partition)

-- where it runs on one partition, so does each of its statements
unfoldable pub compiled : Contents → ProcText → Result (ProcDef × Program) ProcFault
compiled catalog text = with_body catalog text (body_of catalog (is_some text.partition) text.body)
