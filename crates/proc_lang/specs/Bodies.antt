-- What a procedure does: a program, or a plain statement.
use Rattle.std.specs.Prelude.{ℕ, nat_lt, Bool, List, [], ◌∷◌, length, map, Option, Some, None}
use Rattle.std.specs.List.{range_with_len}
use Rattle.volt_value.specs.declared.column.Class.{Class}
use Rattle.volt_value.specs.declared.column.ColType.{ColType}
use Rattle.volt_catalog.specs.Rules.{Contents}
use Rattle.ddl_parse.specs.declared.procedure.ProcBody.{ProcBody}
use Rattle.ddl_parse.specs.declared.procedure.ProcBody.TheVariants as written
use Rattle.ddl_parse.specs.declared.procedure.ProgramText.{ProgramText}
use Rattle.sql_plan.specs.declared.prepared.Prepared.{Prepared}
use Rattle.sql_plan.specs.declared.program.Program.{Program}
use Rattle.sql_plan.specs.declared.program.ProgramStep.{ProgramStep}
use Rattle.sql_plan.specs.declared.program.ProgramStep.TheVariants as step
use Rattle.sql_plan.specs.declared.program.ProgramValue.{ProgramValue}
use Rattle.sql_plan.specs.declared.program.ProgramValue.TheVariants as value
use Rattle.sql_plan.specs.declared.program.Returned.TheVariants as returned
use Rattle.sql_resolve.specs.Bound.{Heads}
use Rattle.sql_check.specs.declared.examined.Examined.{Examined}
use Rattle.sql_check.specs.Checked.{examined}
use Rattle.proc_lang.specs.declared.body.Body.{Body}
use Rattle.proc_lang.specs.declared.draft.Draft.{Draft}
use Rattle.proc_lang.specs.declared.fault.ProcFault.TheVariants.{WritesReplicated}
use Rattle.proc_lang.specs.Faults.{too_many, worse_if, with_check}
use Rattle.proc_lang.specs.Drafts.{started, blamed_if, may_not_write}
use Rattle.proc_lang.specs.Parameters.{kinds_of, heads_of, fault_of, kind_for}
use Rattle.proc_lang.specs.Steps.{all_made, made, most_statements}

abbrev pub classes_of : Heads → List Class
classes_of heads = map (λ head. head.1) heads

-- ---- programs

abbrev pub program_with : List Class → List (List Class) → Draft → List ProgramStep → Program
program_with variables results draft steps = record {
  variables = variables;
  results = results;
  rows = draft.rows;
  statements = draft.statements;
  steps = steps;
}

abbrev pub program_of : Draft → List ProgramStep → Program
program_of draft = program_with (classes_of draft.bound.variables) (map (λ result. classes_of result.1) draft.bound.results) draft

-- not more statements than there may be
abbrev pub limited : Draft → Draft
limited draft = blamed_if (nat_lt most_statements (length draft.statements)) too_many draft

abbrev pub body_made : List ColType → Draft × List ProgramStep → Body
body_made kinds all = record { params = kinds; program = program_of (limited all.0) all.1; fault = (limited all.0).fault }

abbrev pub body_of_program : Contents → Bool → ProgramText → Body
body_of_program catalog single text =
    body_made (kinds_of text.parameters) (all_made (map (made catalog single) text.steps) (started (heads_of text.parameters) (fault_of text.parameters)))

-- ---- plain statements

-- the first variables, so many
abbrev pub variables_to : ℕ → List ProgramValue
variables_to count = map (λ n. value.Variable n) (range_with_len 0 count)

-- it runs with all parameters, and its rows are returned
abbrev pub plain_steps : ℕ → List ProgramStep
plain_steps count = step.Sql 0 (variables_to count) (Some 0) ∷ step.Return (returned.Result 0) ∷ []

abbrev pub plain : Prepared → Program
plain statement = record {
  variables = statement.params;
  results = classes_of statement.columns ∷ [];
  rows = 0;
  statements = statement ∷ [];
  steps = plain_steps (length statement.params);
}

abbrev pub body_of_statement : Contents → Bool → Examined → Body
body_of_statement catalog single found = record {
  params = map kind_for found.prepared.params;
  program = plain found.prepared;
  fault = worse_if (may_not_write catalog single found.prepared) WritesReplicated (with_check found.fault None);
}

abbrev pub body_found : Contents → Bool → Option Examined → Option Body
body_found catalog single None = None
body_found catalog single (Some found) = Some (body_of_statement catalog single found)

-- nothing where a plain statement names a table that isn't there
abbrev pub body_of : Contents → Bool → ProcBody → Option Body
body_of catalog single (written.Program text) = Some (body_of_program catalog single text)
body_of catalog single (written.Statement statement) = body_found catalog single (examined catalog None statement single)
