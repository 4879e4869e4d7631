-- What the steps of a program are compiled to, from the first to the last of its text.
use Rattle.std.specs.Prelude.{ℕ, nat_lt, Bool, not, if◌then◌else◌, List, [], ◌∷◌, length, unwrap_or, Option, Some, None}
use Rattle.volt_catalog.specs.Rules.{Contents}
use Rattle.ddl_parse.specs.declared.procedure.StepText.{StepText, fold-StepText}
use Rattle.ddl_parse.specs.declared.procedure.StepText.TheOpen.{StepText-F as s}
use Rattle.ddl_parse.specs.declared.procedure.ReturnText.{ReturnText}
use Rattle.ddl_parse.specs.declared.procedure.ReturnText.TheVariants as written
use Rattle.expr_parse.specs.declared.expression.Expr.{Expr}
use Rattle.sql_parse.specs.declared.statement.Stmt.{Stmt}
use Rattle.sql_plan.specs.declared.program.ProgramStep.{ProgramStep}
use Rattle.sql_plan.specs.declared.program.ProgramStep.TheVariants as step
use Rattle.sql_plan.specs.declared.program.Returned.{Returned}
use Rattle.sql_plan.specs.declared.program.Returned.TheVariants as returned
use Rattle.sql_resolve.specs.Bound.{Heads, result_named}
use Rattle.sql_resolve.specs.Expressions.{Meaning, meaning_of}
use Rattle.sql_resolve.specs.Notes.{nothing, limited}
use Rattle.sql_check.specs.declared.examined.Examined.{Examined}
use Rattle.sql_check.specs.Checked.{examined}
use Rattle.proc_lang.specs.declared.draft.Draft.{Draft}
use Rattle.proc_lang.specs.declared.steps.Branch.{Branch}
use Rattle.proc_lang.specs.declared.steps.Chosen.{Chosen}
use Rattle.proc_lang.specs.declared.fault.ProcFault.TheVariants.{BadType, UnboundName}
use Rattle.proc_lang.specs.Faults.{no_such_name}
use Rattle.proc_lang.specs.Drafts.{blamed, blamed_if, noted, with_variable, with_result, entered, left, with_statement}
use Rattle.proc_lang.specs.Values.{names_of, is_truth, may_be_truth, value_in, condition_in, values_in}

-- what was made, and then what is made behind it
abbrev pub with : {A B : Type 0} → Draft × A → (A → Draft → Draft × B) → Draft × B
with made go = go made.1 made.0

-- what a step is made to, and what is known behind it
abbrev pub Makes : Type 0
Makes = Draft → Draft × ProgramStep

-- ---- LET

-- the value is resolved before the variable is bound
abbrev pub let_made : List ℕ → Meaning → Makes
let_made name e draft =
    let value = value_in e nothing in
    with (with_variable name e.sort (noted value.0.fault (blamed_if (is_truth e.sort) BadType draft))) (λ n draft.
    (draft, step.Let n value.0.args value.1))

-- ---- SQL

-- how many statements a procedure may have; one behind these is a fault elsewhere
abbrev pub most_statements : ℕ
most_statements = 64

abbrev pub statement_number : ℕ → ℕ
statement_number n = if nat_lt n most_statements then n else 0

abbrev pub kept : Option (List ℕ) → Heads → Draft → Draft × Option ℕ
kept None heads draft = (draft, None)
kept (Some name) heads draft = with (with_result name heads draft) (λ n draft. (draft, Some n))

-- The statement was examined before the result is bound.
abbrev pub sql_found : Contents → Bool → Option (List ℕ) → Option Examined → Makes
sql_found catalog single name None draft = (blamed no_such_name draft, step.Sql 0 [] None)
sql_found catalog single name (Some found) draft =
    with (kept name found.prepared.columns draft) (λ result later.
    (with_statement catalog single found later, step.Sql (statement_number (length draft.statements)) found.args result))

abbrev pub sql_made : Contents → Bool → Option (List ℕ) → Stmt → Makes
sql_made catalog single name statement draft = sql_found catalog single name (examined catalog (Some draft.bound) statement single) draft

-- ---- steps in steps

abbrev pub all_made : List Makes → Draft → Draft × List ProgramStep
all_made [] draft = (draft, [])
all_made (make ∷ makes) draft = with (make draft) (λ made draft. with (all_made makes draft) (λ more draft. (draft, made ∷ more)))

-- a condition, and the values of the program that it takes
abbrev pub condition_made : Meaning → Draft → Draft × Chosen
condition_made e draft =
    let condition = condition_in e nothing in
    (noted condition.0.fault (blamed_if (not (may_be_truth e.sort)) BadType draft), record { args = condition.0.args; condition = condition.1 })

abbrev pub branch_made : Chosen → List Makes → Draft → Draft × Branch
branch_made chosen steps draft =
    with (all_made steps draft) (λ first draft. (draft, record { chosen = chosen; steps = first }))

abbrev pub otherwise_made : Branch → List Makes → Makes
otherwise_made branch otherwise draft =
    with (all_made otherwise draft) (λ second draft.
    (draft, step.If branch.chosen.args branch.chosen.condition branch.steps second))

-- what the first branch binds is bound in the other one and behind both
abbrev pub if_made : Meaning → List Makes → List Makes → Makes
if_made e steps otherwise draft =
    with (condition_made e draft) (λ chosen draft. with (branch_made chosen steps draft) (λ branch. otherwise_made branch otherwise))

abbrev pub for_over : List ℕ → Option ℕ → List Makes → Makes
for_over row result steps draft =
    with (all_made steps (entered row result draft)) (λ inner later.
    (left later, step.For (length draft.bound.rows) (unwrap_or result 0) inner))

abbrev pub for_made : List ℕ → List ℕ → List Makes → Makes
for_made row result steps draft = for_over row (result_named draft.bound result) steps draft

-- ---- RETURN

-- how many values a RETURN may have
abbrev pub most_values : ℕ
most_values = 255

abbrev pub result_returned : Option ℕ → Draft → Draft × Returned
result_returned None draft = (blamed UnboundName draft, returned.Nothing)
result_returned (Some n) draft = (draft, returned.Result n)

abbrev pub values_returned : List Expr → Draft → Draft × Returned
values_returned es draft =
    let values = values_in (names_of draft.bound) es nothing in
    (noted (limited most_values (length es) values.0).fault draft, returned.Values values.0.args values.1)

abbrev pub returned_of : ReturnText → Draft → Draft × Returned
returned_of written.Nothing draft = (draft, returned.Nothing)
returned_of (written.Result name) draft = result_returned (result_named draft.bound name) draft
returned_of (written.Values es) draft = values_returned es draft

abbrev pub return_made : ReturnText → Makes
return_made what draft = with (returned_of what draft) (λ r draft. (draft, step.Return r))

-- ---- all

-- a step whose inner steps are known already
abbrev pub make_step : Contents → Bool → s Makes → Makes
make_step catalog single (s.Let variable value) draft = let_made variable (meaning_of (names_of draft.bound) value) draft
make_step catalog single (s.Sql result statement) draft = sql_made catalog single result statement draft
make_step catalog single (s.If condition steps otherwise) draft = if_made (meaning_of (names_of draft.bound) condition) steps otherwise draft
make_step catalog single (s.For row result steps) draft = for_made row result steps draft
make_step catalog single (s.Abort text) draft = (draft, step.Abort text)
make_step catalog single (s.Return what) draft = return_made what draft

abbrev pub made : Contents → Bool → StepText → Makes
made catalog single = fold-StepText Makes (make_step catalog single)
