-- How a run of a program ends, step by step: a long run isn't evaluated at once.
use Rattle.std.proofs.Common.{◌≡◌, ℕ, ◌+◌, Bool, true, if◌then◌else◌, nat_lt, List, [], ◌∷◌, map, slice_get, Option, Some, None, Ok, ap, ◌∙◌}
use Rattle.volt_catalog.specs.Rules.{Contents}
use Rattle.sql_plan.specs.declared.expression.Scalar.{Scalar}
use Rattle.sql_plan.specs.declared.expression.Cond.{Cond}
use Rattle.sql_plan.specs.declared.prepared.Prepared.{Prepared}
use Rattle.sql_plan.specs.declared.program.Program.{Program}
use Rattle.sql_plan.specs.declared.program.ProgramStep.{ProgramStep}
use Rattle.sql_plan.specs.declared.program.ProgramStep.TheVariants.{Sql, If, Return}
use Rattle.sql_plan.specs.declared.program.ProgramValue.{ProgramValue}
use Rattle.sql_plan.specs.declared.program.Returned.TheVariants.{Values}
use Rattle.sql_plan.specs.declared.reply.ProcReply.{ProcReply}
use Rattle.sql_plan.specs.declared.reply.ProcReply.TheVariants as reply
use Rattle.sql_plan.specs.Rows.{Cells}
use Rattle.sql_meaning.specs.Judged.{collected}
use Rattle.sql_meaning.specs.Expressions.{scalar_of, holds}
use Rattle.sql_meaning.specs.Database.{Database}
use Rattle.sql_meaning.specs.Statements.{means}
use Rattle.sql_meaning.specs.Programs.{Talk, Returns, Known, Goes, arguments, most_steps, most_statements, or_abort, keep_rows, all_of, does}
use Rattle.sql_meaning.specs.Calls.{after_answer, settled, statement_means, answers_of}
use Rattle.sql_meaning.proofs.Meanings.{does_Sql, does_If, does_Return}

-- one step more
abbrev pub later : Known → Known
later known = record known { steps = known.steps + 1 }

-- one statement more, with its rows
abbrev pub with_answer : Known → Option ℕ → List Cells → Known
with_answer known result rows = keep_rows (record known { steps = known.steps + 1; statements = known.statements + 1 }) result rows

module _ (parts : ℕ) (catalog : Contents) (program : Program) where
  abbrev pub end : Talk → Database → Database × ProcReply
  end = settled (answers_of parts catalog None program)

  pub sql-ends : (n : ℕ) (args : List ProgramValue) (result : Option ℕ) (known : Known) (go : Goes) (db : Database) (statement : Prepared) (made : Database × List Cells)
      → nat_lt known.steps most_steps ≡ true → nat_lt known.statements most_statements ≡ true
      → slice_get program.statements n ≡ Some statement → means parts catalog None statement (arguments (later known) args) db ≡ Ok made
      → end (does (Sql n args result) known go) db ≡ end (go (with_answer known result made.1)) made.0
  sql-ends n args result known go db statement made more more' there done =
      ap (λ t. end t db) (does_Sql known go n args result)
      ∙ rw (more, more') (ap (after_answer db (λ answer later_db. end (or_abort answer (λ rows. go (with_answer known result rows))) later_db)) (ap (λ s. statement_means parts catalog None s (arguments (later known) args) db) there ∙ done))

  pub if-ends : (args : List ProgramValue) (condition : Cond) (xs ys : List ProgramStep) (b : Bool) (known : Known) (go : Goes) (db : Database)
      → nat_lt known.steps most_steps ≡ true → holds condition [] (arguments (later known) args) ≡ Ok b
      → end (does (If args condition xs ys) known go) db ≡ end (if b then all_of (map does xs) (later known) go else all_of (map does ys) (later known) go) db
  if-ends args condition xs ys b known go db more judged =
      ap (λ t. end t db) (does_If known go args condition xs ys)
      ∙ rw more (ap (λ r. end (or_abort r (λ is_true. if is_true then all_of (map does xs) (later known) go else all_of (map does ys) (later known) go)) db) judged)

  pub return-ends : (args : List ProgramValue) (values : List Scalar) (row : Cells) (known : Known) (go : Goes) (db : Database)
      → nat_lt known.steps most_steps ≡ true → collected (map (λ e. scalar_of e [] (arguments (later known) args)) values) ≡ Ok row
      → end (does (Return (Values args values)) known go) db ≡ (db, reply.Ok (record { rows = row ∷ [] }))
  return-ends args values row known go db more judged =
      ap (λ t. end t db) (does_Return known go (Values args values))
      ∙ rw more (ap (λ r. end (or_abort r (λ row. Returns (row ∷ []))) db) judged)
