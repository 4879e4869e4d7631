use Rattle.std.proofs.Common.{◌≡◌, ◌++◌, drop, map}
use Rattle.ddl_define.specs.Procedures as spec
use Rattle.ddl_define.proofs.procedures.+note_step.Given as goal

abbrev pub invariant-note_steps-loop-step : goal.invariant-note_steps-loop-step
invariant-note_steps-loop-step l = l.tables ++ spec.all_tables (map spec.tables_in_step (drop l.step-index l.steps)) ≡ l.fn.tables ++ spec.all_tables (map spec.tables_in_step l.fn.steps)
