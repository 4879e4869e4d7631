-- Statements keep to where their procedure runs.
use Rattle.std.specs.Prelude.{◌≡◌, Bool, true, false}
use Rattle.volt_catalog.specs.Rules.{Contents}
use Rattle.sql_plan.specs.declared.prepared.Prepared.{Prepared}
use Rattle.sql_plan.specs.declared.prepared.Scope.{Scope}
use Rattle.sql_plan.specs.declared.prepared.Scope.TheVariants.{OnePartition, AllPartitions, Replicated}
use Rattle.proc_lang.specs.Drafts.{may_not_write}

-- whether a statement of this scope stands in a procedure that runs on one partition, as `single` tells
abbrev pub keeps : Bool → Scope → Bool
keeps true OnePartition = true
keeps true AllPartitions = false
keeps true Replicated = false
keeps false OnePartition = false
keeps false AllPartitions = true
keeps false Replicated = true

pub record Suits (catalog : Contents) (single : Bool) (statement : Prepared) : Type 0 where
  pub scope : keeps single statement.scope ≡ true
  pub writes : may_not_write catalog single statement ≡ false
