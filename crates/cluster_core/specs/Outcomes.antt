-- What there is to report of a world.
use Rattle.std.specs.Prelude.{◌≡◌}
use Rattle.volt_base.specs.Semantics.{Semantics}
use Rattle.one_host_model.specs.World.{World}
use Rattle.one_host_model.specs.Runs.{ended, copies, serial}
use Rattle.cluster_core.specs.declared.world.Outcomes.{Outcomes}

pub record TellsOutcomes (S : Semantics) (outcomes : Outcomes) (w : World) : Type 0 where
  pub ended : outcomes.ends.items ≡ ended w
  pub shown : outcomes.copies.items ≡ copies S w
  pub list : outcomes.serial.items ≡ serial S w
  pub events : outcomes.trace.items ≡ w.trace
