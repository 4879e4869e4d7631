use Rattle.law_instances.proofs.disks_behind_a_loss.Goals as goal
use Rattle.std.proofs.Common.{refl}
use Rattle.cluster_model.specs.Scenarios.InitiatorLostBehindDone as behind_done
use Rattle.law_instances.specs.Instances.{first_shown}
use Rattle.law_instances.proofs.Worlds.{reached-last, reached-first, runs-on}

pub returns : goal.returns
returns c =
    let s = c.initiator_lost_behind_done.ensures in
    record {
      survives = c.firm_entries_survive.ensures behind_done.input behind_done.start behind_done.last 2
          (reached-first behind_done.input s.input) (runs-on behind_done.start behind_done.events s.run);
      goes_on = c.no_choice_lacks_firm_entries.ensures behind_done.input behind_done.last first_shown 2
          (reached-last behind_done.input behind_done.events s.input s.run) refl;
    }
