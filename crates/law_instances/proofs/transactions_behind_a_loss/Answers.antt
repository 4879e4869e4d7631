use Rattle.law_instances.proofs.transactions_behind_a_loss.Goals as goal
use Rattle.std.proofs.Common.{refl}
use Rattle.cluster_model.specs.Scenarios.InitiatorLostBehindDone as behind_done
use Rattle.law_instances.specs.Instances.{first_shown}
use Rattle.law_instances.proofs.Worlds.{reached-last}
use Rattle.law_instances.proofs.Premises.{host-1}

pub returns : goal.returns
returns c =
    let s = c.initiator_lost_behind_done.ensures in
    let last = reached-last behind_done.input behind_done.events s.input s.run in
    record {
      alike = c.a_call_ends_in_one_way.ensures behind_done.input behind_done.last 1 2 last refl refl;
      stands = c.an_applied_call_stands_or_is_open.ensures behind_done.input behind_done.last 1 2 last refl refl;
      recovered = c.recoveries_apply_a_call_in_all_partitions.ensures behind_done.input behind_done.last first_shown 1 2 last refl refl refl;
      closed = c.recoveries_go_on_with_closed_logs.ensures behind_done.input behind_done.last first_shown 1 last refl refl;
      points = c.points_never_fall.ensures behind_done.input behind_done.last 4 last refl;
      formed = c.logs_are_well_formed.ensures behind_done.input behind_done.last 4 last refl;
      initiator = λ h is. c.one_initiator_runs.ensures behind_done.input behind_done.last h 1 last is host-1;
    }
