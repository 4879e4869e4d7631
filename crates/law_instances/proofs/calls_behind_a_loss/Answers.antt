use Rattle.law_instances.proofs.calls_behind_a_loss.Goals as goal
use Rattle.std.proofs.Common.{arith, refl}
use Rattle.cluster_model.specs.Scenarios.InitiatorLostBehindDone as behind_done
use Rattle.law_instances.specs.Instances.{first_shown}
use Rattle.law_instances.proofs.Worlds.{reached-last}

pub returns : goal.returns
returns c =
    let s = c.initiator_lost_behind_done.ensures in
    let last = reached-last behind_done.input behind_done.events s.input s.run in
    record {
      once = c.no_call_stands_twice.ensures behind_done.input behind_done.last 4 last refl;
      shared = c.a_call_runs_once.ensures behind_done.input behind_done.last 1 2 last refl refl (λ e. omega (arith, e));
      recovered = c.recoveries_apply_no_call_twice.ensures behind_done.input behind_done.last first_shown 1 last refl refl;
      recovered_shared = c.recoveries_run_a_call_once.ensures behind_done.input behind_done.last first_shown 1 2 last refl refl refl (λ e. omega (arith, e));
    }
