use Rattle.std.proofs.Common.{refl}
use Rattle.cluster_model.specs.Scenarios.LeaderLostBehindPut as behind_put
use Rattle.law_instances.specs.Instances.{asks, requested}
use Rattle.law_instances.proofs.Premises.{asks-run}
use Rattle.law_instances.proofs.Worlds.{reached-last}
use Rattle.law_instances.proofs.request_under_way.Goals as goal

pub returns : goal.returns
returns c =
    let s = c.leader_lost_behind_put.ensures in
    let r = reached-last behind_put.input asks s.input asks-run in
    record {
      run = asks-run;
      submitted = ((c.requests_are_as_they_were_submitted.ensures behind_put.input requested r).to_sites 1 0).0;
      greatest = c.a_pending_call_is_its_clients_greatest.ensures behind_put.input requested 2 _ r refl;
    }
