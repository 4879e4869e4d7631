use Rattle.std.proofs.Common.{refl}
use Rattle.cluster_model.specs.Scenarios.LostAndRejoined as rejoined
use Rattle.law_instances.specs.Instances.{joins, loaded}
use Rattle.law_instances.proofs.Worlds.{reached-last}
use Rattle.law_instances.proofs.Premises.{joins-run, has-loaded, leads-alone, joined-to}
use Rattle.law_instances.proofs.loaded_joiner.Goals as goal

pub returns : goal.returns
returns c =
    let s = c.lost_and_rejoined.ensures in
    record {
      run = joins-run;
      follows = c.a_loaded_joiner_follows.ensures rejoined.input loaded 0 1
          (reached-last rejoined.input joins s.input joins-run) has-loaded leads-alone joined-to;
      log = refl;
    }
