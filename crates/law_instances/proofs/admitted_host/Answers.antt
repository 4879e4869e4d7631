use Rattle.std.proofs.Common.{refl}
use Rattle.cluster_model.specs.Scenarios.LostAndRejoined as rejoined
use Rattle.law_instances.specs.Instances.{joins, loaded, admits, admitted}
use Rattle.law_instances.proofs.Worlds.{reached-last, runs-in-epoch}
use Rattle.law_instances.proofs.Premises.{joins-run, admits-run}
use Rattle.law_instances.proofs.admitted_host.Goals as goal

pub returns : goal.returns
returns c =
    let s = c.lost_and_rejoined.ensures in
    let first = reached-last rejoined.input joins s.input joins-run in
    let law = c.initiators_and_leaders_change_only_by_loss.ensures in
    record {
      run = admits-run;
      members = refl;
      rises = λ m n. c.members_rise_as_they_were_admitted.ensures rejoined.input loaded admitted m n first (runs-in-epoch loaded admits admits-run search);
      initiator = λ m n. law.initiator rejoined.input loaded admitted m n first (runs-in-epoch loaded admits admits-run search);
      leaders = λ m n. law.leaders rejoined.input loaded admitted m n admitted.deployment first (runs-in-epoch loaded admits admits-run search);
    }
