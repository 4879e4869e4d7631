use Rattle.std.proofs.Common.{refl, inl}
use Rattle.volt_wire.specs.declared.end.End.TheVariants as end
use Rattle.cluster_model.specs.Scenarios.LeaderLostBehindPut as behind_put
use Rattle.cluster_model.specs.Toy.{gives}
use Rattle.law_instances.specs.Instances.{asks_again, given_again}
use Rattle.law_instances.proofs.Premises.{asks_again-run}
use Rattle.law_instances.proofs.Worlds.{reached-last}
use Rattle.law_instances.proofs.reply_given_again.Goals as goal

pub returns : goal.returns
returns c =
    let s = c.leader_lost_behind_put.ensures in
    record {
      run = asks_again-run;
      stands = c.replies_are_of_firm_entries.ensures behind_put.input given_again 1 1 1 (end.Ok (gives 1)) _
          (reached-last behind_put.input asks_again s.input asks_again-run) (inl refl) (_, refl);
    }
