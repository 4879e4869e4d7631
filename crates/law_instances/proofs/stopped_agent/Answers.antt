use Rattle.std.proofs.Common.{refl}
use Rattle.volt_wire.specs.declared.actor.Actor.TheVariants.{Director, Agent}
use Rattle.cluster_model.specs.Environment.{NoFault}
use Rattle.law_instances.specs.Instances.{stopping, heeding}
use Rattle.law_instances.proofs.stopped_agent.Goals as goal

pub returns : goal.returns
returns c =
    let law = c.a_stopped_agent_has_said_closed_last.ensures in
    record {
      closed = law.closed stopping 0 2 Director NoFault refl refl refl refl;
      silent = λ b. law.silent heeding 0 (Agent 1) b NoFault refl refl refl refl;
    }
