use Rattle.std.proofs.Common.{refl, inl, []}
use Rattle.std.specs.Prelude.{◌∷◌}
use Rattle.volt_wire.specs.declared.actor.Actor.TheVariants.{Agent}
use Rattle.volt_wire.specs.declared.end.End.TheVariants as end
use Rattle.volt_wire.specs.declared.event.Event.TheVariants.{Deliver}
use Rattle.cluster_model.specs.Environment.{NoFault}
use Rattle.cluster_model.specs.Scenarios.AskedAgainBehindRecovery as behind_recovery
use Rattle.cluster_model.specs.Toy.{gives}
use Rattle.law_instances.specs.Instances.{moved, moved_told, moves}
use Rattle.law_instances.proofs.Premises.{moves-run}
use Rattle.law_instances.proofs.Worlds.{reached-last, runs-on}
use Rattle.law_instances.proofs.reply_of_an_initiator.Goals as goal

pub returns : goal.returns
returns c =
    let s = c.asked_again_behind_recovery.ensures in
    let reached = reached-last behind_recovery.input moves s.input moves-run in
    let next = c.runs_lead_on.ensures.reached behind_recovery.input moved moved_told reached (runs-on moved ((Deliver (Agent 1) (Agent 0), NoFault) ∷ []) (refl, tt)) in
    let laws = c.answers_of_initiators_are_of_firm_entries.ensures in
    record {
      run = moves-run;
      ends = laws.ends behind_recovery.input moved 0 1 3 (end.Ok (gives 6)) _ reached (inl refl) refl;
      applied = laws.applied behind_recovery.input moved 0 1 3 (end.Ok (gives 6)) _ 0 reached (inl refl) refl refl;
      told = c.answers_to_clients_are_of_firm_entries.ensures behind_recovery.input moved_told 1 2 3 (end.Ok (gives 6)) _ next (inl refl) refl;
    }
