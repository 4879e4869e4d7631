use Rattle.std.proofs.Common.{refl, take, drop, inl}
use Rattle.cluster_model.specs.Scenarios.InitiatorLostBehindDone as behind_done
use Rattle.volt_wire.specs.declared.end.End.TheVariants as end
use Rattle.cluster_model.specs.Toy.{gives}
use Rattle.law_instances.specs.Instances.{told}
use Rattle.law_instances.proofs.Worlds.{reached-first}
use Rattle.law_instances.proofs.answer_to_a_client.Goals as goal

pub returns : goal.returns
returns c =
    let s = c.initiator_lost_behind_done.ensures in
    let on = c.runs_lead_on.ensures.on behind_done.start (take 9 behind_done.events) (drop 9 behind_done.events) s.run in
    let reached = c.runs_lead_on.ensures.reached behind_done.input behind_done.start told (reached-first behind_done.input s.input) on.0 in
    c.answers_to_clients_are_of_firm_entries.ensures behind_done.input told 1 2 1 (end.Ok (gives 1)) _ reached (inl refl) refl
