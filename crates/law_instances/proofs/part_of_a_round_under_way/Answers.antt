use Rattle.std.proofs.Common.{refl, take, drop, inl}
use Rattle.std.specs.Prelude.{[], ◌∷◌}
use Rattle.cluster_model.specs.Scenarios.InitiatorLostBehindDone as behind_done
use Rattle.law_instances.specs.Instances.{asked}
use Rattle.law_instances.proofs.Worlds.{reached-first}
use Rattle.law_instances.proofs.part_of_a_round_under_way.Goals as goal

pub returns : goal.returns
returns c =
    let s = c.initiator_lost_behind_done.ensures in
    let on = c.runs_lead_on.ensures.on behind_done.start (take 37 behind_done.events) (drop 37 behind_done.events) s.run in
    let reached = c.runs_lead_on.ensures.reached behind_done.input behind_done.start asked (reached-first behind_done.input s.input) on.0 in
    c.answers_of_rounds_are_of_firm_entries.ensures behind_done.input asked 3 0 1 1 (10 ∷ []) _ reached (inl refl) refl
