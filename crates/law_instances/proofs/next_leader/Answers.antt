use Rattle.std.proofs.Common.{take, drop}
use Rattle.cluster_model.specs.Scenarios.InitiatorLostBehindDone as behind_done
use Rattle.law_instances.specs.Instances.{answered}
use Rattle.law_instances.proofs.Worlds.{reached-first}
use Rattle.law_instances.proofs.Premises.{leads-next}
use Rattle.law_instances.proofs.next_leader.Goals as goal

pub returns : goal.returns
returns c =
    let s = c.initiator_lost_behind_done.ensures in
    let on = c.runs_lead_on.ensures.on behind_done.start (take 8 behind_done.events) (drop 8 behind_done.events) s.run in
    let reached = c.runs_lead_on.ensures.reached behind_done.input behind_done.start answered (reached-first behind_done.input s.input) on.0 in
    let epoch = c.runs_lead_on.ensures.in_epoch behind_done.start (take 8 behind_done.events) (drop 8 behind_done.events) s.run search in
    c.later_leaders_have_what_was_firm.ensures behind_done.input answered behind_done.last 3 2 reached epoch leads-next
