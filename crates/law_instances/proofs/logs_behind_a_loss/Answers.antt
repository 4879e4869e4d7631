use Rattle.law_instances.proofs.logs_behind_a_loss.Goals as goal
use Rattle.cluster_model.specs.Scenarios.InitiatorLostBehindDone as behind_done
use Rattle.law_instances.proofs.Worlds.{reached-last, reached-first, runs-in-epoch}
use Rattle.law_instances.proofs.Premises.{copies-of-two, leads-two}

pub returns : goal.returns
returns c =
    let s = c.initiator_lost_behind_done.ensures in
    let last = reached-last behind_done.input behind_done.events s.input s.run in
    let first = reached-first behind_done.input s.input in
    record {
      follows = c.copies_follow_their_leader.ensures behind_done.input behind_done.last 5 4 last copies-of-two leads-two;
      firm = c.firm_entries_are_everywhere.ensures behind_done.input behind_done.last 5 4 last copies-of-two;
      comparable = c.copies_are_comparable.ensures behind_done.input behind_done.last 5 4 last copies-of-two;
      kept = c.firm_entries_are_never_lost.ensures behind_done.input behind_done.start behind_done.last 2 first
          (runs-in-epoch behind_done.start behind_done.events s.run search);
      authoritative = c.leaders_agree_with_the_authoritative_log.ensures behind_done.input behind_done.last 4 last leads-two;
      history = c.logs_have_a_history.ensures behind_done.input behind_done.last last;
    }
