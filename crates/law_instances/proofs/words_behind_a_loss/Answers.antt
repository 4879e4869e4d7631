use Rattle.law_instances.proofs.words_behind_a_loss.Goals as goal
use Rattle.cluster_model.specs.Scenarios.InitiatorLostBehindDone as behind_done
use Rattle.law_instances.proofs.Worlds.{reached-last, reached-first, runs-in-epoch}

pub returns : goal.returns
returns c =
    let s = c.initiator_lost_behind_done.ensures in
    let last = reached-last behind_done.input behind_done.events s.input s.run in
    let first = reached-first behind_done.input s.input in
    record {
      lost = c.lost_starts_are_stopped.ensures behind_done.input behind_done.last last;
      chain = λ m n. c.decided_words_form_a_chain.ensures behind_done.input behind_done.start behind_done.last m n first
          (runs-in-epoch behind_done.start behind_done.events s.run search);
      term = λ m n. c.a_term_names_one_decided_word.ensures behind_done.input behind_done.start behind_done.last m n first
          (runs-in-epoch behind_done.start behind_done.events s.run search);
      starts = λ m. c.one_start_per_host.ensures behind_done.input behind_done.last m last;
      history = c.words_have_a_history.ensures behind_done.input behind_done.last last;
    }
