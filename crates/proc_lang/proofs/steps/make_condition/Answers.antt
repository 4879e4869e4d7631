use Rattle.sql_resolve.specs.Expressions.{meaning_of}
use Rattle.proc_lang.specs.Values.{names_of}
use Rattle.proc_lang.proofs.StepLemmas.{condition_is}
use Rattle.proc_lang.proofs.steps.make_condition.Goals as goal

pub returns : goal.returns
returns c = condition_is (meaning_of (names_of c.args.draft.now.bound) c.args.e.now) c.args.draft.now _ _ _ _ _ _
    c.sort_in.ensures c.may_be_truth-is_condition.ensures c.in_ok-notes.ensures c.blame_if.ensures c.note.ensures
