use Rattle.sql_resolve.specs.Expressions.{meaning_of}
use Rattle.proc_lang.specs.Values.{names_of}
use Rattle.proc_lang.proofs.StepLemmas.{let_is}
use Rattle.proc_lang.proofs.statements.make_let.Goals as goal

pub returns : goal.returns
returns c = let_is c.args.variable.now (meaning_of (names_of c.args.draft.now.bound) c.args.e.now) c.args.draft.now _ _ _ _ _ _ _ _
    c.sort_in-sort.ensures c.is_truth.ensures c.in_ok-notes.ensures c.blame_if.ensures c.note.ensures c.in_ok-number.ensures
