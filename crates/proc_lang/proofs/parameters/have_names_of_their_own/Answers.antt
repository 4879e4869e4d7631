use Rattle.std.proofs.Common.{sym, ◌∙◌, true, false}
use Rattle.proc_lang.proofs.ListLemmas.{names_differ}
use Rattle.proc_lang.proofs.parameters.have_names_of_their_own.Goals as goal

pub returns-then-is_named : goal.returns-then-is_named
returns-then-is_named c =
    sym (names_differ c.args.parameters.now c.loop-place.place c.index-parameters-place.result c.is_named.result true c.loop-place-test.true c.is_named.ensures c.if-is_named.true)
    ∙ c.loop-place.invariant

pub loop-place-preserved : goal.loop-place-preserved
loop-place-preserved c =
    sym (names_differ c.args.parameters.now c.loop-place.place c.index-parameters-place.result c.is_named.result false c.loop-place-test.true c.is_named.ensures c.if-is_named.false)
    ∙ c.loop-place.invariant
