use Rattle.proc_run.proofs.GoneLemmas.{if_ok}
use Rattle.proc_run.proofs.StepLemmas.{return_aborts}
use Rattle.proc_run.proofs.single.return_values.Goals as goal

pub returns : goal.returns
returns c = if_ok c.aborted.result
    (λ w aborts. return_aborts c.args.known.now c.args.places.now c.args.expressions.now c.in_ok-args.args.items c.as_slice.result.now c.in-Err.fault w _
    c.as_slice.ensures.value c.in_ok-args.ensures c.in-Err.ensures aborts)
    c.aborted.ensures
