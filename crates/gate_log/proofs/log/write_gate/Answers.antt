use Rattle.std.proofs.lemmas.Result.{on_err_weaker}
use Rattle.gate_log.proofs.Files.{gate-write_failed}
use Rattle.gate_log.proofs.log.write_gate.Goals as goal

pub returns-clause-partly : goal.returns-clause-partly
returns-clause-partly g c =
    on_err_weaker c.write_and_sync.result
    (λ failed t. gate-write_failed c.args.gate c.args.byte _ _ (c.requires.durable t) (c.requires.within t) (failed t))
    c.write_and_sync.ensures.failed
