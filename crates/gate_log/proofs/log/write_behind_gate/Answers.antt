use Rattle.std.proofs.lemmas.Result.{on_err_weaker}
use Rattle.std.proofs.Common.{◌+◌, arith}
use Rattle.gate_log.proofs.CallLemmas.{MakesCalls-then}
use Rattle.gate_log.proofs.Files.{behind-write_failed}
use Rattle.gate_log.proofs.log.write_behind_gate.Goals as goal

pub returns-clause-partly : goal.returns-clause-partly
returns-clause-partly g c =
    on_err_weaker c.write_and_sync.result
    (λ failed t. behind-write_failed (c.args.gate + 1) c.args.size (c.args.gate + 1) c.args.bytes.now _ _ _
    (c.requires.durable t) (c.in_ok-grow.ensures.grown t) (c.requires.grows t) (omega arith) c.requires.within (failed t))
    c.write_and_sync.ensures.failed

pub returns-clause-calls : goal.returns-clause-calls
returns-clause-calls g c =
    MakesCalls-then 1 2 3 c.write_and_sync.result _ _ _ _ _ _ c.in_ok-grow.ensures.counted.moves c.in_ok-grow.ensures.counted.never_falls c.write_and_sync.ensures.calls (omega arith)
