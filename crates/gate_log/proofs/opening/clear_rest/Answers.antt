use Rattle.std.proofs.Common.{◌≡◌, ◌-◌, ◌<◌, length, replicate, rules, arith}
use Rattle.std.proofs.lemmas.Result.{err_from_is_err_and}
use Rattle.gate_log.proofs.CallLemmas.{AtMostCalls-chain, AtMostCalls-all, Increased-after}
use Rattle.gate_log.proofs.Opened.{close-failed, clear-failed, cleared}
use Rattle.gate_log.proofs.opening.clear_rest.Goals as goal

pub returns-in_err-close_gate-clause-partly : goal.returns-in_err-close_gate-clause-partly
returns-in_err-close_gate-clause-partly g c =
    let p = err_from_is_err_and c.from_residual-in_err-close_gate.result c.from_residual-in_err-close_gate.ensures.1 in
    let found = c.requires.read in
    let less : c.args.end < length c.args.bytes.now = search rules in
    rw p.1 (λ t. close-failed c.args.end c.args.bytes.now _ c.requires.read less c.in_err-close_gate.ensures.partly (c.in_err-close_gate.ensures.any t))

pub returns-in_err-write_and_sync-clause-partly : goal.returns-in_err-write_and_sync-clause-partly
returns-in_err-write_and_sync-clause-partly g c =
    let p = err_from_is_err_and c.from_residual-in_err-write_and_sync.result c.from_residual-in_err-write_and_sync.ensures.1 in
    let less : c.args.end < length c.args.bytes.now = search rules in
    let len : length c.deref.result.now ≡ length c.args.bytes.now - c.args.end - 1 = search rules in
    rw p.1 (λ t.
    let closed = c.in_ok-close_gate.ensures.closed t in
    clear-failed c.args.end closed.0 c.args.bytes.now c.deref.result.now _ _ c.requires.read less closed.1 closed.2 (omega arith)
    (c.in_err-write_and_sync.ensures.failed t))

pub returns-clause-cleared : goal.returns-clause-cleared
returns-clause-cleared g c t =
    let less : c.args.end < length c.args.bytes.now = search rules in
    let closed = c.in_ok-close_gate.ensures.closed t in
    let zeros : c.deref.result.now ≡ replicate (length c.args.bytes.now - c.args.end - 1) 0 = search rules in
    cleared c.args.end closed.0 (length c.args.bytes.now - c.args.end - 1) c.args.bytes.now _ _ c.requires.read less closed.1 closed.2 (omega arith)
    (rw zeros at c.in_ok-write_and_sync.ensures.written t)

pub returns-in_err-write_and_sync-clause-calls : goal.returns-in_err-write_and_sync-clause-calls
returns-in_err-write_and_sync-clause-calls g c =
    let before = c.in_ok-close_gate.ensures.calls in
    let after = c.in_err-write_and_sync.ensures.calls in
    record {
      calls = AtMostCalls-chain 2 2 4 _ _ _ before.calls after.some (omega arith);
      increases = λ failed. Increased-after _ _ _ before.never_falls after.never_falls after.increases;
      never_falls = omega arith;
    }

pub returns-clause-calls : goal.returns-clause-calls
returns-clause-calls g c =
    let before = c.in_ok-close_gate.ensures.calls in
    let after = c.in_ok-write_and_sync.ensures.calls in
    record {
      calls = AtMostCalls-chain 2 2 4 _ _ _ before.calls (AtMostCalls-all 2 2 _ _ after.all (omega arith)) (omega arith);
      increases = λ failed. absurd (cc);
      never_falls = omega arith;
    }
