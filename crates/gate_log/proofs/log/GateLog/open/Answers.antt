use Rattle.std.proofs.Common.{◌≡◌, length, sym, refl, ap, ◌∙◌, arith, rules}
use Rattle.std.proofs.lemmas.Result.{err_from_is_err_and}
use Rattle.volt_disk.specs.File.{seen}
use Rattle.gate_log.specs.Batches.{batches}
use Rattle.gate_log.proofs.CallLemmas.{AtMostCalls-chain, AtMostCalls-all, Increased-after}
use Rattle.gate_log.proofs.Opened.{cleared-holds, cleared-ready, seen-synced}
use Rattle.gate_log.proofs.log.GateLog.open.Goals as goal

pub returns-clause-ready : goal.returns-clause-ready
returns-clause-ready g c t =
    let same : c.deref-2.result.now ≡ c.deref.result.now = c.deref-2.ensures.value ∙ sym c.deref.ensures.value in
    let len : c.len.result ≡ length c.deref.result.now = search rules in
    cleared-ready _ c.len_of_batches-end.result c.deref.result.now _ c.len_of_batches-end.ensures
    (rw same at c.in_ok-clear_rest.ensures.cleared t) refl len

pub returns-clause-holds : goal.returns-clause-holds
returns-clause-holds g c t image is =
    let same : c.deref-2.result.now ≡ c.deref.result.now = c.deref-2.ensures.value ∙ sym c.deref.ensures.value in
    let read = c.deref.ensures.value ∙ c.in_ok-bytes.ensures.bytes t in
    cleared-holds c.len_of_batches-end.result c.deref.result.now _ c.len_of_batches-end.ensures (rw same at c.in_ok-clear_rest.ensures.cleared t) image is
    ∙ ap batches (read ∙ seen-synced _ _ (c.requires.listed t) (c.in_ok-sync.ensures.synced t))

pub returns-clause-before : goal.returns-clause-before
returns-clause-before g c t image is =
    (seen (g.D.Disk.told c.args.disk.now c.args.file), c.in_ok-sync.ensures.image t, returns-clause-holds g c t image is)

pub returns-in_err-bytes-clause-calls : goal.returns-in_err-bytes-clause-calls
returns-in_err-bytes-clause-calls g c =
    let first = c.in_ok-sync.ensures.counted in
    let second = c.in_err-bytes.ensures.calls in
    let p = err_from_is_err_and c.from_residual-in_err-bytes.result c.from_residual-in_err-bytes.ensures.1 in
    record {
      calls = AtMostCalls-chain 1 2 7 _ _ _ (AtMostCalls-all 1 1 _ _ first.moves (omega arith)) second.calls (omega arith);
      increases = λ failed. Increased-after _ _ _ first.never_falls second.never_falls (second.increases (cc (failed, p.1, p.2)));
      never_falls = let low = first.never_falls in let high = second.never_falls in omega arith;
    }

pub returns-in_err-clear_rest-clause-calls : goal.returns-in_err-clear_rest-clause-calls
returns-in_err-clear_rest-clause-calls g c =
    let first = c.in_ok-sync.ensures.counted in
    let second = c.in_ok-bytes.ensures.calls in
    let third = c.in_err-clear_rest.ensures.calls in
    let p = err_from_is_err_and c.from_residual-in_err-clear_rest.result c.from_residual-in_err-clear_rest.ensures.1 in
    record {
      calls = AtMostCalls-chain 3 4 7 _ _ _ (AtMostCalls-chain 1 2 3 _ _ _ (AtMostCalls-all 1 1 _ _ first.moves (omega arith)) second.calls (omega arith)) third.calls (omega arith);
      increases = λ failed.
          Increased-after _ _ _ (let low = first.never_falls in let mid = second.never_falls in omega arith) third.never_falls (third.increases (cc (failed, p.1, p.2)));
      never_falls = let low = first.never_falls in let mid = second.never_falls in let high = third.never_falls in omega arith;
    }

pub returns-clause-calls : goal.returns-clause-calls
returns-clause-calls g c =
    let first = c.in_ok-sync.ensures.counted in
    let second = c.in_ok-bytes.ensures.calls in
    let third = c.in_ok-clear_rest.ensures.calls in
    record {
      calls = AtMostCalls-chain 3 4 7 _ _ _ (AtMostCalls-chain 1 2 3 _ _ _ (AtMostCalls-all 1 1 _ _ first.moves (omega arith)) second.calls (omega arith)) third.calls (omega arith);
      increases = λ failed. absurd (cc);
      never_falls = let low = first.never_falls in let mid = second.never_falls in let high = third.never_falls in omega arith;
    }
