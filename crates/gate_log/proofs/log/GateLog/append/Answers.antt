use Rattle.std.proofs.Common.{◌≡◌, ◌+◌, ◌^◌, ◌<◌, ◌≤◌, length, drop, Err, ap, refl, arith, length-drop, rules}
use Rattle.std.proofs.lemmas.Result.{err_from_is_err_and}
use Rattle.volt_base.specs.Spelling.{body_bytes}
use Rattle.gate_log.proofs.CallLemmas.{MakesCalls-then}
use Rattle.gate_log.proofs.Append.{append-written, append-behind, append-gate, append-ready}
use Rattle.gate_log.proofs.log.GateLog.append.Goals as goal

pub returns-in_err-write_behind_gate-clause-partly : goal.returns-in_err-write_behind_gate-clause-partly
returns-in_err-write_behind_gate-clause-partly g c =
    let p = err_from_is_err_and c.from_residual.result c.from_residual.ensures.1 in
    rw p.1 (λ t. append-behind c.args.self.now _ _ (drop 4 c.args.batch.now) (c.requires.ready t) (c.in_err-write_behind_gate.ensures.partly t))

pub returns-in_err-write_gate-clause-partly : goal.returns-in_err-write_gate-clause-partly
returns-in_err-write_gate-clause-partly g c =
    let p = err_from_is_err_and c.from_residual-in_err-write_gate.result c.from_residual-in_err-write_gate.ensures.1 in
    let short : length (drop 4 c.args.batch.now) < 2 ^ 32 = let b = c.requires.body in simp length-drop (omega arith) in
    let e : length c.put_length.new.batch ≡ length (body_bytes (drop 4 c.args.batch.now)) = ap length c.put_length.ensures.spelled in
    let no_shorter : c.args.self.now.size ≤ c.max-size.result = search rules in
    let has_room : c.args.self.now.end + 1 + length c.put_length.new.batch ≤ c.max-size.result = search rules in
    rw p.1 (λ t.
    let size = (c.requires.ready t).size in
    append-gate c.args.self.now _ _ _ c.max-size.result (drop 4 c.args.batch.now) (c.requires.ready t) short (omega arith) (omega arith)
    (rw c.put_length.ensures.spelled at c.in_ok-write_behind_gate.ensures.written t) (c.in_err-write_gate.ensures.partly t))

pub returns-clause-written : goal.returns-clause-written
returns-clause-written g c t =
    let short : length (drop 4 c.args.batch.now) < 2 ^ 32 = let b = c.requires.body in simp length-drop (omega arith) in
    let e : length c.put_length.new.batch ≡ length (body_bytes (drop 4 c.args.batch.now)) = ap length c.put_length.ensures.spelled in
    let no_shorter : c.args.self.now.size ≤ c.max-size.result = search rules in
    let has_room : c.args.self.now.end + 1 + length c.put_length.new.batch ≤ c.max-size.result = search rules in
    let size = (c.requires.ready t).size in
    append-written c.args.self.now _ _ _ c.max-size.result (drop 4 c.args.batch.now) (c.requires.ready t) short (omega arith) (omega arith)
    (rw c.put_length.ensures.spelled at c.in_ok-write_behind_gate.ensures.written t) (c.in_ok-write_gate.ensures.written t)

pub returns-clause-ready : goal.returns-clause-ready
returns-clause-ready g c t =
    let short : length (drop 4 c.args.batch.now) < 2 ^ 32 = let b = c.requires.body in simp length-drop (omega arith) in
    let e : length c.put_length.new.batch ≡ length (body_bytes (drop 4 c.args.batch.now)) = ap length c.put_length.ensures.spelled in
    let no_shorter : c.args.self.now.size ≤ c.max-size.result = search rules in
    let has_room : c.args.self.now.end + 1 + length c.put_length.new.batch ≤ c.max-size.result = search rules in
    let size = (c.requires.ready t).size in
    append-ready c.args.self.now _ _ _ _ c.max-size.result (drop 4 c.args.batch.now) (c.requires.ready t) short (omega arith) (omega arith)
    (rw c.put_length.ensures.spelled at c.in_ok-write_behind_gate.ensures.written t) (c.in_ok-write_gate.ensures.written t)
    (omega arith) refl

pub returns-in_err-write_gate-clause-calls : goal.returns-in_err-write_gate-clause-calls
returns-in_err-write_gate-clause-calls g c =
    let p = err_from_is_err_and c.from_residual-in_err-write_gate.result c.from_residual-in_err-write_gate.ensures.1 in
    let first = c.in_ok-write_behind_gate.ensures.calls in
    rw (p.1, p.2)
    (MakesCalls-then 3 2 5 (Err c.in_err-write_gate.field-0.0) (g.D.Disk.power c.args.disk.now) _ _ (g.D.Disk.count c.args.disk.now) _ _ first.all first.never_falls c.in_err-write_gate.ensures.calls (omega arith))
