use Rattle.std.proofs.Common.{◌∙◌, ap, arith}
use Rattle.volt_disk.specs.Power.{after_call}
use Rattle.gate_log.proofs.CallLemmas.{AtMostCalls-all}
use Rattle.snapshot_io.proofs.file.read_file.Goals as goal

pub returns-clause-calls : goal.returns-clause-calls
returns-clause-calls g c =
    let first = c.in_ok-size.ensures.counted in
    let second = c.in_ok-read_at.ensures.counted in
    record {
      calls = AtMostCalls-all 2 2 _ _ (second.moves ∙ ap after_call first.moves) (omega arith);
      increases = λ failed. absurd (cc);
      never_falls = let low = first.never_falls in let high = second.never_falls in omega arith;
    }
