use Rattle.std.proofs.Common.{◌≡◌, length}
use Rattle.snapshot_io.specs.Chunks.{AreBytes}
use Rattle.log_records.specs.Records.{records_of}
use Rattle.log_records.proofs.RecordLemmas.{records_before}
use Rattle.log_records.proofs.record.read_all.Given as goal

abbrev pub invariant-loop-rest : goal.invariant-loop-rest
invariant-loop-rest l = record {
  are_bytes : AreBytes l.rest;
  read : records_of l.bytes ≡ records_before l.records.items (records_of l.rest);
}

abbrev pub decreases-loop-rest : goal.decreases-loop-rest
decreases-loop-rest l = length l.rest
