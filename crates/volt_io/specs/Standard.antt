-- What went through a reader or a writer.
use Rattle.std.specs.Prelude.{ℕ, None, List}
use Rattle.volt_base.specs.Faults.{one_more}
use Rattle.volt_io.specs.Passed.{Passed, nothing_passed, then_passed}
use Rattle.volt_io.specs.States.{SourceState, SinkState}

pub record Traffic : Type 0 where
  -- what the reader gave, or what the writer took
  pub passed : Passed
  -- how many calls failed; past the greatest u64 it stays there
  pub faults : ℕ

-- before the first call
abbrev pub no_traffic : Traffic
no_traffic = record { passed = nothing_passed; faults = 0 }

-- after a call that moved these bytes
abbrev pub after_moving : Traffic → List ℕ → Traffic
after_moving s bytes = record s { passed = then_passed s.passed bytes }

-- after a call that failed
abbrev pub after_failing : Traffic → Traffic
after_failing s = record s { faults = one_more s.faults }

-- what is seen of it, as a source and as a sink. It doesn't tell what the reader will give.
abbrev pub as_source : Traffic → SourceState
as_source s = record { given = s.passed.bytes; ended = s.passed.ended; rest = None; faults = s.faults }

abbrev pub as_sink : Traffic → SinkState
as_sink s = record { taken = s.passed.bytes; faults = s.faults }
