use Rattle.std.proofs.Common.{◌-◌, ◌≤◌, length, take}
use Rattle.volt_io.specs.States.{SinkTakes}
use Rattle.volt_io.proofs.transfer.write_all.Given as goal

abbrev pub invariant-loop-at : goal.invariant-loop-at
invariant-loop-at g l =
    (l.at ≤ length l.text) × SinkTakes (g.K.Sink.state l.fn.sink) (g.K.Sink.state l.sink) (take l.at l.text) × ((g.K.Sink.state l.fn.sink).faults ≤ (g.K.Sink.state l.sink).faults)

abbrev pub decreases-loop-at : goal.decreases-loop-at
decreases-loop-at g l = length l.text - l.at
