use Rattle.std.proofs.Common.{◌≤◌, ◌++◌, drop}
use Rattle.volt_io.specs.States.{SinkTakesAllBut}
use Rattle.volt_cmd.specs.Prints.{last_lines}
use Rattle.volt_cmd.proofs.writing.write_last_lines.Given as goal

-- all is written but what is held, the lines of the events that are left, and the last line
abbrev pub invariant-loop-event : goal.invariant-loop-event
invariant-loop-event g l =
    SinkTakesAllBut (g.K.Sink.state l.fn.sink) (g.K.Sink.state l.sink) (last_lines l.trace) (l.buffer ++ last_lines (drop l.event-index l.trace))
    × ((g.K.Sink.state l.fn.sink).faults ≤ (g.K.Sink.state l.sink).faults)
