use Rattle.std.proofs.Common.{◌+◌, ◌*◌, ◌%◌, ◌≤◌}
use Rattle.tuple_block.specs.Tuples.{IsFree}
use Rattle.pane_index.specs.Blocks.{all_slots}
use Rattle.pane_index.proofs.rows.next_held.Given as goal

abbrev pub invariant-loop-n : goal.invariant-loop-n
invariant-loop-n l =
    record {
      free : IsFree (all_slots l.cow.blocks) l.from (64 * l.n + l.at % 64);
      not_before : l.from ≤ 64 * l.n + l.at % 64;
    }
