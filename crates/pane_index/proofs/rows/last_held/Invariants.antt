use Rattle.std.proofs.Common.{◌*◌}
use Rattle.tuple_block.specs.Tuples.{IsFree}
use Rattle.pane_index.specs.Blocks.{all_slots}
use Rattle.pane_index.proofs.rows.last_held.Given as goal

abbrev pub invariant-loop-n : goal.invariant-loop-n
invariant-loop-n l = IsFree (all_slots l.cow.blocks) (64 * l.n) (64 * l.to)
