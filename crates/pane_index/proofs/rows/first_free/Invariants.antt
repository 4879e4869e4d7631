use Rattle.std.proofs.Common.{◌*◌}
use Rattle.tuple_block.specs.Tuples.{IsHeld}
use Rattle.pane_index.specs.Blocks.{all_slots}
use Rattle.pane_index.proofs.rows.first_free.Given as goal

abbrev pub invariant-loop-n : goal.invariant-loop-n
invariant-loop-n l = IsHeld (all_slots l.cow.blocks) (64 * l.from) (64 * l.n)
