use Rattle.std.proofs.Common.{arith}
use Rattle.pane_index.proofs.PaneLemmas.{length-slots, count_within}
use Rattle.pane_index.proofs.pane.Pane.is_worth_a_round.Goals as goal

pub overflow_sub-free : goal.overflow_sub-free
overflow_sub-free c = omega (arith, count_within _ _ _ _ _ c.self.invariant)

pub returns-then-blocks-eq-MAX_BLOCKS : goal.returns-then-blocks-eq-MAX_BLOCKS
returns-then-blocks-eq-MAX_BLOCKS c = rw (← c.self.view_is) (λ e. omega (arith, length-slots _ _ _ _ _ c.self.invariant, c.self.invariant.counted, c.len-blocks.ensures))

pub returns-else-blocks-eq-MAX_BLOCKS : goal.returns-else-blocks-eq-MAX_BLOCKS
returns-else-blocks-eq-MAX_BLOCKS c = rw (← c.self.view_is) (λ e. omega (arith, length-slots _ _ _ _ _ c.self.invariant, c.self.invariant.counted, c.len-blocks.ensures))
