use Rattle.std.proofs.Common.{◌≡◌, Some, sym, ◌∙◌, subst}
use Rattle.tuple_block.specs.Tuples.{slot_at}
use Rattle.pane_index.specs.Blocks.{all_slots}
use Rattle.pane_index.proofs.PaneLemmas.{IsPane-grow, held-grown}
use Rattle.pane_index.proofs.pane.Pane.add_behind.Goals as goal

pub invariant_of-self-2 : goal.invariant_of-self-2
invariant_of-self-2 c =
    let added = c.in_ok-p.ensures in
    IsPane-grow _ _ _ _ _ c.self.invariant c.add_block.new.cow c.in_ok-p.p c.args.tuple.now added.blocks (λ full. c.if-len-eq-MAX_BLOCKS.false (c.len.ensures ∙ full)) added.filled added.shape

pub returns-clause-held : goal.returns-clause-held
returns-clause-held c =
    let added = c.in_ok-p.ensures in
    subst (λ n. slot_at (all_slots c.add_block.new.cow.blocks) n ≡ Some c.args.tuple.now) (sym c.new-2.ensures)
    (held-grown _ _ _ _ _ c.self.invariant c.add_block.new.cow c.in_ok-p.p c.args.tuple.now added.blocks added.filled)
