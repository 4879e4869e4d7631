use Rattle.std.proofs.Common.{◌≡◌, ◌*◌, ◌/◌, ◌<◌, false, length, sym, subst, arith}
use Rattle.cow_scan.specs.Cow.{Cow, is_shared_at}
use Rattle.pane_index.specs.Blocks.{all_slots, AreBlocksOf}
use Rattle.pane_index.proofs.SlotLemmas.{length-all_slots, are-grown, length-grown}
use Rattle.pane_index.proofs.rows.add_block.Goals as goal

pub put_owned-requires-clause-are_blocks : goal.put_owned-requires-clause-are_blocks
put_owned-requires-clause-are_blocks g c =
    let cow = c.args.cow.now in
    subst (λ (x : Cow). AreBlocksOf x.width x.blocks) (sym c.in_ok-n.ensures.added) (are-grown cow.width cow.blocks c.requires.are_blocks)

pub put_owned-requires-clause-place : goal.put_owned-requires-clause-place
put_owned-requires-clause-place g c =
    let cow = c.args.cow.now in
    let number = c.in_ok-n.ensures.number in
    subst (λ (x : Cow). c.in_ok-n.n * 64 < length (all_slots x.blocks)) (sym c.in_ok-n.ensures.added)
    (omega (arith, number, length-grown cow.width cow.blocks c.requires.are_blocks))

pub put_owned-requires-clause-owned : goal.put_owned-requires-clause-owned
put_owned-requires-clause-owned g c =
    let n = c.in_ok-n.n in
    let same : n ≡ n * 64 / 64 = omega arith in
    subst (λ k. is_shared_at c.add.new.self k ≡ false) same c.in_ok-n.ensures.owned

pub returns-clause-place : goal.returns-clause-place
returns-clause-place g c =
    let cow = c.args.cow.now in
    omega (arith, c.in_ok-n.ensures.number, length-all_slots cow.width cow.blocks c.requires.are_blocks)
