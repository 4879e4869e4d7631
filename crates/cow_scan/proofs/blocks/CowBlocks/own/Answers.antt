use Rattle.std.proofs.Common.{sym, ap, ◌∙◌, set}
use Rattle.cow_scan.specs.State.{block_of, is_shared}
use Rattle.cow_scan.proofs.CowLemmas.{seen, seen-owned, seen-copied, block_at_read, shared_read}
use Rattle.cow_scan.proofs.blocks.CowBlocks.own.Goals as goal

pub returns-in_ok-fresh-clause-owned : goal.returns-in_ok-fresh-clause-owned
returns-in_ok-fresh-clause-owned g c =
    let width = c.self.inside.width in
    let n = c.args.n in
    let states = c.self.inside.states.items in
    let fresh = c.in_ok-fresh.fresh in
    let within = rw (← c.self.view_is) at c.requires in
    let same = block_at_read states n c.index.result.now within c.index.ensures fresh ∙ (ap block_of c.in-Shared.is ∙ sym (c.in_ok-fresh.ensures.equal ∙ c.deref.ensures)) in
    rw (← c.self.view_is) (ap (λ s. seen width (set states n s)) c.replace.ensures.after ∙ seen-copied width n states fresh fresh same)

pub returns-in_default-clause-owned : goal.returns-in_default-clause-owned
returns-in_default-clause-owned g c =
    let states = c.self.inside.states.items in
    let within = rw (← c.self.view_is) at c.requires in
    let owned = shared_read states c.args.n c.index.result.now within c.index.ensures ∙ ap is_shared c.in_default.is in
    rw (← c.self.view_is) (seen-owned c.self.inside.width c.args.n states owned)
