use Rattle.std.proofs.Common.{◌+◌, ◌<◌, ◌∷◌, length, drop, sym, ap, ◌∙◌, arith, rules}
use Rattle.pane_index.specs.Rows.{held_from}
use Rattle.pane_index.specs.Blocks.{all_slots}
use Rattle.pane_index.proofs.PaneLemmas.{next_place-fits, next_place-is, no_next_place}
use Rattle.pane_index.proofs.places.PlacesIterator.next.Goals as goal

pub returns-in_err-p-clause-steps : goal.returns-in_err-p-clause-steps
returns-in_err-p-clause-steps c =
    let cow = c.self.inside.cow.now in
    let none = sym c.self.view_is ∙ no_next_place cow.width cow.blocks c.self.invariant.0 c.self.invariant.1 c.self.inside.at c.in_err-p.ensures in
    rw c.from_residual.ensures (none, none)

pub overflow_add-self : goal.overflow_add-self
overflow_add-self c =
    let cow = c.self.inside.cow.now in
    omega (arith, next_place-fits cow.width cow.blocks c.self.invariant.0 c.self.invariant.1 c.self.inside.at c.in_ok-p.p c.in_ok-p.ensures)

pub new-requires : goal.new-requires
new-requires c =
    let cow = c.self.inside.cow.now in
    next_place-fits cow.width cow.blocks c.self.invariant.0 c.self.invariant.1 c.self.inside.at c.in_ok-p.p c.in_ok-p.ensures

pub returns-clause-steps : goal.returns-clause-steps
returns-clause-steps c =
    let cow = c.self.inside.cow.now in
    let p = c.in_ok-p.p in
    let rest = held_from (p + 1) (drop (p + 1) (all_slots cow.blocks)) in
    sym c.self.view_is ∙ (next_place-is cow.width cow.blocks c.self.invariant.0 c.self.invariant.1 c.self.inside.at p c.in_ok-p.ensures ∙ ap (λ n. n ∷ rest) (sym c.new.ensures))

pub returns-clause-goes : goal.returns-clause-goes
returns-clause-goes c =
    let cow = c.self.inside.cow.now in
    let p = c.in_ok-p.p in
    let rest = held_from (p + 1) (drop (p + 1) (all_slots cow.blocks)) in
    let e = sym c.self.view_is ∙ next_place-is cow.width cow.blocks c.self.invariant.0 c.self.invariant.1 c.self.inside.at p c.in_ok-p.ensures in
    let shorter : length rest < length c.args.self.now = omega (arith, ap length e) in
    search (rules, shorter)
