use Rattle.std.proofs.Common.{sym, ap, subst, ◌∙◌}
use Rattle.std.specs.List.{AllByRecursion}
use Rattle.std.specs.Option.{option_map}
use Rattle.table_rows.specs.Standing.{rows_at, IsHeldAt}
use Rattle.table_rows.proofs.ReadLemmas.{range_places, range_rows, index_at}
use Rattle.table_rows.proofs.rows.TableRows.range.Goals as goal

pub invariant_of-result : goal.invariant_of-result
invariant_of-result c =
    let from = option_map (λ key. key.now) c.args.from in
    let to = option_map (λ key. key.now) c.args.to in
    subst (AllByRecursion (IsHeldAt c.self.inside.slots.held)) (sym c.range.ensures)
    (range_places c.self.inside.slots c.self.inside.indexes.items c.args.number c.index.result.now from to c.rules.ensures c.self.invariant
    (index_at c.self.inside.indexes.items c.args.number c.index.result.now (rw (← c.self.view_is) at c.requires) c.index.ensures))

pub returns : goal.returns
returns c =
    let from = option_map (λ key. key.now) c.args.from in
    let to = option_map (λ key. key.now) c.args.to in
    rw (← c.self.view_is)
    (ap (rows_at c.self.inside.slots.held) c.range.ensures
    ∙ range_rows c.self.inside.slots c.self.inside.indexes.items c.args.number c.index.result.now from to c.rules.ensures c.self.invariant
    (index_at c.self.inside.indexes.items c.args.number c.index.result.now (rw (← c.self.view_is) at c.requires) c.index.ensures))
