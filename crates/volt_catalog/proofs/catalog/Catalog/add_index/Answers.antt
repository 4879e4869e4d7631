use Rattle.std.proofs.Common.{◌≡◌, None, sym, ap, ◌∙◌, ◌++◌, ◌∷◌, [], refl}
use Rattle.volt_catalog.specs.Rules.{fault_of_index}
use Rattle.volt_catalog.proofs.CatalogLemmas.{index_is_new, held_with_index}
use Rattle.volt_catalog.proofs.catalog.Catalog.add_index.Goals as goal

pub invariant_of-self-2 : goal.invariant_of-self-2
invariant_of-self-2 c =
    let accepted : fault_of_index c.args.self.now c.args.i ≡ None = sym c.fault_of_index.ensures ∙ c.in_default.is in
    let fresh = index_is_new c.self.inside c.args.self.now c.args.i c.as_str.result.now c.in_ok-add.field-0 c.self.invariant c.self.view_is accepted c.as_str.ensures c.in_ok-add.ensures.fresh in
    held_with_index c.self.inside (record { alloc = c.self.inside.alloc; tables = c.self.inside.tables; indexes = c.push_reserved.new.self; table_names = c.self.inside.table_names; index_names = c.add.new.self })
    c.args.self.now c.args.i c.as_str.result.now c.self.invariant c.self.view_is accepted c.as_str.ensures
    refl (c.push_reserved.ensures.items ∙ ap (λ items. items ++ c.args.i ∷ []) c.reserve.ensures.items) refl (c.in_ok-add.ensures.added fresh)
