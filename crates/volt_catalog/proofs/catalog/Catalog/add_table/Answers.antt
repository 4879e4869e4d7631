use Rattle.std.proofs.Common.{◌≡◌, None, sym, ap, ◌∙◌, ◌++◌, ◌∷◌, [], refl}
use Rattle.volt_catalog.specs.Rules.{fault_of_table}
use Rattle.volt_catalog.proofs.CatalogLemmas.{table_is_new, held_with_table}
use Rattle.volt_catalog.proofs.catalog.Catalog.add_table.Goals as goal

pub invariant_of-self-2 : goal.invariant_of-self-2
invariant_of-self-2 c =
    let accepted : fault_of_table c.args.self.now c.args.t ≡ None = sym c.in_ok-fault.ensures ∙ c.in_default.is in
    let fresh = table_is_new c.self.inside c.args.self.now c.args.t c.as_str.result.now c.in_ok-add.field-0 c.self.invariant c.self.view_is accepted c.as_str.ensures c.in_ok-add.ensures.fresh in
    held_with_table c.self.inside (record { alloc = c.self.inside.alloc; tables = c.push_reserved.new.self; indexes = c.self.inside.indexes; table_names = c.add.new.self; index_names = c.self.inside.index_names })
    c.args.self.now c.args.t c.as_str.result.now c.self.invariant c.self.view_is c.requires accepted c.as_str.ensures
    (c.push_reserved.ensures.items ∙ ap (λ items. items ++ c.args.t ∷ []) c.reserve.ensures.items) refl (c.in_ok-add.ensures.added fresh) refl
