use Rattle.std.proofs.Common.{◌≡◌, None, sym, ◌∙◌, refl}
use Rattle.std.specs.Vec.{with_item}
use Rattle.volt_catalog.specs.Rules.{fault_of_partition}
use Rattle.volt_catalog.proofs.PartLemmas.{held_with_part, view_with_part, on}
use Rattle.volt_catalog.proofs.catalog.Catalog.partition.Goals as goal

pub invariant_of-self : goal.invariant_of-self
invariant_of-self c =
    let accepted : fault_of_partition c.args.self.now c.args.table c.args.column ≡ None = sym c.fault_of_partition.ensures ∙ c.in_default.is in
    held_with_part c.self.inside (record { alloc = c.self.inside.alloc; tables = with_item c.self.inside.tables c.args.table (on c.index_mut.result.now c.args.column); indexes = c.self.inside.indexes; table_names = c.self.inside.table_names; index_names = c.self.inside.index_names })
    c.args.self.now c.args.table c.args.column c.index_mut.result.now c.self.invariant c.self.view_is accepted c.index_mut.ensures.value refl refl refl refl

pub returns-clause-partitioned : goal.returns-clause-partitioned
returns-clause-partitioned c =
    let accepted : fault_of_partition c.args.self.now c.args.table c.args.column ≡ None = sym c.fault_of_partition.ensures ∙ c.in_default.is in
    view_with_part c.self.inside c.args.self.now c.args.table c.args.column c.index_mut.result.now c.self.view_is accepted c.index_mut.ensures.value
