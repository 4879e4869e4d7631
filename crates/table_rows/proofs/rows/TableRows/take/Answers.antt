use Rattle.std.proofs.Common.{List, Option, Some, IfSome, ◌≡◌, sym, ap, ◌∙◌, subst}
use Rattle.volt_value.specs.declared.value.Value.{Value}
use Rattle.table_rows.specs.Table.{inserted, row_of_key, CanInsert}
use Rattle.table_rows.specs.declared.keyed.KeyedIndex.{KeyedIndex}
use Rattle.table_rows.proofs.BackLemmas.{delete_undone}
use Rattle.table_rows.specs.Standing.{standing_table}
use Rattle.table_rows.proofs.ReadLemmas.{items_after, delete_is, none_deleted}
use Rattle.table_rows.proofs.rows.TableRows.take.Goals as goal

pub returns-in_ok-take_out-in-Some-clause-deleted : goal.returns-in_ok-take_out-in-Some-clause-deleted
returns-in_ok-take_out-in-Some-clause-deleted c =
    let held = rw c.as_slice.ensures.value at c.in-Some.ensures.held in
    let keys = rw c.as_mut_slice.ensures.value at c.take_out.ensures.keys in
    rw (← c.self.view_is)
    (ap (standing_table c.take_out.new.slots) (items_after c.self.inside.indexes c.take_out.new.indexes keys)
    ∙ delete_is c.self.inside.slots c.take_out.new.slots c.self.inside.indexes.items c.take_out.new.indexes c.in-Some.place c.args.key.now
    c.place_of.ensures.spread c.self.invariant held c.in_ok-take_out-in-Some.ensures.taken keys)

pub returns-in-None-clause-deleted : goal.returns-in-None-clause-deleted
returns-in-None-clause-deleted c =
    let none = rw c.as_slice.ensures.value at c.in-None.ensures.row in
    rw (← c.self.view_is) (none_deleted (standing_table c.self.inside.slots c.self.inside.indexes.items) c.args.key.now none)

pub returns-in_ok-take_out-in-Some-clause-back : goal.returns-in_ok-take_out-in-Some-clause-back
returns-in_ok-take_out-in-Some-clause-back c =
    let held = rw c.as_slice.ensures.value at c.in-Some.ensures.held in
    let row = rw c.as_slice.ensures.value at c.in-Some.ensures.row in
    let keys = rw c.as_mut_slice.ensures.value at c.take_out.ensures.keys in
    let old = c.in_ok-row-in-Some.row.items in
    let found : row_of_key (standing_table c.self.inside.slots c.self.inside.indexes.items) c.args.key.now ≡ Some old = row ∙ c.row.ensures ∙ ap Some (sym c.in_ok-row-in-Some.ensures) in
    rw (← c.self.view_is)
    (subst (λ (ls : List KeyedIndex). (inserted (standing_table c.take_out.new.slots ls) old ≡ standing_table c.self.inside.slots c.self.inside.indexes.items) × CanInsert (standing_table c.take_out.new.slots ls) old)
    (sym (items_after c.self.inside.indexes c.take_out.new.indexes keys))
    (subst (λ (o : Option (List Value)). IfSome o
    (λ r. (inserted (standing_table c.take_out.new.slots c.take_out.new.indexes) r ≡ standing_table c.self.inside.slots c.self.inside.indexes.items) × CanInsert (standing_table c.take_out.new.slots c.take_out.new.indexes) r)) found
    (delete_undone c.self.inside.slots c.take_out.new.slots c.self.inside.indexes.items c.take_out.new.indexes c.in-Some.place c.args.key.now
    c.place_of.ensures.spread c.self.invariant held row c.in_ok-take_out-in-Some.ensures.taken keys)))
