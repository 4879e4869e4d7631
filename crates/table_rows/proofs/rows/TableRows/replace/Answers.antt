use Rattle.std.proofs.Common.{List, Option, Some, IfSome, subst, true, false, Ok, sym, ap, ◌≡◌, ◌∙◌, is_some}
use Rattle.std.proofs.lemmas.Bool.{false≢true}
use Rattle.std.proofs.lemmas.Result.{err_from_is_err_and}
use Rattle.volt_value.specs.declared.value.Value.{Value}
use Rattle.row_codec.specs.Faults.{columns_fault}
use Rattle.row_codec.specs.Packing.{row_of, IsRow}
use Rattle.table_rows.specs.Order.{row_key}
use Rattle.table_rows.specs.Table.{first_of, updated, row_of_key, CanUpdate}
use Rattle.table_rows.specs.Standing.{keys_of, standing_table}
use Rattle.table_rows.specs.declared.keyed.KeyedIndex.{KeyedIndex}
use Rattle.table_rows.proofs.BackLemmas.{update_undone}
use Rattle.table_rows.proofs.ReadLemmas.{items_after, never_missing, update_refused, update_accepted, update_done}
use Rattle.table_rows.proofs.rows.TableRows.replace.Goals as goal

pub returns-in_err-old-in-Some-clause-missing : goal.returns-in_err-old-in-Some-clause-missing
returns-in_err-old-in-Some-clause-missing c = λ none.
    let held = rw c.as_slice.ensures.value at c.in-Some.ensures.held in
    let row = rw c.as_slice.ensures.value at c.in-Some.ensures.row in
    absurd (never_missing c.self.inside.slots c.self.inside.indexes.items c.in-Some.place c.args.key.now held row (rw (← c.self.view_is) at none))

pub returns-in_err-pack-in-Some-clause-missing : goal.returns-in_err-pack-in-Some-clause-missing
returns-in_err-pack-in-Some-clause-missing c = λ none.
    let held = rw c.as_slice.ensures.value at c.in-Some.ensures.held in
    let row = rw c.as_slice.ensures.value at c.in-Some.ensures.row in
    absurd (never_missing c.self.inside.slots c.self.inside.indexes.items c.in-Some.place c.args.key.now held row (rw (← c.self.view_is) at none))

pub returns-in_err-put_over-in-Some-clause-refused : goal.returns-in_err-put_over-in-Some-clause-refused
returns-in_err-put_over-in-Some-clause-refused c =
    let p = err_from_is_err_and c.from_residual-in_err-put_over-in-Some.result c.from_residual-in_err-put_over-in-Some.ensures.1 in
    let held = rw c.as_slice.ensures.value at c.in-Some.ensures.held in
    let packed = rw (c.layout.ensures.fields, ← c.as_slice-in-Some.ensures.value) at c.in_ok-pack-in-Some.ensures.row in
    let fits = rw c.layout.ensures.fields at c.in_ok-pack-in-Some.ensures.fits in
    let why = rw c.as_mut_slice.ensures.value at c.in_err-put_over-in-Some.ensures.refused in
    rw (p.1, p.2, ← c.self.view_is)
    (update_refused c.self.inside.slots c.put_over.new.slots c.self.inside.indexes.items c.put_over.new.indexes c.in-Some.place c.args.key.now c.args.row.now
    (row_of c.self.inside.slots.fields c.as_slice-in-Some.result.now) c.place_of.ensures.spread c.self.invariant held packed c.in_err-put_over-in-Some.field-0.0 fits why)

pub returns-in_err-put_over-in-Some-clause-missing : goal.returns-in_err-put_over-in-Some-clause-missing
returns-in_err-put_over-in-Some-clause-missing c = λ none.
    let held = rw c.as_slice.ensures.value at c.in-Some.ensures.held in
    let row = rw c.as_slice.ensures.value at c.in-Some.ensures.row in
    absurd (never_missing c.self.inside.slots c.self.inside.indexes.items c.in-Some.place c.args.key.now held row (rw (← c.self.view_is) at none))

pub returns-in_ok-put_over-in-Some-clause-updated : goal.returns-in_ok-put_over-in-Some-clause-updated
returns-in_ok-put_over-in-Some-clause-updated c =
    let held = rw c.as_slice.ensures.value at c.in-Some.ensures.held in
    let packed = rw (c.layout.ensures.fields, ← c.as_slice-in-Some.ensures.value) at c.in_ok-pack-in-Some.ensures.row in
    let free = rw c.as_mut_slice.ensures.value at c.in_ok-put_over-in-Some.ensures.free in
    let keys = rw c.as_mut_slice.ensures.value at c.put_over.ensures.keys in
    let stays = rw (← c.self.view_is) at c.requires.stays in
    rw (← c.self.view_is)
    (ap (standing_table c.put_over.new.slots) (items_after c.self.inside.indexes c.put_over.new.indexes keys)
    ∙ update_done c.self.inside.slots c.put_over.new.slots c.self.inside.indexes.items c.put_over.new.indexes c.in-Some.place c.args.key.now c.args.row.now
    (row_of c.self.inside.slots.fields c.as_slice-in-Some.result.now) c.place_of.ensures.spread c.self.invariant held packed stays c.in_ok-put_over-in-Some.ensures.put keys free)

pub returns-in_ok-put_over-in-Some-clause-accepted : goal.returns-in_ok-put_over-in-Some-clause-accepted
returns-in_ok-put_over-in-Some-clause-accepted c =
    let held = rw c.as_slice.ensures.value at c.in-Some.ensures.held in
    let packed = rw (c.layout.ensures.fields, ← c.as_slice-in-Some.ensures.value) at c.in_ok-pack-in-Some.ensures.row in
    let fits = rw c.layout.ensures.fields at c.in_ok-pack-in-Some.ensures.fits in
    let free = rw c.as_mut_slice.ensures.value at c.in_ok-put_over-in-Some.ensures.free in
    rw (← c.self.view_is)
    (update_accepted c.self.inside.slots c.put_over.new.slots c.self.inside.indexes.items c.put_over.new.indexes c.in-Some.place c.args.key.now c.args.row.now
    (row_of c.self.inside.slots.fields c.as_slice-in-Some.result.now) c.place_of.ensures.spread c.self.invariant held packed fits free)

pub returns-in_ok-put_over-in-Some-clause-missing : goal.returns-in_ok-put_over-in-Some-clause-missing
returns-in_ok-put_over-in-Some-clause-missing c = λ none.
    let held = rw c.as_slice.ensures.value at c.in-Some.ensures.held in
    let row = rw c.as_slice.ensures.value at c.in-Some.ensures.row in
    absurd (never_missing c.self.inside.slots c.self.inside.indexes.items c.in-Some.place c.args.key.now held row (rw (← c.self.view_is) at none))

pub returns-in_ok-put_over-in-Some-clause-back : goal.returns-in_ok-put_over-in-Some-clause-back
returns-in_ok-put_over-in-Some-clause-back c =
    let held = rw c.as_slice.ensures.value at c.in-Some.ensures.held in
    let row = rw c.as_slice.ensures.value at c.in-Some.ensures.row in
    let packed : row_of c.self.inside.slots.fields c.as_slice-in-Some.result.now ≡ c.args.row.now = rw (c.layout.ensures.fields, ← c.as_slice-in-Some.ensures.value) at c.in_ok-pack-in-Some.ensures.row in
    let fits : IsRow c.self.inside.slots.fields (row_of c.self.inside.slots.fields c.as_slice-in-Some.result.now) = (rw (c.layout.ensures.fields, ← c.as_slice-in-Some.ensures.value) at c.in_ok-pack-in-Some.ensures.tuple).row in
    let free = rw c.as_mut_slice.ensures.value at c.in_ok-put_over-in-Some.ensures.free in
    let keys = rw c.as_mut_slice.ensures.value at c.put_over.ensures.keys in
    let stays = rw (← c.self.view_is) at c.requires.stays in
    let old = c.in_ok-old-in-Some.old.items in
    let found : row_of_key (standing_table c.self.inside.slots c.self.inside.indexes.items) c.args.key.now ≡ Some old = row ∙ c.row.ensures ∙ ap Some (sym c.in_ok-old-in-Some.ensures) in
    rw (← c.self.view_is)
    (subst (λ (ls : List KeyedIndex). (updated (standing_table c.put_over.new.slots ls) old ≡ standing_table c.self.inside.slots c.self.inside.indexes.items) × CanUpdate (standing_table c.put_over.new.slots ls) old)
    (sym (items_after c.self.inside.indexes c.put_over.new.indexes keys))
    (subst (λ (o : Option (List Value)). IfSome o
    (λ r. (updated (standing_table c.put_over.new.slots c.put_over.new.indexes) r ≡ standing_table c.self.inside.slots c.self.inside.indexes.items) × CanUpdate (standing_table c.put_over.new.slots c.put_over.new.indexes) r)) found
    (update_undone c.self.inside.slots c.put_over.new.slots c.self.inside.indexes.items c.put_over.new.indexes c.in-Some.place c.args.key.now (row_of c.self.inside.slots.fields c.as_slice-in-Some.result.now)
    c.place_of.ensures.spread c.self.invariant held row (stays ∙ ap (row_key (first_of (keys_of c.self.inside.indexes.items))) (sym packed)) fits c.in_ok-put_over-in-Some.ensures.put keys free)))
