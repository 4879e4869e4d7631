use Rattle.std.proofs.Common.{◌≡◌, ◌<◌, ◌++◌, List, length, take, ap, ap₂, sym, ◌∙◌, subst, arith}
use Rattle.std.proofs.lemmas.List.{take_all}
use Rattle.volt_value.specs.declared.value.Value.{Value}
use Rattle.volt_value.specs.Columns.{value_fits}
use Rattle.row_codec.specs.declared.field.Field.{Field}
use Rattle.row_codec.specs.Cells.{cell_bytes}
use Rattle.row_codec.specs.Faults.{columns_fault}
use Rattle.row_codec.specs.Packing.{packed, row_of, AreSound, IsTuple}
use Rattle.row_codec.proofs.RowLemmas.{fault_at, packed_more, sound_more, is_tuple}
use Rattle.row_codec.proofs.layout.RowLayout.pack.Goals as goal

pub put-requires : goal.put-requires
put-requires c =
    let fields = c.self.inside.fields.items in
    let row = c.args.row.now in
    let i = c.loop-column.column in
    let within : i < length fields = omega (arith, ap length c.self.view_is, c.requires.count) in
    let fits = fault_at fields row i c.index.result.now c.index-row-column.result (ap (λ fs. columns_fault fs row) c.self.view_is ∙ c.requires.fits) within c.loop-column-test.true in
    ap₂ (λ (f : Field) (v : Value). value_fits v f.kind) c.index.ensures c.index-row-column.is ∙ fits

pub loop-column-preserved : goal.loop-column-preserved
loop-column-preserved c =
    let fields = c.self.inside.fields.items in
    let value = c.index-row-column.result in
    let i = c.loop-column.column in
    let before = c.loop-column.invariant in
    let within : i < length fields = omega (arith, ap length c.self.view_is, c.requires.count) in
    record {
      packed = c.in_ok-put.ensures.packed ∙ ap (λ b. b ++ cell_bytes c.index.result.now.kind value) before.packed
          ∙ sym (packed_more fields c.args.row.now i c.index.result.now value within c.loop-column-test.true c.index.ensures c.index-row-column.is);
      sound = sound_more c.args.row.now i value c.loop-column-test.true c.index-row-column.is before.sound c.in_ok-put.ensures.sound;
    }

-- what is packed after the last column
whole : (c : goal.After-loop-column) → IsTuple c.args.self.now c.loop-column.into.items × (row_of c.args.self.now c.loop-column.into.items ≡ c.args.row.now)
whole c =
    let fields = c.self.inside.fields.items in
    let row = c.args.row.now in
    let before = c.loop-column.invariant in
    let end = c.loop-column.column in
    let fields-all : take end fields ≡ fields = take_all end fields (omega (arith, ap length c.self.view_is, c.requires.count)) in
    let row-all : take end row ≡ row = take_all end row (omega arith) in
    subst (λ (fs : List Field). IsTuple fs c.loop-column.into.items × (row_of fs c.loop-column.into.items ≡ row)) c.self.view_is
    (is_tuple fields row c.loop-column.into.items (before.packed ∙ ap₂ packed fields-all row-all) (omega (arith, ap length c.self.view_is, c.requires.count))
    (ap (λ fs. columns_fault fs row) c.self.view_is ∙ c.requires.fits) c.self.invariant.can_pack.limit (subst AreSound row-all before.sound))

pub returns-clause-tuple : goal.returns-clause-tuple
returns-clause-tuple c = (whole c).0

pub returns-clause-row : goal.returns-clause-row
returns-clause-row c = (whole c).1
