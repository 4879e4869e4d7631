use Rattle.std.proofs.Common.{◌∷◌, [], slice_index, length, false, ap, ◌∙◌, arith, length-append}
use Rattle.volt_value.specs.declared.column.ColType.TheVariants.{Tiny}
use Rattle.row_codec.specs.declared.field.Field.{Field}
use Rattle.row_codec.proofs.RowLemmas.{width_more, row_width_at, offsets_more}
use Rattle.row_codec.proofs.layout.offsets_of.Goals as goal

-- what is read where nothing is
no_field : Field
no_field = record { kind = Tiny; not_null = false }

pub overflow_add-end : goal.overflow_add-end
unfolding no_field
overflow_add-end c = omega (arith, row_width_at c.args.fields.now c.loop-column.column no_field c.loop-column-test.true, c.width_of-end.ensures, c.requires)

pub loop-column-preserved : goal.loop-column-preserved
unfolding no_field
loop-column-preserved c =
    let fields = c.args.fields.now in
    let i = c.loop-column.column in
    let before = c.loop-column.invariant in
    let items = c.in_ok-push.ensures.items in
    record {
      count = ap length items ∙ omega (arith, length-append c.loop-column.offsets.items (c.loop-column.end ∷ []), before.count);
      end = omega (arith, before.end, c.width_of-end.ensures, width_more fields i no_field c.loop-column-test.true);
      at = λ k below. ap (λ xs. slice_index xs k) items ∙ offsets_more fields c.loop-column.offsets.items i c.loop-column.end before.count before.end before.at k below;
    }
