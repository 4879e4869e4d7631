use Rattle.std.proofs.Common.{◌++◌, ◌∷◌, [], Some, ap, sym, ◌∙◌}
use Rattle.row_codec.specs.Packing.{row_of}
use Rattle.row_codec.proofs.RowLemmas.{take_got}
use Rattle.row_codec.proofs.layout.RowLayout.unpack.Goals as goal

pub loop-column-preserved : goal.loop-column-preserved
loop-column-preserved c =
    let row = row_of c.args.self.now c.args.tuple.now in
    let value = c.in_ok-to_value.field-0 in
    c.in_ok-push.ensures.items ∙ ap (λ vs. vs ++ value ∷ []) c.loop-column.invariant
    ∙ sym (take_got row c.loop-column.column value (c.read_at.ensures ∙ ap Some (sym c.in_ok-to_value.ensures)))
