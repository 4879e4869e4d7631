use Rattle.std.proofs.Common.{◌<◌, length, ap, sym, ◌∙◌, arith}
use Rattle.row_codec.specs.Faults.{least, value_fault}
use Rattle.row_codec.proofs.RowLemmas.{fault_more}
use Rattle.row_codec.proofs.layout.RowLayout.fault.Goals as goal

pub loop-column-preserved : goal.loop-column-preserved
loop-column-preserved c =
    let fields = c.self.inside.fields.items in
    let value = c.index-row-column.result in
    let within : c.loop-column.column < length fields = omega (arith, ap length c.self.view_is, c.requires) in
    c.least-fault.ensures ∙ ap (least c.loop-column.fault) c.fault_of.ensures
    ∙ ap (λ f. least f (value_fault c.index.result.now value)) c.loop-column.invariant
    ∙ sym (fault_more fields c.args.row.now c.loop-column.column c.index.result.now value within c.loop-column-test.true c.index.ensures c.index-row-column.is)
