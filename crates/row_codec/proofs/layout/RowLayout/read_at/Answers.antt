use Rattle.std.proofs.Common.{◌≡◌, ◌<◌, Some, length, sym, ap, ◌∙◌, arith, take}
use Rattle.std.specs.List.{slice_get}
use Rattle.std.proofs.lemmas.List.{get_or_read}
use Rattle.row_codec.specs.Packing.{row_width, row_of}
use Rattle.row_codec.proofs.RowLemmas.{cell_is, cell_ends, sound_at}
use Rattle.row_codec.proofs.layout.RowLayout.read_at.Goals as goal

pub slice_bounds-read-end : goal.slice_bounds-read-end
slice_bounds-read-end c =
    let fields = c.self.inside.fields.items in
    let begins = c.self.invariant.begins in
    let within : c.args.column < length fields = omega (arith, ap length c.self.view_is, c.requires.column) in
    let start : c.index-2.result.now ≡ row_width (take c.args.column fields) =
    get_or_read c.self.inside.offsets.items c.args.column c.index-2.result.now (omega (arith, begins.count)) c.index-2.ensures 0 ∙ begins.at c.args.column within in
    omega (arith, cell_ends fields c.args.column c.index.result.now c.index-2.result.now c.width_of.result within c.index.ensures start c.width_of.ensures, c.requires.tuple.width, ap row_width c.self.view_is)

pub read-requires-clause-sound : goal.read-requires-clause-sound
read-requires-clause-sound c =
    let fields = c.self.inside.fields.items in
    let tuple = c.args.tuple.now in
    let begins = c.self.invariant.begins in
    let within : c.args.column < length fields = omega (arith, ap length c.self.view_is, c.requires.column) in
    let start : c.index-2.result.now ≡ row_width (take c.args.column fields) =
    get_or_read c.self.inside.offsets.items c.args.column c.index-2.result.now (omega (arith, begins.count)) c.index-2.ensures 0 ∙ begins.at c.args.column within in
    sound_at (row_of c.args.self.now tuple) c.args.column _ c.requires.tuple.row.sound
    (ap (λ fs. slice_get (row_of fs tuple) c.args.column) (sym c.self.view_is)
    ∙ cell_is fields tuple c.args.column c.index.result.now c.index-2.result.now c.width_of.result within c.index.ensures start c.width_of.ensures)

pub returns : goal.returns
returns c =
    let fields = c.self.inside.fields.items in
    let tuple = c.args.tuple.now in
    let begins = c.self.invariant.begins in
    let within : c.args.column < length fields = omega (arith, ap length c.self.view_is, c.requires.column) in
    let start : c.index-2.result.now ≡ row_width (take c.args.column fields) =
    get_or_read c.self.inside.offsets.items c.args.column c.index-2.result.now (omega (arith, begins.count)) c.index-2.ensures 0 ∙ begins.at c.args.column within in
    ap (λ fs. slice_get (row_of fs tuple) c.args.column) (sym c.self.view_is)
    ∙ cell_is fields tuple c.args.column c.index.result.now c.index-2.result.now c.width_of.result within c.index.ensures start c.width_of.ensures
    ∙ ap Some (sym c.read.ensures)
