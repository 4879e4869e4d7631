use Rattle.std.proofs.Common.{◌≡◌, ◌+◌, ◌∷◌, [], map, drop, sym, ap, ◌∙◌}
use Rattle.std.proofs.lemmas.List.{map-append}
use Rattle.std.proofs.lemmas.Result.{err_from_is_err_and}
use Rattle.sql_meaning.specs.Judged.{collected}
use Rattle.sql_meaning.specs.Selects.{group_row}
use Rattle.sql_merge.specs.Joined.{collected_behind}
use Rattle.sql_merge.specs.Seen.{pair_of}
use Rattle.sql_merge.proofs.CollectedLemmas.{row-added, row-faulted, faulted}
use Rattle.sql_merge.proofs.outputs.group_rows.Goals as goal

pub returns-in_err-group_row : goal.returns-in_err-group_row
returns-in_err-group_row c =
    let p = err_from_is_err_and c.from_residual-in_err-group_row.result c.from_residual-in_err-group_row.ensures.1 in
    let outputs = c.args.outputs.now in
    let order = c.args.order.now in
    let groups = c.args.groups.now in
    let i = c.loop-group.group-index in
    let done = map pair_of c.loop-group.rows.items in
    rw (p.1, p.2) (faulted c.in_err-group_row.field-0.0 pair_of (λ rows. map pair_of rows.items) (group_row outputs order c.group-item.result) (collected (map (group_row outputs order) groups)) c.in_err-group_row.ensures
    (λ f e. sym c.loop-group.invariant ∙ row-faulted outputs order groups i c.group-item.result c.loop-group-test.true c.group-item.is done f e))

pub loop-group-preserved : goal.loop-group-preserved
loop-group-preserved c =
    let outputs = c.args.outputs.now in
    let order = c.args.order.now in
    let groups = c.args.groups.now in
    let i = c.loop-group.group-index in
    let rows = c.loop-group.rows.items in
    let row = c.in_ok-group_row.field-0 in
    ap (λ done. collected_behind done (map (group_row outputs order) (drop (i + 1) groups))) (ap (map pair_of) c.in_ok-push.ensures.items ∙ map-append pair_of rows (row ∷ []))
    ∙ row-added outputs order groups i c.group-item.result c.loop-group-test.true c.group-item.is (map pair_of rows) (pair_of row) c.in_ok-group_row.ensures
    ∙ c.loop-group.invariant
