use Rattle.std.proofs.Common.{map}
use Rattle.volt_catalog.specs.Names.{differ}
use Rattle.volt_catalog.proofs.ColumnLemmas.{may_follow-nothing, next_column}
use Rattle.volt_catalog.proofs.table.have_names_of_their_own.Goals as goal

pub loop-column-init : goal.loop-column-init
loop-column-init c = rw c.new-names.ensures (may_follow-nothing (map (λ column. column.name) c.args.columns.now))

pub loop-column-preserved : goal.loop-column-preserved
loop-column-preserved c =
    next_column c.args.columns.now c.loop-column.column-index c.column-item.result c.loop-column.names c.add.new.self c.as_str.result.now (differ (map (λ column. column.name) c.args.columns.now))
    c.in_ok-add.field-0 c.loop-column-test.true c.column-item.is c.as_str.ensures c.in_ok-add.ensures.fresh c.if-not-branch.false (c.in_ok-add.ensures.added c.if-not-branch.false) c.loop-column.invariant
