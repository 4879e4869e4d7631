use Rattle.std.proofs.Common.{◌≡◌, map, drop}
use Rattle.volt_catalog.specs.Names.{differ}
use Rattle.volt_catalog.proofs.ColumnLemmas.{may_follow}
use Rattle.volt_catalog.proofs.table.have_names_of_their_own.Given as goal

abbrev pub invariant-loop-column : goal.invariant-loop-column
invariant-loop-column l = may_follow l.names (map (λ column. column.name) (drop l.column-index l.columns)) ≡ differ (map (λ column. column.name) l.columns)
