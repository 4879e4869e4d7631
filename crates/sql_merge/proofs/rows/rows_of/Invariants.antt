use Rattle.std.proofs.Common.{◌≡◌, ◌++◌, map, drop}
use Rattle.sql_merge.proofs.rows.rows_of.Given as goal

abbrev pub invariant-loop-entry : goal.invariant-loop-entry
invariant-loop-entry l = l.rows ++ map (λ e. e.1) (drop l.entry-index l.entries) ≡ map (λ e. e.1) l.fn.entries
