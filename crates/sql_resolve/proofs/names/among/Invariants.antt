use Rattle.std.proofs.Common.{◌≡◌, ◌+◌, drop}
use Rattle.sql_resolve.specs.Names as names
use Rattle.sql_resolve.proofs.names.among.Given as goal

abbrev pub invariant-loop-place : goal.invariant-loop-place
invariant-loop-place l = names.with_all l.found (names.among (l.before + l.place) l.name (drop l.place l.columns)) ≡ names.with_all l.fn.so_far (names.among l.fn.before l.fn.name l.fn.columns)
