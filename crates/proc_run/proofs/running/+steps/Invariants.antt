use Rattle.std.proofs.Common.{◌≡◌, map, drop, []}
use Rattle.sql_meaning.specs.Programs.{Goes, all_of, for_each, does}
use Rattle.proc_run.proofs.running.+steps.Given as goal

abbrev pub invariant-rounds-loop-number : goal.invariant-rounds-loop-number
invariant-rounds-loop-number l = (go : Goes)
    → for_each l.fn.row (map does l.fn.steps) (drop l.fn.taken l.fn.over) l.fn.known go ≡ for_each l.row (map does l.steps) (drop l.number l.over) l.known go

abbrev pub invariant-go_from-loop-number : goal.invariant-go_from-loop-number
invariant-go_from-loop-number l = (go : Goes)
    → all_of (map does (drop l.fn.first l.fn.steps)) l.fn.known go ≡ all_of (map does (drop l.number l.steps)) l.known go
