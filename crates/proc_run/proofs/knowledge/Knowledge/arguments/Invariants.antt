use Rattle.std.proofs.Common.{◌≡◌, ◌++◌, map, drop}
use Rattle.sql_meaning.specs.Programs.{value_at}
use Rattle.proc_run.proofs.knowledge.Knowledge.arguments.Given as goal

abbrev pub invariant-loop-place : goal.invariant-loop-place
invariant-loop-place l = l.args.items ++ map (value_at l.self) (drop l.place-index l.places) ≡ map (value_at l.fn.self) l.fn.places
