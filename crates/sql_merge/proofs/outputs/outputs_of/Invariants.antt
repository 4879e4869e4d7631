use Rattle.std.proofs.Common.{◌≡◌, ◌++◌, map, drop}
use Rattle.sql_meaning.specs.Selects.{output_of}
use Rattle.sql_merge.proofs.outputs.outputs_of.Given as goal

abbrev pub invariant-loop-output : goal.invariant-loop-output
invariant-loop-output l = l.values.items ++ map (output_of l.key l.aggregated) (drop l.output-index l.outputs) ≡ map (output_of l.fn.key l.fn.aggregated) l.fn.outputs
