use Rattle.std.proofs.Common.{◌≡◌, drop, map}
use Rattle.volt_catalog.specs.Names.{differ}
use Rattle.proc_lang.proofs.parameters.have_names_of_their_own.Given as goal

abbrev pub invariant-loop-place : goal.invariant-loop-place
invariant-loop-place l = differ (map (λ parameter. parameter.name) (drop l.place l.parameters)) ≡ differ (map (λ parameter. parameter.name) l.parameters)
