use Rattle.std.proofs.Common.{◌≡◌, drop}
use Rattle.sql_plan.specs.Prepared.{have_classes}
use Rattle.sql_plan.proofs.prepared.are_arguments.Given as goal

abbrev pub invariant-loop-place : goal.invariant-loop-place
invariant-loop-place l = have_classes (drop l.place l.values) (drop l.place l.classes) ≡ have_classes l.values l.classes
