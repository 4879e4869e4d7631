use Rattle.std.proofs.Common.{◌≡◌, drop}
use Rattle.std.specs.Str.{bytes_eq}
use Rattle.volt_catalog.specs.Names.{lower}
use Rattle.volt_catalog.proofs.names.is_lowered.Given as goal

abbrev pub invariant-loop-place : goal.invariant-loop-place
invariant-loop-place l = bytes_eq (lower (drop l.place l.name)) (drop l.place l.kept) ≡ bytes_eq (lower l.name) l.kept
