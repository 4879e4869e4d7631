use Rattle.std.proofs.Common.{◌≡◌, take}
use Rattle.volt_index.specs.Keys.{key_bytes, AreHeld}
use Rattle.volt_index.proofs.key.key_of.Given as goal

abbrev pub invariant-loop-value : goal.invariant-loop-value
invariant-loop-value l = record {
  spelled : l.key ≡ key_bytes (take l.value-index l.values);
  held : AreHeld (take l.value-index l.values);
}
