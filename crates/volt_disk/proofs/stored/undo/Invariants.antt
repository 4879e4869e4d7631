use Rattle.std.proofs.Common.{◌≡◌, length, vec_len}
use Rattle.volt_disk.specs.Undo.{AreWithin, undone}
use Rattle.volt_disk.proofs.stored.undo.Given as goal

abbrev pub invariant-loop-last : goal.invariant-loop-last
invariant-loop-last l = record {
  within : AreWithin (length l.bytes.items) l.replaced.items;
  len : length l.bytes.items ≡ length l.initial.bytes.items;
  same : undone l.replaced.items l.bytes.items ≡ undone l.initial.replaced.items l.initial.bytes.items;
}

abbrev pub decreases-loop-last : goal.decreases-loop-last
decreases-loop-last l = vec_len l.replaced
