use Rattle.std.proofs.Common.{◌≡◌, ◌+◌, ◌-◌, [], map}
use Rattle.std.specs.List.{range_with_len}
use Rattle.partition_ring.specs.Placement.{slots_of_part, standing, with_copies}
use Rattle.partition_ring.proofs.layout.Layout.copies.Given as goal

abbrev pub invariant-loop-copy : goal.invariant-loop-copy
invariant-loop-copy l = with_copies l.ordered.keys (standing l.self.hosts l.members (range_with_len (l.first + l.copy) (l.self.k + 1 - l.copy)))
    ≡ with_copies [] (standing l.self.hosts l.members (slots_of_part l.self.k l.part))

abbrev pub invariant-loop-copy-2 : goal.invariant-loop-copy-2
invariant-loop-copy-2 l = l.slots.items ≡ map (λ copy. copy.now.1) l.yielded
