use Rattle.std.proofs.Common.{◌≡◌, ◌+◌, ◌≤◌, true, ◌++◌, length, map, replicate, vec_len, vec_capacity}
use Rattle.std.specs.VecDeque.{deque_len, deque_capacity}
use Rattle.std.specs.Vec.Iter.{into_iter_items, into_iter_len}
use Rattle.cow_scan.specs.State.{block_of, is_shared}
use Rattle.cow_scan.proofs.blocks.share_each.Given as goal

abbrev pub invariant-loop-state : goal.invariant-loop-state
invariant-loop-state l = record {
  blocks : map block_of l.kept.items ++ map block_of (into_iter_items l.state-iterator) ≡ map block_of l.fn.states.items;
  shared : l.is_whole ≡ true → map is_shared l.kept.items ≡ replicate (length l.kept.items) true;
  scan : l.is_whole ≡ true → map (λ a. a.value) l.scan.items ≡ map block_of l.kept.items;
  room : vec_len l.kept + into_iter_len l.state-iterator ≤ vec_capacity l.kept;
  room_of_scan : deque_len l.scan ≤ vec_len l.kept;
  capacity : vec_len l.fn.states ≤ deque_capacity l.scan;
  left : vec_len l.kept + into_iter_len l.state-iterator ≡ vec_len l.fn.states;
}
