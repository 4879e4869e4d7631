use Rattle.std.proofs.Common.{◌≡◌, ◌+◌, ◌-◌, ◌<◌, ◌∷◌, ◌++◌, length, take, map, vec_len}
use Rattle.std.specs.Vec.{vec_capacity}
use Rattle.volt_index.proofs.key.put_text.Given as goal

abbrev pub invariant-loop-byte : goal.invariant-loop-byte
invariant-loop-byte l = record {
  raised : l.into.items ≡ l.fn.into.items ++ 2 ∷ map (λ byte. byte + 1) (take l.byte-index l.bytes);
  room : vec_len l.into + (length l.bytes - l.byte-index) < vec_capacity l.into;
}
