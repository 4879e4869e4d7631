-- What the bytes end as, once a `&mut` to them has ended.
use Rattle.std.specs.Prelude.{ℕ, List, length}
use Rattle.std.specs.Borrow.{Fml, MutBor, Array, Lends}
use Rattle.std.specs.List.{refill}
use denote.Builtin.{u8}
use Rattle.tuple_block.specs.declared.memory.Memory.{Memory}
use Rattle.tuple_block.specs.contracts.memory.Memory.{the_row}

-- the same memory with other bytes, as many as before
abbrev pub with_bytes : Memory → List ℕ → Memory
with_bytes m bytes = record { mark = m.mark; at = m.at; bytes = refill (length m.bytes) m.bytes bytes }

abbrev pub lends_bytes : MutBor Memory → MutBor (List ℕ) → Fml
lends_bytes m r = Lends the_row (Array u8 0) m r (with_bytes m.now)
