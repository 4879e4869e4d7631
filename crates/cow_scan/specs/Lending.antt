-- What the blocks end as, once a block that was lent is given back.
use Rattle.std.specs.Prelude.{ℕ, Result}
use Rattle.std.specs.Borrow.{Lends, LendsIfOk, MutBor, Fml}
use Rattle.std.specs.declared.alloc.AllocError.{AllocError}
use Rattle.tuple_block.specs.Tuples.{Tuples}
use Rattle.tuple_block.specs.contracts.block.Block.{the_row as block_row}
use Rattle.cow_scan.specs.Cow.{Cow, with_owned, with_block}
use Rattle.cow_scan.specs.contracts.blocks.CowBlocks.{the_row as cow_row}

-- the blocks end with this one as the last value behind the result
abbrev pub LendsOwnedBlock : MutBor Cow → ℕ → MutBor Tuples → Fml
LendsOwnedBlock s n r = Lends cow_row block_row s r (with_block s.now n)

-- where there is a result they end with this one as the last value behind it, and owned; else they stay as they are
abbrev pub LendsBlock : MutBor Cow → ℕ → Result (MutBor Tuples) AllocError → Fml
LendsBlock s n r = LendsIfOk cow_row block_row s r (with_block (with_owned s.now n) n) s.now
