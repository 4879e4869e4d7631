-- One block, owned or shared.
use Rattle.std.specs.Prelude.{Bool, true, false}
use Rattle.std.specs.Borrow.{Lends, MutBor, Fml}
use Rattle.tuple_block.specs.Tuples.{Tuples}
use Rattle.tuple_block.specs.contracts.block.Block.{the_row as block_row}
use Rattle.cow_scan.specs.declared.state.State.{State}
use Rattle.cow_scan.specs.declared.state.State.TheVariants.{Owned, Shared}
use Rattle.cow_scan.specs.contracts.state.State.{the_row as state_row}

abbrev pub block_of : State → Tuples
block_of (Owned block) = block
block_of (Shared block) = block.value

abbrev pub is_shared : State → Bool
is_shared (Owned block) = false
is_shared (Shared block) = true

-- the state ends as an owned block, the last value behind the result
abbrev pub LendsOwned : MutBor State → MutBor Tuples → Fml
LendsOwned s r = Lends state_row block_row s r Owned
