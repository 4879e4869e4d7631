use denote.RattleType.{RattleType}
use denote.Param.Send.{IsSync}
use Rattle.core.specs.declared.alloc.Allocator.{Ghosts}
use Rattle.tuple_block.proofs.Crossing.{allocation-sync}
use Rattle.tuple_block.specs.contracts.memory.Allocation.{the_row}

pub sync : (A : RattleType) (g : Ghosts A.Denot) → IsSync (the_row A g)
sync = allocation-sync
