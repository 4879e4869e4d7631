use denote.Param.Send.{IsSync}
use Rattle.tuple_block.proofs.Crossing.{memory-sync}
use Rattle.tuple_block.specs.contracts.memory.Memory.{the_row}

pub sync : IsSync the_row
sync = memory-sync
