use denote.Param.Send.{IsSend}
use Rattle.tuple_block.proofs.Crossing.{memory-send}
use Rattle.tuple_block.specs.contracts.memory.Memory.{the_row}

pub send : IsSend the_row
send = memory-send
