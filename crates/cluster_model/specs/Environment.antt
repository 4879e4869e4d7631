-- What the environment does in an event.
use Rattle.std.specs.Prelude.{ℕ, Bool, List, Option}

-- The environment's share of an event.
pub data Environment : Type 0 where
  -- nothing
  NoFault : Environment
  -- the disk of the event's site failed, after so many of the event's parts had answered
  DiskFails : (answered : ℕ) → Environment
  -- the event's actor found no memory, after so many parts had answered
  NoMemory : (answered : ℕ) → Environment
  -- In a recovery: which of the contents that its disk may show each slot's disk showed, counted from 0, and the slot whose
  -- disk failed, if one did, as it was read (false) or as its base was written (true).
  DisksShow : (shown : List ℕ) (failed : Option (ℕ × Bool)) → Environment
