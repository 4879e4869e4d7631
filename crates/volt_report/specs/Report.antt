-- What a report says.
use Rattle.std.specs.Prelude.{ℕ, List}
use Rattle.volt_base.specs.declared.entry.Applied.{Applied}
use Rattle.volt_value.specs.declared.value.Value.{Value}
use Rattle.volt_wire.specs.declared.event.Event.{Event}

-- a row of a table, with the table's name as created
pub record RowLine : Type 0 where
  pub table : List ℕ
  pub row : List Value

-- how a call ended
pub data ReportEnd : Type 0 where
  -- it was kept, with these rows
  Kept : List (List Value) → ReportEnd
  -- the procedure aborted with this text
  User : List ℕ → ReportEnd
  -- a statement met the fault of this code
  Fault : ℕ → ReportEnd
  -- too many statements, too many steps, or a reply that is too long
  Statements : ReportEnd
  Steps : ReportEnd
  Size : ReportEnd
  -- the agents that the client knew have stopped
  Lost : ReportEnd
  -- this partition has no copy
  Down : ℕ → ReportEnd

pub record CallLine : Type 0 where
  pub call : ℕ
  pub client : ℕ
  -- the stamps of its submission and of its end
  pub submitted : ℕ
  pub ended : ℕ
  pub end : ReportEnd

-- the rows of a slot's copy, after so many calls of its partition
pub record CopyLine : Type 0 where
  pub slot : ℕ
  pub position : ℕ
  pub rows : List RowLine

pub record Report : Type 0 where
  -- the database before the first call
  pub opening : List RowLine
  -- the calls that ended, by number
  pub calls : List CallLine
  -- the one serial list of calls
  pub serial : List Applied
  -- the copies at the end
  pub copies : List CopyLine
  -- the looks that the script asked for
  pub looks : List CopyLine
  -- the events of the run
  pub trace : List Event
