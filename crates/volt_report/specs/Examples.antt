-- A small report with each form that a line may have.
use Rattle.std.specs.Prelude.{ℕ, List, [], ◌∷◌, codes, pos, negsuc}
use Rattle.volt_base.specs.declared.entry.Applied.{Applied}
use Rattle.volt_value.specs.declared.value.Value.{Value}
use Rattle.volt_value.specs.declared.value.Value.TheVariants as value
use Rattle.volt_wire.specs.declared.actor.Actor.TheVariants.{Director, Client, Agent, Site, Scanner}
use Rattle.volt_wire.specs.declared.event.Event.{Event}
use Rattle.volt_wire.specs.declared.event.Event.TheVariants.{Deliver, Sync, Scan, Recover, Item, Submit, Idle}
use Rattle.volt_report.specs.Report.{RowLine, ReportEnd, Kept, User, Fault, Statements, Steps, Size, Lost, Down, CallLine, CopyLine, Report}

-- a number, and a text with a quote in it
abbrev pub note : List Value
note = value.Int (pos 10) ∷ value.Text (codes "it's") ∷ []

-- no value, and a number below zero
abbrev pub blank : List Value
blank = value.Null ∷ value.Int (negsuc 4) ∷ []

-- the tables before the first call
abbrev pub opening_rows : List RowLine
opening_rows = record { table = codes "NOTES"; row = note } ∷ []

-- a call of client 2 that was submitted at 3 and ended at 21
abbrev pub ended : ℕ → ReportEnd → CallLine
ended call end = record { call = call; client = 2; submitted = 3; ended = 21; end = end }

-- a call for each kind of end but faults
abbrev pub ended_calls : List CallLine
ended_calls = ended 1 (Kept (blank ∷ note ∷ [])) ∷ ended 2 (Kept []) ∷ ended 3 (User (codes "that's all")) ∷ ended 4 Statements ∷ ended 5 Steps ∷ ended 6 Size ∷ ended 8 Lost ∷ ended 9 (Down 0) ∷ []

-- a call for each fault
abbrev pub faulted_calls : List CallLine
faulted_calls = ended 1 (Fault 1) ∷ ended 2 (Fault 2) ∷ ended 3 (Fault 3) ∷ ended 4 (Fault 4) ∷ ended 5 (Fault 5) ∷ ended 6 (Fault 6) ∷ ended 7 (Fault 7) ∷ ended 8 (Fault 8) ∷ []

-- call 12 at point 14, and then call 1 at point 203
abbrev pub serial_list : List Applied
serial_list = record { call = 12; point = 14 } ∷ record { call = 1; point = 203 } ∷ []

-- the copy of slot 1 after 4 calls, with one row
abbrev pub copy : CopyLine
copy = record { slot = 1; position = 4; rows = record { table = codes "NOTES"; row = blank } ∷ [] }

-- an event of each kind, between actors of each kind
abbrev pub events : List Event
events = Submit 1 ∷ Deliver (Agent 0) (Client 1) ∷ Deliver Director (Site 13) ∷ Sync 0 ∷ Scan 7 ∷ Recover ∷ Item ∷ Idle (Scanner 31) ∷ []

-- the whole report
abbrev pub examples : Report
examples = record {
  opening = opening_rows;
  calls = ended 1 (Fault 2) ∷ [];
  serial = serial_list;
  copies = copy ∷ [];
  looks = copy ∷ [];
  trace = events;
}
