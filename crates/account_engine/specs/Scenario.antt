-- The first scenario: Put 1 10, and then Get 1.
use Rattle.std.specs.Prelude.{ℤ, pos, List, [], ◌∷◌, refl}
use Rattle.volt_base.specs.declared.entry.Applied.{Applied}
use Rattle.volt_value.specs.declared.value.Value.TheVariants.{Int}
use Rattle.volt_wire.specs.declared.actor.Actor.TheVariants.{Director, Client, Agent, Site}
use Rattle.volt_wire.specs.declared.event.Event.{Event}
use Rattle.volt_wire.specs.declared.event.Event.TheVariants.{Deliver, Sync, Submit}
use Rattle.volt_report.specs.Report.{ReportEnd, Kept, CallLine, CopyLine, Report}
use Rattle.one_host_model.specs.World.{World, first_world}
use Rattle.one_host_model.specs.Runs.{run}
use Rattle.soundness.specs.Meaning.{Script}
use Rattle.soundness.specs.Carries.{world_calls, script}
use Rattle.account_engine.specs.declared.call.AccountCall.TheVariants.{Put, Get}
use Rattle.account_engine.specs.Calls.{ValidCall}
use Rattle.account_engine.specs.Accounts.{Rows, accounts, accounts_semantics}
use Rattle.account_engine.specs.Carrying.{carried}

-- the calls
abbrev pub put_1_10 : ValidCall
put_1_10 = record { call = Put (pos 1) (pos 10); valid = refl }

abbrev pub get_1 : ValidCall
get_1 = record { call = Get (pos 1); valid = refl }

abbrev pub get_2 : ValidCall
get_2 = record { call = Get (pos 2); valid = refl }

-- those of the run, and four that are worked out without one
abbrev pub calls : List ValidCall
calls = put_1_10 ∷ get_1 ∷ []

abbrev pub four_calls : List ValidCall
four_calls = put_1_10 ∷ put_1_10 ∷ get_1 ∷ get_2 ∷ []

-- what the run is asked to do
abbrev pub asked : Script accounts
asked = script accounts calls

-- the world before the first event
abbrev pub start : World
start = first_world (world_calls accounts carried.body calls)

-- A call is submitted, goes to the agent and on to the site, is applied there, and comes back once it is on disk.
abbrev pub trace : List Event
trace =
    Submit 1 ∷ Deliver Director (Client 1) ∷ Deliver (Agent 0) (Client 1) ∷ Deliver (Site 0) (Agent 0)
    ∷ Sync 0 ∷ Deliver (Agent 0) (Site 0) ∷ Deliver (Client 1) (Agent 0)
    ∷ Submit 1 ∷ Deliver Director (Client 1) ∷ Deliver (Agent 0) (Client 1) ∷ Deliver (Site 0) (Agent 0)
    ∷ Sync 0 ∷ Deliver (Agent 0) (Site 0) ∷ Deliver (Client 1) (Agent 0) ∷ []

-- the world after the last event
abbrev pub last : World
last = run accounts_semantics trace start

-- the end that gives this integer
abbrev pub gives : ℤ → ReportEnd
gives z = Kept ((Int z ∷ []) ∷ [])

-- what these calls answer, one after another
abbrev pub replies : Rows → List ValidCall → List ReportEnd
replies rows [] = []
replies rows (c ∷ later) = accounts.reply rows c ∷ replies (accounts.after rows c) later

-- the line of the first call
abbrev pub put_line : CallLine
put_line = record { call = 1; client = 1; submitted = 1; ended = 7; end = gives (pos 1) }

-- the line of the second call, with what it answered
abbrev pub get_line : ℤ → CallLine
get_line balance = record { call = 2; client = 1; submitted = 8; ended = 14; end = gives balance }

-- the calls with their points
abbrev pub put_point : Applied
put_point = record { call = 1; point = 4 }

abbrev pub get_point : Applied
get_point = record { call = 2; point = 11 }

-- the one copy, with the row (1, 10) of acct
abbrev pub copy : CopyLine
copy = record { slot = 0; position = 2; rows = record { table = 97 ∷ 99 ∷ 99 ∷ 116 ∷ []; row = Int (pos 1) ∷ Int (pos 10) ∷ [] } ∷ [] }

-- the report in which Get answers this balance, with this serial list
abbrev pub report_of : ℤ → List Applied → Report
report_of balance serial =
    record {
      opening = [];
      calls = put_line ∷ get_line balance ∷ [];
      serial = serial;
      copies = copy ∷ [];
      looks = [];
      trace = trace;
    }

-- the report of the run
abbrev pub report : Report
report = report_of (pos 10) (put_point ∷ get_point ∷ [])

-- Get answers 11
abbrev pub other_reply : Report
other_reply = report_of (pos 11) (put_point ∷ get_point ∷ [])

-- Get isn't in the serial list
abbrev pub lacks_a_call : Report
lacks_a_call = report_of (pos 10) (put_point ∷ [])

-- Get is before Put in the serial list
abbrev pub exchanged : Report
exchanged = report_of (pos 10) (get_point ∷ put_point ∷ [])
