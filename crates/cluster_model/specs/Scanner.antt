-- A scanner reads the tables of its slot's site out, block by block.
use Rattle.std.specs.Prelude.{ℕ, ◌+◌, ◌==◌, Bool, if◌then◌else◌, nat_lt, nat_le, ◌&&◌, [], ◌∷◌, Option, Some, None, is_some}
use Rattle.volt_wire.specs.declared.actor.Actor.{Actor}
use Rattle.volt_wire.specs.declared.actor.Actor.TheVariants.{Site, Scanner}
use Rattle.volt_wire.specs.declared.message.Msg.TheVariants as msg
use Rattle.cluster_model.specs.Environment.{Environment, NoMemory}
use Rattle.cluster_model.specs.Words.{Deployment, host_of_slot}
use Rattle.cluster_model.specs.AgentState.{stops_others}
use Rattle.cluster_model.specs.Letters.{same, Blocks, Letter, Turn, becomes, sending, letter_to, only, arrival, Taken, Refused, Waits}

-- a scan that is under way
pub record Scan : Type 0 where
  pub id : ℕ
  -- the site to which the blocks go, and its start
  pub target : Actor
  pub start : ℕ
  -- the blocks that are left, and how many were sent
  pub left : Blocks
  pub sent : ℕ

pub record ScannerState : Type 0 where
  -- the number of its start; 0 where it isn't running
  pub start : ℕ
  -- the greatest start of a Stop that came to it
  pub stop : ℕ
  pub scan : Option Scan

-- it isn't running, and has nothing but the Stops that came
abbrev pub stopped_scanner : ScannerState → ScannerState
stopped_scanner x = record { start = 0; stop = x.stop; scan = None }

-- ---- what it does with each message

-- Start: it is emptied and runs, if the start is above its own and above each Stop that came to it.
abbrev pub on_start : ScannerState → ℕ → ScannerState
on_start x start =
    if nat_lt x.start start then (if nat_lt x.stop start then record { start = start; stop = x.stop; scan = None } else x) else x

-- Stop: it stops, if its start isn't above that. The greatest one that came is kept.
abbrev pub with_stop : ScannerState → ℕ → ScannerState
with_stop x start = record x { stop = if nat_lt x.stop start then start else x.stop }

abbrev pub on_stop : ScannerState → ℕ → ScannerState
on_stop x start = if nat_le x.start start then stopped_scanner (with_stop x start) else with_stop x start

-- ScanStart: it holds the scan.
abbrev pub on_scan_start : ScannerState → ℕ → Actor → ℕ → Blocks → ScannerState
on_scan_start x id target start blocks =
    record x { scan = Some (record { id = id; target = target; start = start; left = blocks; sent = 0 }) }

abbrev pub scanner_runs : ScannerState → Actor → Letter → ScannerState
scanner_runs x from l = elim l.body as (λ _. ScannerState) [
  | msg.ScanStart id target start blocks ↦ elim (arrival x.start 0 l) as (λ _. ScannerState) [
    | Taken ↦ on_scan_start x id target start blocks
    | Refused ↦ x
    | Waits ↦ x
  ]
  | _ ↦ x
]

-- A scanner after a message. It sends nothing. One that is stopped takes Start and Stop alone.
abbrev pub scanner_takes : ScannerState → Actor → Letter → ScannerState
scanner_takes x from l = elim l.body as (λ _. ScannerState) [
  | msg.Start start ↦ on_start x start
  | msg.Stop start ↦ on_stop x start
  | _ ↦ if x.start == 0 then x else scanner_runs x from l
]

-- ---- Scan

abbrev pub may_scan : ScannerState → Bool
may_scan x = is_some x.scan

-- the next block goes to the target, or, where none is left, their number to the scanner's own site
abbrev pub scan_block : ℕ → ScannerState → Scan → Blocks → Turn ScannerState
scan_block i x scan [] =
    sending (record x { scan = None }) (only (Site i) (letter_to x.start (msg.ScanEnd scan.id scan.sent)))
scan_block i x scan (block ∷ left) =
    sending (record x { scan = Some (record scan { left = left; sent = scan.sent + 1 }) })
    (only scan.target (letter_to scan.start (msg.Chunk scan.id block)))

abbrev pub scans : ℕ → ScannerState → Option Scan → Turn ScannerState
scans i x None = becomes x
scans i x (Some scan) = scan_block i x scan scan.left

-- ---- the environment's share

-- a scanner of this start that finds no memory stops with its host
abbrev pub stops_so : Deployment → ℕ → ScannerState → ℕ → Turn ScannerState
stops_so D i x start =
    sending (stopped_scanner x) (λ b. if same (Scanner i) b then [] else stops_others D (host_of_slot D i) start b)

-- the start with which it goes on once it has taken a message, before anything else
abbrev pub start_after : ScannerState → Letter → ℕ
start_after x l = elim l.body as (λ _. ℕ) [
  | msg.Start start ↦ if nat_lt x.start start && nat_lt x.stop start then start else x.start
  | _ ↦ x.start
]

-- what a message makes of it, and what a Scan does
abbrev pub scanner_turn : Deployment → ℕ → ScannerState → Actor → Letter → Environment → Turn ScannerState
scanner_turn D i x from l (NoMemory answered) = stops_so D i x (start_after x l)
scanner_turn D i x from l o = becomes (scanner_takes x from l)

abbrev pub scan_turn : Deployment → ℕ → ScannerState → Environment → Turn ScannerState
scan_turn D i x (NoMemory answered) = stops_so D i x x.start
scan_turn D i x o = scans i x x.scan
