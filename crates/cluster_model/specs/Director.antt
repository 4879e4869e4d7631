-- The director does the items of the script.
use Rattle.std.specs.Prelude.{ℕ, ◌+◌, ◌==◌, Bool, true, false, if◌then◌else◌, List, [], ◌∷◌, ◌++◌}
use Rattle.volt_wire.specs.declared.actor.Actor.{Actor}
use Rattle.volt_wire.specs.declared.actor.Actor.TheVariants.{Client, Agent, Site, Scanner}
use Rattle.volt_wire.specs.declared.item.Item.{Item}
use Rattle.volt_wire.specs.declared.item.Item.TheVariants as item
use Rattle.volt_wire.specs.declared.item.TimedItem.{TimedItem}
use Rattle.volt_wire.specs.declared.message.Msg.TheVariants as msg
use Rattle.cluster_model.specs.Words.{Deployment, is_host, is_slot_of, host_of_slot}
use Rattle.cluster_model.specs.Letters.{Letter, Sends, Turn, becomes, sending, open_letter, only}

-- what a slot's copy showed when it was looked at
pub record Seen : Type 0 where
  pub slot : ℕ
  -- how many calls it had applied
  pub position : ℕ
  pub rows : List ℕ

pub record DirectorState : Type 0 where
  -- of how many calls it was told
  pub told : ℕ
  -- the items that are left, in order
  pub items : List TimedItem
  -- the start that is drawn next, and the last one that was drawn for each host
  pub next_start : ℕ
  pub last_start : ℕ → ℕ
  -- whether a recovery is asked for, and whether no item of the script asked for it
  pub recovery_asked : Bool
  pub recovery_implied : Bool
  pub looks : List Seen

-- ---- Item

-- Stop goes to the agent, the sites and the scanners of a host, with the last start that was drawn for it.
abbrev pub stops_host : Deployment → (ℕ → ℕ) → ℕ → Sends
stops_host D last host (Agent h) = if h == host then open_letter (msg.Stop (last host)) ∷ [] else []
stops_host D last host (Site s) = if is_slot_of D host s then open_letter (msg.Stop (last host)) ∷ [] else []
stops_host D last host (Scanner x) = if is_slot_of D host x then open_letter (msg.Stop (last host)) ∷ [] else []
stops_host D last host b = []

-- the same to all hosts
abbrev pub stops_all : Deployment → (ℕ → ℕ) → Sends
stops_all D last (Agent h) = if is_host D h then stops_host D last h (Agent h) else []
stops_all D last (Site s) = stops_host D last (host_of_slot D s) (Site s)
stops_all D last (Scanner x) = stops_host D last (host_of_slot D x) (Scanner x)
stops_all D last b = []

-- Snap goes to all agents.
abbrev pub snaps : Deployment → Sends
snaps D (Agent h) = if is_host D h then open_letter msg.Snap ∷ [] else []
snaps D b = []

-- the next start is drawn for a host
abbrev pub draws_start : DirectorState → ℕ → DirectorState
draws_start d host =
    record d { next_start = d.next_start + 1; last_start = λ h. if h == host then d.next_start else d.last_start h }

-- all is stopped, and a recovery is asked for
abbrev pub asks_recovery : Deployment → Bool → DirectorState → Turn DirectorState
asks_recovery D implied d =
    sending (record d { recovery_asked = true; recovery_implied = implied }) (stops_all D d.last_start)

abbrev pub does : Deployment → DirectorState → Item → Turn DirectorState
does D d (item.Lose host) = sending d (stops_host D d.last_start host)
does D d (item.Rejoin host) = sending (draws_start d host) (only (Agent host) (open_letter (msg.Start d.next_start)))
does D d item.Snapshot = sending d (snaps D)
does D d (item.Power slot call choice) = sending d (only (Site slot) (open_letter (msg.Power call choice)))
does D d (item.Look slot) = sending d (only (Site slot) (open_letter msg.Look))
does D d item.Halt = sending d (stops_all D d.last_start)
does D d item.Recover = asks_recovery D false d
does D d item.Quiet = becomes d

-- the first item of the script is done; where it may not be, the recovery that is implied is asked for
abbrev pub does_next : Deployment → Bool → DirectorState → List TimedItem → Turn DirectorState
does_next D true d (next ∷ left) = does D (record d { items = left }) next.item
does_next D _ d items = asks_recovery D true d

-- ---- what it does with each message

-- Told: it counts one. Looked: it notes what the copy showed.
abbrev pub director_takes : DirectorState → Actor → Letter → DirectorState
director_takes d (Site s) l = elim l.body as (λ _. DirectorState) [
  | msg.Looked position rows ↦
      record d { looks = d.looks ++ record { slot = s; position = position; rows = rows } ∷ [] }
  | _ ↦ d
]
director_takes d (Client n) l = elim l.body as (λ _. DirectorState) [
  | msg.Told ↦ record d { told = d.told + 1 }
  | _ ↦ d
]
director_takes d from l = d
