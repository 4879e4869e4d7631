-- Which events may happen in a world, and what each makes of it.
use Rattle.std.specs.Prelude.{ℕ, ◌==◌, ◌&&◌, ◌||◌, not, Bool, true, false, nat_lt, nat_le, List, [], ◌∷◌, ◌++◌, map, filter, flat_map, length, slice_index, Option, Some, None}
use Rattle.std.specs.List.{list_any, list_all, range_with_len}
use Rattle.volt_wire.specs.Word.{Membership}
use Rattle.volt_wire.specs.declared.actor.Actor.{Actor}
use Rattle.volt_wire.specs.declared.actor.Actor.TheVariants.{Director, Client, Agent, Site, Scanner}
use Rattle.volt_wire.specs.declared.event.Event.{Event}
use Rattle.volt_wire.specs.declared.event.Event.TheVariants as event
use Rattle.volt_wire.specs.declared.item.Item.{Item}
use Rattle.volt_wire.specs.declared.item.Item.TheVariants as item
use Rattle.volt_wire.specs.declared.item.TimedItem.{TimedItem}
use Rattle.volt_wire.specs.declared.message.Msg.TheVariants as msg
use Rattle.cluster_model.specs.Engine.{Database}
use Rattle.cluster_model.specs.Words.{Deployment, slots, is_member, is_down}
use Rattle.cluster_model.specs.Letters.{same, Letter, becomes}
use Rattle.cluster_model.specs.Director.{does_next, director_takes}
use Rattle.cluster_model.specs.Client.{may_submit, submits, client_takes}
use Rattle.cluster_model.specs.AgentState.{AgentState}
use Rattle.cluster_model.specs.Agent.{agent_turn, start_after as agent_start}
use Rattle.cluster_model.specs.SiteState.{SiteState}
use Rattle.cluster_model.specs.Sync.{may_sync, parts_of_sync, parts_of_message, site_turn, sync_turn, start_after as site_start}
use Rattle.cluster_model.specs.Scanner.{may_scan, scanner_turn, scan_turn, start_after as scanner_start}
use Rattle.cluster_model.specs.Environment.{Environment, NoFault, DiskFails, NoMemory, DisksShow}
use Rattle.cluster_model.specs.World.{World, took, stamp_of, with_director, with_client, with_agent, with_site, with_scanner, stop_noted}
use Rattle.cluster_model.specs.Recover.{recovers, count_shown}

-- ---- the receiver takes a message

abbrev pub received : Database → World → Actor → Actor → Letter → Environment → World
received E w Director from l o = with_director w (becomes (director_takes w.director from l))
received E w (Client n) from l o = with_client w n (client_takes w.deployment (stamp_of w) n (w.clients n) from l)
received E w (Agent h) from l o = with_agent w h (agent_turn E w.deployment h (stamp_of w) (w.agents h) from l o)
received E w (Site i) from l o = with_site w i (site_turn E w.deployment (stamp_of w) i (w.sites i) from l o)
received E w (Scanner i) from l o = with_scanner w i (scanner_turn w.deployment i (w.scanners i) from l o)

-- the first message leaves its channel
abbrev pub delivered : Database → World → Actor → Actor → List Letter → Environment → World
delivered E w to from [] o = w
delivered E w to from (l ∷ ls) o =
    received E (stop_noted (record w { channel = took w.channel from to }) to o) to from l o

-- ---- which events may happen

abbrev pub is_some_letter : List Letter → Bool
is_some_letter [] = false
is_some_letter (l ∷ ls) = true

abbrev pub is_stopped : World → Bool
is_stopped w =
    list_all (λ h. (w.agents h).start == 0) (range_with_len 0 w.deployment.layout.hosts)
    && list_all (λ i. (w.sites i).start == 0 && (w.scanners i).start == 0) (range_with_len 0 (slots w.deployment))

abbrev pub may_recover : World → Bool
may_recover w = w.director.recovery_asked && is_stopped w

-- all actors in the order in which events are listed
abbrev pub actors : Deployment → List Actor
actors D =
    Director
    ∷ map Client (range_with_len 1 D.clients)
    ++ map Agent (range_with_len 0 D.layout.hosts)
    ++ map Site (range_with_len 0 (slots D))
    ++ map Scanner (range_with_len 0 (slots D))

abbrev pub may_submit_in : World → ℕ → Bool
may_submit_in w n = may_submit w.deployment (w.clients n) (w.clients n).left (w.clients n).pending

-- A Deliver, Sync, Scan or Recover may happen.
abbrev pub has_letter : World → Bool
has_letter w =
    list_any (λ to. list_any (λ from. is_some_letter (w.channel from to)) (actors w.deployment)) (actors w.deployment)

abbrev pub is_under_way : World → Bool
is_under_way w =
    has_letter w
    || list_any (λ i. may_sync (w.sites i) || may_scan (w.scanners i)) (range_with_len 0 (slots w.deployment))
    || may_recover w

-- The cluster serves: some agent runs as a member of the word that it has decided, and isn't down.
abbrev pub serves_by : Deployment → ℕ → AgentState → Option Membership → Bool
serves_by D h a None = false
serves_by D h a (Some w) = nat_lt 0 a.start && is_member w h a.start && not (is_down D w)

abbrev pub serves : World → Bool
serves w =
    list_any (λ h. serves_by w.deployment h (w.agents h) (w.agents h).decided) (range_with_len 0 w.deployment.layout.hosts)

abbrev pub is_quiet_item : Item → Bool
is_quiet_item item.Quiet = true
is_quiet_item _ = false

-- The next item of the script may be done: the director was told of enough calls, and no recovery is asked for. For `quiet`
-- nothing but submissions may happen.
abbrev pub may_do : World → List TimedItem → Bool
may_do w [] = false
may_do w (next ∷ left) =
    nat_le next.after w.director.told && not w.director.recovery_asked && not (is_quiet_item next.item && is_under_way w)

-- Where nothing but items of the script may happen and the cluster doesn't serve, a last item is implied.
abbrev pub is_implied : World → Bool
is_implied w =
    not (serves w) && not (is_under_way w) && not (list_any (may_submit_in w) (range_with_len 1 w.deployment.clients))

abbrev pub is_actor : Deployment → Actor → Bool
is_actor D a = list_any (same a) (actors D)

-- Whether an event may happen. The actor of each is one of the deployment's.
abbrev pub can : World → Event → Bool
can w (event.Deliver to from) = is_some_letter (w.channel from to) && is_actor w.deployment to
can w (event.Sync i) = nat_lt i (slots w.deployment) && may_sync (w.sites i)
can w (event.Scan i) = nat_lt i (slots w.deployment) && may_scan (w.scanners i)
can w event.Recover = may_recover w
can w event.Item = may_do w w.director.items || is_implied w
can w (event.Submit n) = nat_lt 0 n && nat_le n w.deployment.clients && may_submit_in w n
can w (event.Idle a) = is_actor w.deployment a

-- All events but Idle in their order: Deliver by receiver and then sender, the others by actor.
abbrev pub events : Deployment → List Event
events D =
    flat_map (λ to. map (λ from. event.Deliver to from) (actors D)) (actors D)
    ++ map event.Sync (range_with_len 0 (slots D))
    ++ map event.Scan (range_with_len 0 (slots D))
    ++ event.Recover ∷ event.Item ∷ map event.Submit (range_with_len 1 D.clients)

-- those that may happen, in order
abbrev pub enabled : World → List Event
enabled w = filter (can w) (events w.deployment)

-- ---- which shares the environment may have

abbrev pub first_letter_parts : SiteState → List Letter → ℕ
first_letter_parts s [] = 0
first_letter_parts s (l ∷ ls) = length (parts_of_message s l)

-- how many disk parts an event has
abbrev pub parts_of : World → Event → ℕ
parts_of w (event.Deliver (Site i) from) = first_letter_parts (w.sites i) (w.channel from (Site i))
parts_of w (event.Sync i) = length (parts_of_sync (w.sites i) (w.sites i).joining)
parts_of w e = 0

-- A disk fails in a Sync or in a message that has a part: in one of the parts, or in a call behind them.
abbrev pub may_fail_disk : World → Event → ℕ → Bool
may_fail_disk w (event.Sync i) answered = nat_le answered (parts_of w (event.Sync i))
may_fail_disk w (event.Deliver to from) answered =
    nat_lt 0 (parts_of w (event.Deliver to from)) && nat_le answered (parts_of w (event.Deliver to from))
may_fail_disk w e answered = false

-- Stop and Power, which only note a number, take none at a site or a scanner.
abbrev pub takes_memory : Letter → Bool
takes_memory l = elim l.body as (λ _. Bool) [
  | msg.Stop start ↦ false
  | msg.Power call choice ↦ false
  | _ ↦ true
]

-- whether the receiver of the first of these runs on a host, once it has taken it
abbrev pub runs_with : World → Actor → Actor → List Letter → Bool
runs_with w (Agent h) from (l ∷ ls) = nat_lt 0 (agent_start (w.agents h) from l)
runs_with w (Site i) from (l ∷ ls) = nat_lt 0 (site_start (w.sites i) l) && takes_memory l
runs_with w (Scanner i) from (l ∷ ls) = nat_lt 0 (scanner_start (w.scanners i) l) && takes_memory l
runs_with w to from ls = false

abbrev pub may_run_out_of_memory : World → Event → ℕ → Bool
may_run_out_of_memory w (event.Deliver to from) answered = runs_with w to from (w.channel from to) && nat_le answered (parts_of w (event.Deliver to from))
may_run_out_of_memory w (event.Sync i) answered = nat_le answered (parts_of w (event.Sync i))
may_run_out_of_memory w (event.Scan i) answered = answered == 0
may_run_out_of_memory w e answered = false

-- each disk that showed a content showed one of its own, and the disk that failed is one of a slot
abbrev pub is_shown : World → List ℕ → Option (ℕ × Bool) → Bool
is_shown w shown failed =
    list_all (λ i. nat_lt (slice_index shown i) (length (w.sites i).contents)) (range_with_len 0 (count_shown w.deployment failed))

abbrev pub is_slot_or_none : Deployment → Option (ℕ × Bool) → Bool
is_slot_or_none D None = true
is_slot_or_none D (Some failed) = nat_lt failed.0 (slots D)

abbrev pub allows : World → Event → Environment → Bool
allows w event.Recover (DisksShow shown failed) = is_shown w shown failed && is_slot_or_none w.deployment failed
allows w event.Recover o = false
allows w e NoFault = true
allows w e (DiskFails answered) = may_fail_disk w e answered
allows w e (NoMemory answered) = may_run_out_of_memory w e answered
allows w e (DisksShow shown failed) = false

-- ---- the step

abbrev pub recovered_with : Database → World → Environment → World
recovered_with E w (DisksShow shown failed) = recovers E w shown failed
recovered_with E w o = w

abbrev pub happens : Database → World → Event → Environment → World
happens E w (event.Deliver to from) o = delivered E w to from (w.channel from to) o
happens E w (event.Sync i) o = with_site (stop_noted w (Site i) o) i (sync_turn E w.deployment i (w.sites i) o)
happens E w (event.Scan i) o = with_scanner (stop_noted w (Scanner i) o) i (scan_turn w.deployment i (w.scanners i) o)
happens E w event.Recover o = recovered_with E w o
happens E w event.Item o = with_director w (does_next w.deployment (may_do w w.director.items) w.director w.director.items)
happens E w (event.Submit n) o =
    with_client w n (submits w.deployment (stamp_of w) (w.clients n) (w.clients n).left)
happens E w (event.Idle a) o = w

-- the world after an event, with the environment's share of it
abbrev pub step : Database → World → Event × Environment → World
step E w e = let v = happens E w e.0 e.1 in record v { trace = v.trace ++ e.0 ∷ [] }
