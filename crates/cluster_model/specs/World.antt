-- The world: a state for each actor, the messages under way, and its history.
use Rattle.std.specs.Prelude.{ℕ, zero, suc, ◌≡◌, ◌<◌, ◌+◌, ◌-◌, ◌%◌, ◌==◌, ◌&&◌, Bool, true, false, nat_lt, nat_le, if◌then◌else◌, max, List, [], ◌∷◌, ◌++◌, length, Option, Some, None}
use Rattle.std.specs.List.{list_all}
use Rattle.volt_base.specs.declared.entry.Entry.{Entry}
use Rattle.volt_base.specs.declared.entry.LastReply.{LastReply}
use Rattle.volt_wire.specs.Word.{Membership}
use Rattle.volt_wire.specs.declared.actor.Actor.{Actor}
use Rattle.volt_wire.specs.declared.actor.Actor.TheVariants.{Director, Client, Agent, Site, Scanner}
use Rattle.volt_wire.specs.declared.event.Event.{Event}
use Rattle.volt_wire.specs.declared.item.Item.{Item}
use Rattle.volt_wire.specs.declared.item.Item.TheVariants as item
use Rattle.volt_wire.specs.declared.item.TimedItem.{TimedItem}
use Rattle.cluster_model.specs.Engine.{Database}
use Rattle.cluster_model.specs.Words.{Deployment, IsDeployment, slots, parts, part_of_slot, host_of_slot, is_host, is_client}
use Rattle.cluster_model.specs.Letters.{same, Letter, Turn}
use Rattle.cluster_model.specs.Log.{last_done, number_of}
use Rattle.cluster_model.specs.Replies.{with_replies, last_replies}
use Rattle.cluster_model.specs.Director.{DirectorState}
use Rattle.cluster_model.specs.Client.{ClientState, Due}
use Rattle.cluster_model.specs.AgentState.{AgentState, Initiating, Idle, new_agent, no_initiator}
use Rattle.cluster_model.specs.SiteState.{SiteState, site_term, leads, no_site, member_site}
use Rattle.cluster_model.specs.Scanner.{ScannerState}
use Rattle.cluster_model.specs.Environment.{Environment, DiskFails, NoMemory}

-- ---- history, by which the laws speak of a run

-- Of the copies of a partition that became a repaired leader since the last recovery that worked, the one of the greatest
-- term: its log, as it stands or stood when it stopped. And the greatest position that a leader counted firm; at a recovery
-- that is the whole log.
pub record AuthoritativeLog : Type 0 where
  pub term : ℕ
  pub log : List Entry
  pub firm : ℕ

-- an actor that stopped of itself, and when
pub record Stopped : Type 0 where
  pub at : ℕ
  pub actor : Actor
  -- whether its disk failed; else it found no memory
  pub for_disk : Bool

-- A recovery: when, what the disk of each slot showed, as its mark and position, and the slot whose disk failed.
pub record Recovery : Type 0 where
  pub at : ℕ
  pub shown : List (Option (ℕ × ℕ))
  pub failed : Option ℕ
  -- no item of the script asked for it
  pub is_implied : Bool

pub record World : Type 0 where
  pub deployment : Deployment
  pub director : DirectorState
  pub clients : ℕ → ClientState
  pub agents : ℕ → AgentState
  pub sites : ℕ → SiteState
  pub scanners : ℕ → ScannerState
  -- the messages from one actor to another that weren't taken yet, the oldest first
  pub channel : Actor → Actor → List Letter
  -- the events so far; the k-th has stamp k
  pub trace : List Event
  -- history
  pub authoritative : ℕ → AuthoritativeLog
  pub stops : List Stopped
  pub recoveries : List Recovery

-- ---- changes of one place

abbrev pub set_at : {A : Type 0} → (ℕ → A) → ℕ → A → ℕ → A
set_at f i a j = if j == i then a else f j

abbrev pub rest : {A : Type 0} → List A → List A
rest [] = []
rest (x ∷ xs) = xs

-- the channels after `to` took the first message from `from`
abbrev pub took : {A : Type 0} → (Actor → Actor → List A) → Actor → Actor → Actor → Actor → List A
took channel from to a b = if same to b && same from a then rest (channel a b) else channel a b

-- the channels after `from` sent these messages
abbrev pub sent : {A : Type 0} → (Actor → Actor → List A) → Actor → (Actor → List A) → Actor → Actor → List A
sent channel from sends a b = if same from a then channel a b ++ sends b else channel a b

-- the stamp of the event that happens next
abbrev pub stamp_of : World → ℕ
stamp_of w = length w.trace + 1

-- ---- an actor after its turn

abbrev pub with_director : World → Turn DirectorState → World
with_director w t = record w { director = t.state; channel = sent w.channel Director t.sends }

abbrev pub with_client : World → ℕ → Turn ClientState → World
with_client w n t = record w { clients = set_at w.clients n t.state; channel = sent w.channel (Client n) t.sends }

abbrev pub with_agent : World → ℕ → Turn AgentState → World
with_agent w h t = record w { agents = set_at w.agents h t.state; channel = sent w.channel (Agent h) t.sends }

-- the history of a partition after a turn of one of its sites
abbrev pub authoritative_after : Deployment → ℕ → SiteState → AuthoritativeLog → AuthoritativeLog
authoritative_after D i s l =
    if leads D i s
    then record {
      term = max l.term (site_term s);
      log = if nat_le l.term (site_term s) then s.log else l.log;
      firm = max l.firm s.firm;
    }
    else l

abbrev pub with_site : World → ℕ → Turn SiteState → World
with_site w i t =
    let p = part_of_slot w.deployment i in
    record w {
      sites = set_at w.sites i t.state;
      channel = sent w.channel (Site i) t.sends;
      authoritative = set_at w.authoritative p (authoritative_after w.deployment i t.state (w.authoritative p));
    }

abbrev pub with_scanner : World → ℕ → Turn ScannerState → World
with_scanner w i t = record w { scanners = set_at w.scanners i t.state; channel = sent w.channel (Scanner i) t.sends }

-- an actor that stops of itself is noted
abbrev pub stops_with : ℕ → List Stopped → Actor → Environment → List Stopped
stops_with stamp stops a (DiskFails answered) = stops ++ record { at = stamp; actor = a; for_disk = true } ∷ []
stops_with stamp stops a (NoMemory answered) = stops ++ record { at = stamp; actor = a; for_disk = false } ∷ []
stops_with stamp stops a o = stops

abbrev pub stop_noted : World → Actor → Environment → World
stop_noted w a o = record w { stops = stops_with (stamp_of w) w.stops a o }

-- ---- members of a new word

-- the hosts with their starts, where these are drawn in order of hosts from this one on
abbrev pub hosts_from : ℕ → ℕ → ℕ → List (ℕ × ℕ)
hosts_from zero host start = []
hosts_from (suc n) host start = (host, start) ∷ hosts_from n (host + 1) (start + 1)

-- the word with which all hosts begin
abbrev pub new_word : Deployment → ℕ → ℕ → Membership
new_word D base start =
    record { base = base; first = hosts_from D.layout.hosts 0 start; lost = []; admitted = [] }

-- The first number of the initiator is one above the greatest that was done.
abbrev pub greatest_done : Database → (ℕ → List Entry) → ℕ → ℕ
greatest_done E logs zero = 0
greatest_done E logs (suc p) = max (number_of (last_done E p (logs p))) (greatest_done E logs p)

-- of each client's calls that these partitions, those below a number, replied to last, the greatest
abbrev pub greatest_replies : Database → (ℕ → List Entry) → ℕ → List LastReply
greatest_replies E logs zero = []
greatest_replies E logs (suc p) = with_replies (last_replies E p (logs p)) (greatest_replies E logs p)

-- the agent of the first member, host 0, is the initiator and idle
abbrev pub first_initiating : ℕ → ℕ → List LastReply → Initiating
first_initiating zero next replies = record no_initiator { phase = Idle; next = next; replies = replies }
first_initiating (suc h) next replies = no_initiator

-- the agent of a host that begins with this word, whose hosts have their starts from this one on
abbrev pub member_agent : Membership → ℕ → List LastReply → ℕ → ℕ → AgentState
member_agent w next replies start h =
    record (new_agent (start + h)) { own = Some w; decided = Some w; initiating = first_initiating h next replies }

-- ---- the first world

-- a call of the script: its client, the partition on which it runs or none for a call on all, and its body
pub record AskedFor : Type 0 where
  pub client : ℕ
  pub part : Option ℕ
  pub body : List ℕ

-- what a world begins with
pub record Input : Type 0 where
  pub deployment : Deployment
  pub calls : List AskedFor
  pub items : List TimedItem
  -- the base term: one above the greatest mark that the disks showed
  pub base : ℕ

-- a call is one of a client, and on one partition or on all
abbrev pub is_part_or_all : Deployment → Option ℕ → Bool
is_part_or_all D None = true
is_part_or_all D (Some part) = nat_lt part (parts D)

abbrev pub is_call_for : Deployment → AskedFor → Bool
is_call_for D c = is_client D c.client && is_part_or_all D c.part

-- an item is of a host or a slot, and a cut of power is at a call of a disk, counted from 1
abbrev pub is_item_for : Deployment → Item → Bool
is_item_for D (item.Lose host) = is_host D host
is_item_for D (item.Rejoin host) = is_host D host
is_item_for D (item.Power slot call choice) = nat_lt slot (slots D) && nat_lt 0 call
is_item_for D (item.Look slot) = nat_lt slot (slots D)
is_item_for D _ = true

-- What an input has to be: its deployment isn't refused, its calls and items speak of what is there, and its base term isn't
-- 0, which would mean no term.
pub record IsInput (I : Input) : Type 0 where
  pub deployment : IsDeployment I.deployment
  pub calls : list_all (is_call_for I.deployment) I.calls ≡ true
  pub items : list_all (λ i. is_item_for I.deployment i.item) I.items ≡ true
  pub base : 0 < I.base

-- the calls of client n among these, the first of which has this number
abbrev pub due : ℕ → ℕ → List AskedFor → List Due
due n number [] = []
due n number (c ∷ cs) =
    if c.client == n
    then record { call = number; part = c.part; body = c.body } ∷ due n (number + 1) cs
    else due n (number + 1) cs

-- Host h has start h + 1. Each client knows all agents.
abbrev pub first_known : Deployment → ℕ → Option ℕ
first_known D h = if is_host D h then Some (h + 1) else None

abbrev pub first_client : Input → ℕ → ClientState
first_client I n =
    record {
      left = due n 1 I.calls;
      pending = None;
      known = first_known I.deployment;
      present = (n - 1) % I.deployment.layout.hosts;
      ended = [];
    }

abbrev pub first_director : Input → DirectorState
first_director I =
    record {
      told = 0;
      items = I.items;
      next_start = I.deployment.layout.hosts + 1;
      last_start = λ h. h + 1;
      recovery_asked = false;
      recovery_implied = false;
      looks = [];
    }

-- the start of the host of a slot, where hosts have their starts from this one on
abbrev pub start_from : Deployment → ℕ → ℕ → ℕ
start_from D start slot = start + host_of_slot D slot

abbrev pub first_world : Database → Input → World
first_world E I =
    let D = I.deployment in
    let w = new_word D I.base 1 in
    record {
      deployment = D;
      director = first_director I;
      clients = first_client I;
      agents = λ h. if is_host D h then member_agent w (greatest_done E (λ p. []) (parts D) + 1) [] 1 h else new_agent 0;
      sites = λ i. if nat_lt i (slots D) then member_site D i no_site w (start_from D 1 i) [] else no_site;
      scanners = λ i. record { start = if nat_lt i (slots D) then start_from D 1 i else 0; stop = 0; scan = None };
      channel = λ a b. [];
      trace = [];
      authoritative = λ p. record { term = I.base; log = []; firm = 0 };
      stops = [];
      recoveries = [];
    }
