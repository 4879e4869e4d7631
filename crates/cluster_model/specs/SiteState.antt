-- What a site knows.
use Rattle.std.specs.Prelude.{ℕ, ◌==◌, ◌&&◌, Bool, true, false, nat_lt, not, List, [], ◌∷◌, map, filter, length, Option, Some, None, is_some, unwrap_or}
use Rattle.volt_base.specs.declared.entry.Entry.{Entry}
use Rattle.volt_wire.specs.Word.{Membership}
use Rattle.volt_wire.specs.declared.actor.Actor.{Actor}
use Rattle.cluster_model.specs.Words.{Deployment, part_of_slot, leader, copies, is_some_of, start_of_slot, term_in}
use Rattle.cluster_model.specs.Letters.{Letter, Waiting}
use Rattle.cluster_model.specs.Disk.{Shown}
pub use Rattle.cluster_model.specs.declared.scanning.Scanning.{Scanning}
pub use Rattle.cluster_model.specs.declared.scanning.Scanning.TheVariants.{ForJoiner, ForBase}

-- the stream that a joiner took: the position at which its tables were read out, and the mark of its base
pub record Streamed : Type 0 where
  pub stream_start : ℕ
  pub mark : ℕ

pub record Joining : Type 0 where
  pub stream : Option Streamed
  -- how many blocks came, how many of them are written, and how many there are
  pub blocks : ℕ
  pub written : ℕ
  pub count : Option ℕ
  -- whether all were loaded, and the entries that came before
  pub is_loaded : Bool
  pub tasks : List Entry
  -- whether its base is on disk, and whether its agent was told
  pub is_based : Bool
  pub has_told : Bool

-- what a copy reported in a new term
pub record Reported : Type 0 where
  pub slot : ℕ
  pub position : ℕ
  pub floor : ℕ
  pub tail : List Entry

-- an answer that waits until the entry at this position is firm
pub record Held : Type 0 where
  pub position : ℕ
  pub to : Actor
  pub letter : Letter

-- a joiner that the leader counts
pub record Joiner : Type 0 where
  pub slot : ℕ
  pub start : ℕ
  -- the position at which its stream began, and the one that it acknowledged
  pub stream_start : ℕ
  pub position : ℕ
  -- how many blocks it was sent, once all were and it wasn't told yet
  pub count : Option ℕ

-- a call of a client that waits for its turn, and the agent's host and start that asked for it
pub record AskedCall : Type 0 where
  pub call : ℕ
  pub client : ℕ
  pub host : ℕ
  pub start : ℕ
  pub body : List ℕ

-- a start of a slot that asks to join
pub record Ask : Type 0 where
  pub slot : ℕ
  pub start : ℕ

pub record SiteState : Type 0 where
  -- the number of its start; 0 where it isn't running
  pub start : ℕ
  -- the greatest start of a Stop that came to it
  pub stop : ℕ
  -- the greatest term that the slot had since the last recovery that worked, and the one that its earlier starts had
  pub greatest : ℕ
  pub earlier : ℕ
  -- the word of its last View
  pub view : Option Membership
  -- as a joiner, how far it is
  pub joining : Option Joining
  -- all entries since the boot. The repair tail is those above the floor.
  pub log : List Entry
  pub floor : ℕ
  -- how many of them are on disk, under which mark, and at which of them the disk's base stands
  pub on_disk : ℕ
  pub mark : ℕ
  pub base : ℕ
  -- the mark that it owes its disk
  pub owes : Option ℕ
  -- as a leader, whether it has what its term begins with; as a copy, whether the leader repaired it
  pub repaired : Bool
  pub reports : List Reported
  -- the positions that the copies acknowledged in this term
  pub acks : List (ℕ × ℕ)
  -- the greatest position that it counted firm
  pub firm : ℕ
  pub held : List Held
  pub joiners : List Joiner
  -- whether it told the initiator of this term how its partition stands
  pub has_told : Bool
  pub calls : List AskedCall
  pub asks : List Ask
  -- how many scans it began, and the one that runs
  pub scans : ℕ
  pub scanning : Option Scanning
  -- the messages that wait for a higher term, in order of coming
  pub waiting : List Waiting
  -- how many looks it owes
  pub looks : ℕ
  -- what its disk may show, and the cuts of power that were planned for it
  pub contents : List Shown
  pub plans : List (ℕ × ℕ)

-- ---- a site that begins

-- a slot whose site never ran
abbrev pub no_site : SiteState
no_site =
    record {
      start = 0;
      stop = 0;
      greatest = 0;
      earlier = 0;
      view = None;
      joining = None;
      log = [];
      floor = 0;
      on_disk = 0;
      mark = 0;
      base = 0;
      owes = None;
      repaired = false;
      reports = [];
      acks = [];
      firm = 0;
      held = [];
      joiners = [];
      has_told = false;
      calls = [];
      asks = [];
      scans = 0;
      scanning = None;
      waiting = [];
      looks = 0;
      contents = [];
      plans = [];
    }

-- of a start, with nothing but what a slot keeps over its stops
abbrev pub emptied : SiteState → ℕ → Option Joining → SiteState
emptied s start joining =
    record no_site {
      start = start;
      joining = joining;
      stop = s.stop;
      greatest = s.greatest;
      earlier = s.greatest;
      contents = s.contents;
      plans = s.plans;
    }

abbrev pub new_joining : Joining
new_joining =
    record {
      stream = None;
      blocks = 0;
      written = 0;
      count = None;
      is_loaded = false;
      tasks = [];
      is_based = false;
      has_told = false;
    }

-- a joiner of this start, and a site that isn't running
abbrev pub new_joiner : SiteState → ℕ → SiteState
new_joiner s start = emptied s start (Some new_joining)

abbrev pub stopped_site : SiteState → SiteState
stopped_site s = emptied s 0 None

-- A member of a word from its beginning on, at the boot or after a recovery: it has this log, all of it on disk in a base
-- under the word's mark. Its start is its host's.
abbrev pub member_site : Deployment → ℕ → SiteState → Membership → ℕ → List Entry → SiteState
member_site D i s w start log =
    record (emptied s start None) {
      view = Some w;
      greatest = w.base;
      earlier = w.base;
      log = log;
      floor = length log;
      on_disk = length log;
      mark = w.base;
      base = length log;
      repaired = true;
      acks = map (λ c. (c, length log)) (copies D w (part_of_slot D i));
      firm = length log;
      contents = Some (record { mark = w.base; base = length log; log = log }) ∷ [];
    }

-- ---- its place in its word

abbrev pub site_term : SiteState → ℕ
site_term s = term_in s.view

-- the leader of its partition, and the start of a slot's host, by its word
abbrev pub leader_in : Deployment → Option Membership → ℕ → Option ℕ
leader_in D None p = None
leader_in D (Some w) p = leader D w p

abbrev pub start_in_view : Deployment → Option Membership → ℕ → ℕ
start_in_view D None slot = 0
start_in_view D (Some w) slot = unwrap_or (start_of_slot D w slot) 0

abbrev pub copies_in : Deployment → Option Membership → ℕ → List ℕ
copies_in D None p = []
copies_in D (Some w) p = copies D w p

abbrev pub is_joiner : SiteState → Bool
is_joiner s = is_some s.joining

-- a site that runs and isn't a joiner
abbrev pub is_member_site : SiteState → Bool
is_member_site s = nat_lt 0 s.start && not (is_joiner s)

abbrev pub is_leader : Deployment → ℕ → SiteState → Bool
is_leader D i s = not (is_joiner s) && is_some_of (leader_in D s.view (part_of_slot D i)) i

-- a leader that has what its term begins with
abbrev pub leads : Deployment → ℕ → SiteState → Bool
leads D i s = is_leader D i s && s.repaired

-- the other copies of its partition
abbrev pub other_copies : Deployment → ℕ → SiteState → List ℕ
other_copies D i s = filter (λ c. not (c == i)) (copies_in D s.view (part_of_slot D i))
