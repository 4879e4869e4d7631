-- What a site writes to its disk, and what follows.
use Rattle.std.specs.Prelude.{ℕ, ◌==◌, ◌&&◌, ◌||◌, not, Bool, true, false, nat_lt, if◌then◌else◌, List, [], ◌∷◌, ◌++◌, take, length, Option, Some, None, is_some, unwrap_or}
use Rattle.volt_wire.specs.declared.actor.Actor.{Actor}
use Rattle.volt_wire.specs.declared.actor.Actor.TheVariants.{Agent, Site}
use Rattle.volt_wire.specs.declared.message.Msg.TheVariants as msg
use Rattle.cluster_model.specs.Engine.{Database}
use Rattle.cluster_model.specs.Words.{Deployment, part_of_slot, host_of_slot}
use Rattle.cluster_model.specs.Letters.{same, Letter, Turn, becomes, sending, ◌▸◌, letter_to, letter_in, only, arrival, Taken, Refused, Waits}
use Rattle.cluster_model.specs.Disk.{Shown, after_parts, after_failure}
use Rattle.cluster_model.specs.SiteState.{SiteState, Streamed, Joining, Scanning, ForBase, stopped_site, site_term, leader_in, start_in_view, is_leader}
use Rattle.cluster_model.specs.Site.{counts, settles, ordered, may_stream, site_takes}
use Rattle.cluster_model.specs.Environment.{Environment, DiskFails, NoMemory}
use Rattle.cluster_model.specs.AgentState.{stops_others}

-- ---- when a site may sync

-- a base of its own may be finished: all its blocks are there
abbrev pub base_may_end : Option Scanning → Bool
base_may_end (Some (ForBase id position blocks written (Some count))) = true
base_may_end _ = false

-- blocks of that base aren't written yet
abbrev pub has_base_blocks : Option Scanning → Bool
has_base_blocks (Some (ForBase id position blocks written count)) = nat_lt written blocks
has_base_blocks _ = false

-- A joiner counts its blocks from StreamStart on, its base once its load is finished, and its tasks behind the base.
abbrev pub joiner_owes : SiteState → Joining → Bool
joiner_owes s j =
    is_some j.stream
    && (nat_lt j.written j.blocks || (j.is_loaded && (not j.is_based || nat_lt s.on_disk (length s.log))))

abbrev pub member_owes : SiteState → Bool
member_owes s =
    nat_lt s.on_disk (length s.log) || is_some s.owes || has_base_blocks s.scanning || base_may_end s.scanning

abbrev pub owes_in : SiteState → Option Joining → Bool
owes_in s None = member_owes s
owes_in s (Some j) = joiner_owes s j

-- Sync: the site runs, and it has an entry, mark or block that isn't on disk, or a base that may be finished and isn't.
abbrev pub may_sync : SiteState → Bool
may_sync s = nat_lt 0 s.start && owes_in s s.joining

-- ---- what the disk shows after each part of a Sync

abbrev pub content : ℕ → ℕ → SiteState → ℕ → Shown
content mark base s end = Some (record { mark = mark; base = base; log = take end s.log })

-- the mark on its disk once what it owes is written
abbrev pub mark_owed : SiteState → ℕ
mark_owed s = unwrap_or s.owes s.mark

-- The batch of all owed records. It is split behind the Done at which the site began a base that isn't on disk; an owed
-- mark is in the last of these. So no disk shows a mark without all entries that were owed with it.
abbrev pub split_at : SiteState → ℕ → List Shown
split_at s position =
    (if nat_lt s.on_disk position && nat_lt position (length s.log) then content s.mark s.base s position ∷ [] else [])
    ++ content (mark_owed s) s.base s (length s.log) ∷ []

abbrev pub batches : SiteState → Option Scanning → List Shown
batches s (Some (ForBase id position blocks written count)) = split_at s position
batches s scanning = content (mark_owed s) s.base s (length s.log) ∷ []

abbrev pub owed_batches : SiteState → List Shown
owed_batches s =
    if nat_lt s.on_disk (length s.log) || is_some s.owes then batches s s.scanning else []

-- Behind it the blocks that it holds are written, and then a finished base with its manifest. The mark stays.
abbrev pub base_of : SiteState → Option Scanning → List Shown
base_of s (Some (ForBase id position blocks written (Some count))) = content (mark_owed s) position s (length s.log) ∷ []
base_of s scanning = []

-- A joiner whose base isn't finished writes its blocks, then its base with its manifest, and then its tasks.
abbrev pub joiner_base : SiteState → Streamed → List Shown
joiner_base s st =
    content st.mark st.stream_start s st.stream_start
    ∷ (if nat_lt st.stream_start (length s.log) then content st.mark st.stream_start s (length s.log) ∷ [] else [])

abbrev pub joiner_parts : SiteState → Joining → Option Streamed → List Shown
joiner_parts s j None = []
joiner_parts s j (Some st) =
    if j.is_based then (if nat_lt s.on_disk (length s.log) then content s.mark s.base s (length s.log) ∷ [] else [])
    else if j.is_loaded then joiner_base s st
    else []

-- what the disk shows after each of the parts of a Sync
abbrev pub parts_of_sync : SiteState → Option Joining → List Shown
parts_of_sync s None = owed_batches s ++ base_of s s.scanning
parts_of_sync s (Some j) = joiner_parts s j j.stream

-- ---- the site behind its Sync

-- the base that was written isn't under way any more; else its blocks are written
abbrev pub scan_after : Option Scanning → Option Scanning
scan_after (Some (ForBase id position blocks written (Some count))) = None
scan_after (Some (ForBase id position blocks written None)) = Some (ForBase id position blocks blocks None)
scan_after scanning = scanning

abbrev pub base_after : ℕ → Option Scanning → ℕ
base_after base (Some (ForBase id position blocks written (Some count))) = position
base_after base scanning = base

abbrev pub member_written : SiteState → SiteState
member_written s =
    record s {
      on_disk = length s.log;
      mark = mark_owed s;
      owes = None;
      base = base_after s.base s.scanning;
      scanning = scan_after s.scanning;
    }

abbrev pub joiner_written : SiteState → Joining → Option Streamed → SiteState
joiner_written s j None = s
joiner_written s j (Some st) =
    if j.is_loaded
    then record s {
      joining = Some (record j { written = j.blocks; is_based = true });
      on_disk = length s.log;
      mark = st.mark;
      base = st.stream_start;
    }
    else record s { joining = Some (record j { written = j.blocks }) }

abbrev pub written : SiteState → Option Joining → SiteState
written s None = member_written s
written s (Some j) = joiner_written s j j.stream

-- ---- what it says then

-- Ack goes to the leader.
abbrev pub acknowledges : Deployment → ℕ → SiteState → Option ℕ → Turn SiteState
acknowledges D i s None = becomes s
acknowledges D i s (Some slot) =
    sending s (only (Site slot) (letter_in (site_term s) (start_in_view D s.view slot) (msg.Ack s.on_disk)))

-- A joiner sends Loaded once, in the first event after which its base and all tasks that it has are on disk.
abbrev pub says_loaded : Deployment → ℕ → SiteState → Joining → Turn SiteState
says_loaded D i s j =
    if j.has_told then becomes s
    else sending (record s { joining = Some (record j { has_told = true }) })
    (only (Agent (host_of_slot D i)) (letter_to s.start (msg.Loaded s.start)))

-- The leader counts what is firm. A copy acknowledges once its mark of the term is on disk, a joiner once its base is.
abbrev pub after_sync : Deployment → ℕ → SiteState → Option Joining → Turn SiteState
after_sync D i s None =
    if is_leader D i s then counts D i s
    else if s.mark == site_term s then acknowledges D i s (leader_in D s.view (part_of_slot D i))
    else becomes s
after_sync D i s (Some j) =
    if j.is_based then acknowledges D i s (leader_in D s.view (part_of_slot D i)) ▸ (λ b. says_loaded D i b j) else becomes s

-- Sync: the site writes what it owes, and says so.
abbrev pub syncs : Database → Deployment → ℕ → SiteState → Turn SiteState
syncs E D i s =
    let b = record (written s s.joining) { contents = after_parts s.contents (parts_of_sync s s.joining) } in
    ordered (after_sync D i b b.joining ▸ settles E D i)

-- ---- the disk parts of a message

abbrev pub may_stream_in : SiteState → Option Joining → Letter → Bool
may_stream_in s None l = false
may_stream_in s (Some j) l = may_stream s j l

-- StreamStart wipes the disk of a joiner that takes the stream. No other message has a part.
abbrev pub parts_of_stream : SiteState → Letter → List Shown
parts_of_stream s l = elim (arrival s.start (site_term s) l) as (λ _. List Shown) [
  | Taken ↦ if may_stream_in s s.joining l then None ∷ [] else []
  | Refused ↦ []
  | Waits ↦ []
]

abbrev pub parts_of_message : SiteState → Letter → List Shown
parts_of_message s l = elim l.body as (λ _. List Shown) [
  | msg.StreamStart head ↦ if s.start == 0 then [] else parts_of_stream s l
  | _ ↦ []
]

-- ---- the environment's share

-- A site of this start stops of itself: its disk failed, or it found no memory. Its disk may show these contents from then
-- on. It stops the other actors of its host.
abbrev pub stops_so : Deployment → ℕ → SiteState → ℕ → List Shown → Turn SiteState
stops_so D i s start contents =
    sending (record (stopped_site s) { contents = contents })
    (λ b. if same (Site i) b then [] else stops_others D (host_of_slot D i) start b)

-- the start with which it goes on once it has taken a message, before anything else
abbrev pub start_after : SiteState → Letter → ℕ
start_after s l = elim l.body as (λ _. ℕ) [
  | msg.Start start ↦ if nat_lt s.start start && nat_lt s.stop start then start else s.start
  | _ ↦ s.start
]

-- What a message makes of it. After so many of the event's disk parts that answered the next one failed, or there was no
-- memory.
abbrev pub site_turn : Database → Deployment → ℕ → ℕ → SiteState → Actor → Letter → Environment → Turn SiteState
site_turn E D stamp i s from l (DiskFails answered) =
    stops_so D i s s.start (after_failure s.contents (parts_of_message s l) answered)
site_turn E D stamp i s from l (NoMemory answered) =
    stops_so D i s (start_after s l) (after_parts s.contents (take answered (parts_of_message s l)))
site_turn E D stamp i s from l o = site_takes E D stamp i s from l

-- what a Sync makes of it
abbrev pub sync_turn : Database → Deployment → ℕ → SiteState → Environment → Turn SiteState
sync_turn E D i s (DiskFails answered) =
    stops_so D i s s.start (after_failure s.contents (parts_of_sync s s.joining) answered)
sync_turn E D i s (NoMemory answered) =
    stops_so D i s s.start (after_parts s.contents (take answered (parts_of_sync s s.joining)))
sync_turn E D i s o = syncs E D i s
