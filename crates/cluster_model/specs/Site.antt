-- A site keeps the copy of a partition: as its leader, as a copy, or as a joiner.
use Rattle.std.specs.Prelude.{ℕ, ◌+◌, ◌-◌, ◌==◌, ◌&&◌, not, Bool, true, false, nat_lt, nat_le, if◌then◌else◌, min, max, List, [], ◌∷◌, ◌++◌, map, filter, find, drop, replicate, length, Option, Some, None, is_some, is_none, unwrap_or}
use Rattle.std.specs.List.{list_any, list_all}
use Rattle.volt_base.specs.declared.entry.Entry.{Entry}
use Rattle.volt_base.specs.declared.entry.Entry.TheVariants.{Sp, Frag, Done}
use Rattle.volt_base.specs.declared.entry.LastReply.{LastReply}
use Rattle.volt_base.specs.declared.entry.Outcome.{Outcome}
use Rattle.volt_wire.specs.declared.end.End.{End}
use Rattle.volt_wire.specs.Word.{Membership}
use Rattle.volt_wire.specs.Stream.{StreamHead}
use Rattle.volt_wire.specs.declared.actor.Actor.{Actor}
use Rattle.volt_wire.specs.declared.actor.Actor.TheVariants.{Director, Client, Agent, Site, Scanner}
use Rattle.volt_wire.specs.declared.message.Msg.{Msg}
use Rattle.volt_wire.specs.declared.message.Msg.TheVariants as msg
use Rattle.cluster_model.specs.Engine.{Database}
use Rattle.cluster_model.specs.Log.{replay, answer_behind, nothing_open, open_in, last_done, is_snapshot, applied_in}
use Rattle.cluster_model.specs.Replies.{last_replies, last_reply_to, end_of_reply, known_by}
use Rattle.cluster_model.specs.declared.known.Known.{Known}
use Rattle.cluster_model.specs.declared.known.Known.TheVariants.{IsNew, IsAnswered, IsPast}
use Rattle.cluster_model.specs.Words.{Deployment, part_of_slot, host_of_slot, is_some_of, is_in, initiator, term_of, is_member}
use Rattle.cluster_model.specs.Letters.{Blocks, same, Letter, Sends, Turn, becomes, sending, ◌▸◌, open_letter, letter_to, letter_in, only, arrival, Taken, Refused, Waits, Waiting, of_term, above_term}
use Rattle.cluster_model.specs.SiteState.{SiteState, Joining, Reported, Held, Joiner, AskedCall, Ask, Scanning, ForJoiner, ForBase, new_joiner, stopped_site, site_term, leader_in, start_in_view, is_joiner, is_leader, leads, other_copies}

-- ---- an entry more

-- a scan of the tables as they are goes to the site's own scanner
abbrev pub starts_scan : Database → Deployment → ℕ → SiteState → ℕ → ℕ → Sends
starts_scan E D i s target start =
    only (Scanner i)
    (letter_to s.start (msg.ScanStart (s.scans + 1) (Site target) start (E.blocks (replay E (part_of_slot D i) s.log))))

-- At a snapshot's Done each member without a running scan begins one, for a base of its own.
abbrev pub begins_base : Database → Deployment → ℕ → SiteState → Turn SiteState
begins_base E D i s =
    sending
    (record s { scans = s.scans + 1; scanning = Some (ForBase (s.scans + 1) (length s.log) 0 0 None) })
    (starts_scan E D i s i s.start)

-- the entry is appended and applied
abbrev pub appends : Database → Deployment → ℕ → Entry → SiteState → Turn SiteState
appends E D i e s =
    let b = record s { log = s.log ++ e ∷ [] } in
    if is_snapshot e && is_none b.scanning && not (is_joiner b) then begins_base E D i b else becomes b

abbrev pub appends_all : Database → Deployment → ℕ → List Entry → SiteState → Turn SiteState
appends_all E D i [] s = becomes s
appends_all E D i (e ∷ es) s = appends E D i e s ▸ appends_all E D i es

-- ---- the leader

-- the entry at the log's end, as Put to a copy and as Task to a joiner
abbrev pub put_to : Deployment → SiteState → Entry → ℕ → List ℕ → List Letter
put_to D s e slot others =
    if is_in slot others
    then letter_in (site_term s) (start_in_view D s.view slot) (msg.Put (length s.log) e s.floor) ∷ []
    else []

abbrev pub tasks_to : SiteState → Entry → ℕ → List Joiner → List Letter
tasks_to s e slot js =
    map (λ j. letter_in (site_term s) j.start (msg.Task (length s.log) e)) (filter (λ j. j.slot == slot) js)

abbrev pub passes_on : Deployment → ℕ → Entry → SiteState → Turn SiteState
passes_on D i e s =
    sending s (λ b. elim b as (λ _. List Letter) [
      | Site slot ↦ put_to D s e slot (other_copies D i s) ++ tasks_to s e slot s.joiners
      | _ ↦ []
    ])

-- the leader appends the entry, applies it, and sends it to the copies and the joiners
abbrev pub leads_with : Database → Deployment → ℕ → Entry → SiteState → Turn SiteState
leads_with E D i e s = appends E D i e s ▸ passes_on D i e

-- an answer waits until the entry at this position is firm
abbrev pub holds_at : ℕ → SiteState → Actor → Letter → SiteState
holds_at position s to l = record s { held = s.held ++ record { position = position; to = to; letter = l } ∷ [] }

-- one to the entry that is appended next
abbrev pub holds : SiteState → Actor → Letter → SiteState
holds s to l = holds_at (length s.log + 1) s to l

abbrev pub answers_held : ℕ → List Held → Actor → List Letter
answers_held firm held b = map (λ d. d.letter) (filter (λ d. nat_le d.position firm && same d.to b) held)

-- the answers to what is firm by now are sent
abbrev pub sends_firm : SiteState → Turn SiteState
sends_firm s =
    sending (record s { held = filter (λ d. nat_lt s.firm d.position) s.held }) (answers_held s.firm s.held)

abbrev pub reply_to : AskedCall → End → Letter
reply_to c e = letter_to c.start (msg.Reply c.call c.start e)

-- a call runs with this stamp as its point
abbrev pub runs_anew : Database → Deployment → ℕ → ℕ → AskedCall → SiteState → Turn SiteState
runs_anew E D i stamp c s =
    let e = Sp c.call c.client stamp c.body in
    let reply = answer_behind E (part_of_slot D i) s.log e in
    leads_with E D i e (holds s (Agent c.host) (reply_to c (end_of_reply reply)))

-- one that was run already is answered again, once all that the log has by now is firm
abbrev pub answers_again : AskedCall → End → SiteState → Turn SiteState
answers_again c e s = sends_firm (holds_at (length s.log) s (Agent c.host) (reply_to c e))

-- what the last reply to its client says of a call
abbrev pub known_to : Database → Deployment → ℕ → AskedCall → SiteState → Known
known_to E D i c s = known_by c.call (last_reply_to c.client (last_replies E (part_of_slot D i) s.log))

-- so a call runs, is answered again, or is dropped
abbrev pub runs_known : Database → Deployment → ℕ → ℕ → AskedCall → SiteState → Known → Turn SiteState
runs_known E D i stamp c s IsNew = runs_anew E D i stamp c s
runs_known E D i stamp c s (IsAnswered e) = answers_again c e s
runs_known E D i stamp c s IsPast = becomes s

abbrev pub runs_call : Database → Deployment → ℕ → ℕ → AskedCall → SiteState → Turn SiteState
runs_call E D i stamp c s = runs_known E D i stamp c s (known_to E D i c s)

abbrev pub runs_calls : Database → Deployment → ℕ → ℕ → List AskedCall → SiteState → Turn SiteState
runs_calls E D i stamp [] s = becomes s
runs_calls E D i stamp (c ∷ cs) s = runs_call E D i stamp c s ▸ runs_calls E D i stamp cs

-- A leader that has what its term begins with runs the calls that wait, unless a transaction is open.
abbrev pub works_calls : Database → Deployment → ℕ → ℕ → SiteState → Turn SiteState
works_calls E D i stamp s =
    if leads D i s && nothing_open s.log then runs_calls E D i stamp s.calls (record s { calls = [] }) else becomes s

-- SpCall: the call is queued.
abbrev pub on_sp_call : Database → Deployment → ℕ → ℕ → SiteState → AskedCall → Turn SiteState
on_sp_call E D i stamp s c = works_calls E D i stamp (record s { calls = s.calls ++ c ∷ [] })

-- the initiator of its word: the agent, and what goes to it in the term
abbrev pub holds_for : SiteState → Option (ℕ × ℕ) → Msg Blocks → SiteState
holds_for s None m = s
holds_for s (Some first) m = holds s (Agent first.0) (letter_in (site_term s) first.1 m)

abbrev pub initiator_in : Option Membership → Option (ℕ × ℕ)
initiator_in None = None
initiator_in (Some w) = initiator w

-- Frag: the leader appends it; when it is firm the initiator gets FragDone with the partition's part.
abbrev pub on_frag : Database → Deployment → ℕ → SiteState → ℕ → ℕ → List ℕ → Turn SiteState
on_frag E D i s m round body =
    let e = Frag m round body in
    let partial = answer_behind E (part_of_slot D i) s.log e in
    if leads D i s
    then leads_with E D i e (holds_for s (initiator_in s.view) (msg.FragDone m round partial))
    else becomes s

-- Done: the leader appends it; when it is firm the initiator gets Finished. Then it works its queue.
abbrev pub on_done : Database → Deployment → ℕ → ℕ → SiteState → ℕ → Outcome → Turn SiteState
on_done E D i stamp s m o =
    if leads D i s
    then leads_with E D i (Done m o) (holds_for s (initiator_in s.view) (msg.Finished m)) ▸ works_calls E D i stamp
    else becomes s

-- ---- what is firm

-- the position that a copy acknowledged in this term
abbrev pub acked_in : List (ℕ × ℕ) → ℕ → Option ℕ
acked_in [] slot = None
acked_in (a ∷ acks) slot = if a.0 == slot then Some a.1 else acked_in acks slot

-- The leader acknowledges to itself as a copy does: its own position counts under its own mark of the term.
abbrev pub own_ack : SiteState → Option ℕ
own_ack s = if s.mark == site_term s then Some s.on_disk else None

-- what all copies acknowledged, its own included
abbrev pub copy_acks : Deployment → ℕ → SiteState → List (Option ℕ)
copy_acks D i s = own_ack s ∷ map (acked_in s.acks) (other_copies D i s)

-- the least of these positions, where each is known
abbrev pub lesser : Option ℕ → Option ℕ → Option ℕ
lesser (Some a) (Some b) = Some (min a b)
lesser _ _ = None

abbrev pub least : Option ℕ → List (Option ℕ) → Option ℕ
least a [] = a
least a (b ∷ bs) = lesser a (least b bs)

abbrev pub least_of : List (Option ℕ) → Option ℕ
least_of [] = None
least_of (a ∷ as_) = least a as_

abbrev pub at_least : ℕ → Option ℕ → ℕ
at_least n None = n
at_least n (Some x) = max n x

-- Entries that all copies have on disk, and above its stream_start each joiner that the leader counts too, are firm.
abbrev pub firm_now : Deployment → ℕ → SiteState → ℕ
firm_now D i s =
    at_least s.firm (least_of (copy_acks D i s ++ map (λ j. Some (max j.stream_start j.position)) s.joiners))

-- The floor is the least acknowledged position over copies and joiners.
abbrev pub floor_now : Deployment → ℕ → SiteState → ℕ
floor_now D i s = at_least s.floor (least_of (copy_acks D i s ++ map (λ j. Some j.position) s.joiners))

abbrev pub counts : Deployment → ℕ → SiteState → Turn SiteState
counts D i s =
    if leads D i s then sends_firm (record s { firm = firm_now D i s; floor = floor_now D i s }) else becomes s

abbrev pub with_position : ℕ → ℕ → Joiner → Joiner
with_position slot position j = if j.slot == slot then record j { position = position } else j

-- Ack: the leader notes it, for the copy and for the joiner of that slot. Then it counts what is firm.
abbrev pub noted : Deployment → ℕ → SiteState → ℕ → ℕ → SiteState
noted D i s slot position =
    record s {
      acks = if is_in slot (other_copies D i s) then (slot, position) ∷ filter (λ a. not (a.0 == slot)) s.acks else s.acks;
      joiners = map (with_position slot position) s.joiners;
    }

abbrev pub on_ack : Deployment → ℕ → SiteState → ℕ → ℕ → Turn SiteState
on_ack D i s slot position = if is_leader D i s then counts D i (noted D i s slot position) else becomes s

-- ---- a new term

-- what a copy lacks that reported this, behind its position
abbrev pub repair_to : Deployment → SiteState → ℕ → List Reported → List Letter
repair_to D s slot [] = []
repair_to D s slot (r ∷ rs) =
    if r.slot == slot
    then letter_in (site_term s) (start_in_view D s.view slot) (msg.Repair r.position (drop r.position s.log)) ∷ []
    else repair_to D s slot rs

-- the leader owes its mark, sends Repair, and works its queue
abbrev pub is_repaired : Database → Deployment → ℕ → ℕ → SiteState → Turn SiteState
is_repaired E D i stamp s =
    sending (record s { repaired = true; owes = Some (site_term s); reports = [] }) (λ b. elim b as (λ _. List Letter) [
      | Site slot ↦ repair_to D s slot s.reports
      | _ ↦ []
    ])
    ▸ works_calls E D i stamp

-- the first of those that reported the greatest position, if that is above this one
abbrev pub longest : ℕ → Option Reported → List Reported → Option Reported
longest end best [] = best
longest end best (r ∷ rs) = if nat_lt end r.position then longest r.position (Some r) rs else longest end best rs

abbrev pub lacks : ℕ → Option Reported → List Entry
lacks end None = []
lacks end (Some r) = drop (end - r.floor) r.tail

-- with all reports the leader takes the longest log, and appends and applies what it lacks
abbrev pub repairs : Database → Deployment → ℕ → ℕ → SiteState → Turn SiteState
repairs E D i stamp s =
    if list_all (λ c. list_any (λ r. r.slot == c) s.reports) (other_copies D i s)
    then appends_all E D i (lacks (length s.log) (longest (length s.log) None s.reports)) s ▸ is_repaired E D i stamp
    else becomes s

-- Report: the leader waits for all.
abbrev pub on_report : Database → Deployment → ℕ → ℕ → SiteState → ℕ → ℕ → ℕ → List Entry → Turn SiteState
on_report E D i stamp s slot position floor tail =
    if is_leader D i s && not s.repaired
    then repairs E D i stamp
    (record s { reports = s.reports ++ record { slot = slot; position = position; floor = floor; tail = tail } ∷ [] })
    else becomes s

-- what a copy reports to the leader
abbrev pub reports_to : Deployment → SiteState → Option ℕ → Sends
reports_to D s None b = []
reports_to D s (Some slot) b =
    only (Site slot)
    (letter_in (site_term s) (start_in_view D s.view slot) (msg.Report (length s.log) s.floor (drop s.floor s.log))) b

-- a joiner asks the leader of its partition; of its own slot it doesn't ask
abbrev pub asks_to_join : ℕ → Deployment → SiteState → Option ℕ → Sends
asks_to_join i D s None b = []
asks_to_join i D s (Some slot) b =
    if slot == i then []
    else only (Site slot) (letter_in (site_term s) (start_in_view D s.view slot) (msg.JoinAsk s.start i)) b

abbrev pub is_reply : Letter → Bool
is_reply l = elim l.body as (λ _. Bool) [
  | msg.Reply call start e ↦ true
  | _ ↦ false
]

-- The site takes the new term. A mark that it owes is cancelled. A leader forgets its joins, what the copies acknowledged,
-- and the answers to the initiator that it still owes; the replies to calls stay.
abbrev pub in_new_term : SiteState → Membership → SiteState
in_new_term s w =
    record s {
      view = Some w;
      greatest = max s.greatest (term_of w);
      owes = None;
      repaired = false;
      reports = [];
      acks = [];
      held = filter (λ d. is_reply d.letter) s.held;
      joiners = [];
      has_told = false;
      asks = [];
    }

-- a copy reports; a leader waits for all reports, and has them where it is alone
abbrev pub as_member : Database → Deployment → ℕ → ℕ → SiteState → Turn SiteState
as_member E D i stamp s =
    if is_leader D i s then repairs E D i stamp s
    else sending s (reports_to D s (leader_in D s.view (part_of_slot D i)))

-- View: a joiner that the word doesn't admit asks the leader to join; one that it admits is a copy from now on.
abbrev pub on_view : Database → Deployment → ℕ → ℕ → SiteState → Membership → Turn SiteState
on_view E D i stamp s w =
    let b = in_new_term s w in
    if is_joiner b && not (is_member w (host_of_slot D i) b.start)
    then sending b (asks_to_join i D b (leader_in D b.view (part_of_slot D i)))
    else as_member E D i stamp (record b { joining = None })

-- ---- a copy

-- Put: the copy appends and applies the entry, and forgets its repair entries up to the floor.
abbrev pub on_put : Database → Deployment → ℕ → SiteState → ℕ → Entry → ℕ → Turn SiteState
on_put E D i s position e floor = appends E D i e (record s { floor = max s.floor floor })

-- Repair: it appends and applies what it lacks, and owes its mark.
abbrev pub on_repair : Database → Deployment → ℕ → SiteState → ℕ → List Entry → Turn SiteState
on_repair E D i s from entries =
    appends_all E D i (drop (length s.log - from) entries) (record s { owes = Some (site_term s); repaired = true })

-- ---- joins, at the leader

-- The leader can take a joiner: its mark is on disk, no transaction is open, no scan runs, the joiner's start isn't lost in
-- its word, and it counts no joiner of that slot. A later start of a slot that it counts would take no stream of its term.
abbrev pub is_lost_in : Option Membership → ℕ → Bool
is_lost_in None start = false
is_lost_in (Some w) start = is_in start w.lost

abbrev pub can_take : Deployment → ℕ → SiteState → Ask → Bool
can_take D i s a =
    leads D i s && s.mark == site_term s && nothing_open s.log && is_none s.scanning && not (is_lost_in s.view a.start)
    && not (list_any (λ j. j.slot == a.slot) s.joiners)

-- what the stream begins with
abbrev pub stream_head : Database → Deployment → ℕ → SiteState → StreamHead
stream_head E D i s =
    record {
      stream_start = length s.log;
      mark = site_term s;
      applied = applied_in s.log;
      last = last_done E (part_of_slot D i) s.log;
      replies = last_replies E (part_of_slot D i) s.log;
    }

-- It fixes the position stream_start, and sends StreamStart. A scan begins for the joiner, which gets Task from stream_start on.
abbrev pub takes_joiner : Database → Deployment → ℕ → Ask → SiteState → Turn SiteState
takes_joiner E D i a s =
    sending
    (record s {
      joiners = s.joiners ++ record { slot = a.slot; start = a.start; stream_start = length s.log; position = length s.log; count = None } ∷ [];
      scans = s.scans + 1;
      scanning = Some (ForJoiner (s.scans + 1) a.slot);
    })
    (λ b. only (Site a.slot) (record (letter_in (site_term s) a.start (msg.StreamStart (stream_head E D i s))) { past = s.log }) b
    ++ starts_scan E D i s a.slot a.start b)

-- the requests without the first that can be taken
abbrev pub without_first : (Ask → Bool) → List Ask → List Ask
without_first can [] = []
without_first can (a ∷ asks) = if can a then asks else a ∷ without_first can asks

abbrev pub takes_first_ask : Database → Deployment → ℕ → SiteState → Option Ask → Turn SiteState
takes_first_ask E D i s None = becomes s
takes_first_ask E D i s (Some a) = takes_joiner E D i a (record s { asks = without_first (can_take D i s) s.asks })

-- A request to join that was kept is taken up once its condition holds, at the end of the event.
abbrev pub takes_asks : Database → Deployment → ℕ → SiteState → Turn SiteState
takes_asks E D i s = takes_first_ask E D i s (find (can_take D i s) s.asks)

-- JoinAsk: the leader keeps the request until it can be taken.
abbrev pub on_join_ask : SiteState → ℕ → ℕ → SiteState
on_join_ask s start slot = record s { asks = s.asks ++ record { slot = slot; start = start } ∷ [] }

-- the joiner is told how many blocks it was sent, once its stream_start is firm
abbrev pub is_sent : SiteState → Joiner → Bool
is_sent s j = is_some j.count && nat_le j.stream_start s.firm

abbrev pub stream_ends_to : SiteState → ℕ → List Letter
stream_ends_to s slot =
    map (λ j. letter_in (site_term s) j.start (msg.StreamEnd (unwrap_or j.count 0)))
    (filter (λ j. j.slot == slot && is_sent s j) s.joiners)

abbrev pub without_count : SiteState → Joiner → Joiner
without_count s j = if is_sent s j then record j { count = None } else j

abbrev pub ends_streams : SiteState → Turn SiteState
ends_streams s =
    sending (record s { joiners = map (without_count s) s.joiners })
    (λ b. elim b as (λ _. List Letter) [
      | Site slot ↦ stream_ends_to s slot
      | _ ↦ []
    ])

abbrev pub with_count : ℕ → ℕ → Joiner → Joiner
with_count slot count j = if j.slot == slot then record j { count = Some count } else j

-- ScanEnd: for a join the joiner is told, once stream_start is firm; for a snapshot the base may be finished.
abbrev pub on_scan_end : SiteState → Option Scanning → ℕ → ℕ → SiteState
on_scan_end s None id count = s
on_scan_end s (Some (ForJoiner own slot)) id count =
    if own == id
    then record s { scanning = None; joiners = map (with_count slot count) s.joiners }
    else s
on_scan_end s (Some (ForBase own position blocks written ended)) id count =
    if own == id then record s { scanning = Some (ForBase own position blocks written (Some count)) } else s

-- ---- joins, at the joiner

abbrev pub with_joining : SiteState → Joining → SiteState
with_joining s j = record s { joining = Some j }

-- with all blocks the load is finished, and the tasks that came are applied
abbrev pub may_finish : Joining → Bool
may_finish j = is_some j.stream && not j.is_loaded && is_some_of j.count j.blocks

abbrev pub finishes_load : SiteState → Joining → SiteState
finishes_load s j =
    if may_finish j
    then record s { joining = Some (record j { is_loaded = true; tasks = [] }); log = s.log ++ j.tasks }
    else with_joining s j

-- A stream is taken only in a term above those that the slot's earlier starts had.
abbrev pub may_stream : SiteState → Joining → Letter → Bool
may_stream s j l = is_none j.stream && nat_lt s.earlier l.term

-- StreamStart: a joiner wipes its disk and begins a base.
abbrev pub takes_stream : SiteState → Joining → Letter → StreamHead → SiteState
takes_stream s j l head =
    if may_stream s j l
    then record s {
      joining = Some (record j { stream = Some (record { stream_start = head.stream_start; mark = head.mark }) });
      log = l.past;
      floor = head.stream_start;
      contents = None ∷ [];
    }
    else s

abbrev pub on_stream_start : SiteState → Option Joining → Letter → StreamHead → SiteState
on_stream_start s None l head = s
on_stream_start s (Some j) l head = takes_stream s j l head

-- Chunk: a joiner loads the block; it is kept for the base.
abbrev pub on_chunk : SiteState → Option Joining → Option Scanning → ℕ → SiteState
on_chunk s (Some j) scanning id = finishes_load s (record j { blocks = j.blocks + 1 })
on_chunk s None (Some (ForBase own position blocks written count)) id =
    if own == id then record s { scanning = Some (ForBase own position (blocks + 1) written count) } else s
on_chunk s None scanning id = s

-- StreamEnd: with all blocks it finishes its load and applies its tasks.
abbrev pub on_stream_end : SiteState → Option Joining → ℕ → SiteState
on_stream_end s None count = s
on_stream_end s (Some j) count = if is_some j.stream then finishes_load s (record j { count = Some count }) else s

-- Task: it is kept, or applied after the load. Without a stream it is dropped.
abbrev pub on_task : SiteState → Option Joining → Entry → SiteState
on_task s None e = s
on_task s (Some j) e =
    if is_some j.stream
    then (if j.is_loaded then record s { log = s.log ++ e ∷ [] } else with_joining s (record j { tasks = j.tasks ++ e ∷ [] }))
    else s

-- ---- what follows the handler of a message

-- how its partition stands: the transaction that is open, or the last one that was done, and the last replies
abbrev pub standing : Option ℕ → Option (ℕ × Outcome) → List LastReply → Msg Blocks
standing (Some m) last replies = msg.MpState m true None replies
standing None None replies = msg.MpState 0 false None replies
standing None (Some last) replies = msg.MpState last.0 false (Some last.1) replies

-- all copies, itself included, have the mark of the term and every entry of its log on disk
abbrev pub has_all_on_disk : Deployment → ℕ → SiteState → Bool
has_all_on_disk D i s = list_all (λ a. is_some_of a (length s.log)) (copy_acks D i s)

-- the first term after the boot or a recovery
abbrev pub is_first_term : Option Membership → Bool
is_first_term None = true
is_first_term (Some w) = term_of w == w.base

abbrev pub tells_initiator : Database → Deployment → ℕ → SiteState → Option (ℕ × ℕ) → Turn SiteState
tells_initiator E D i s None = becomes s
tells_initiator E D i s (Some first) =
    sending (record s { has_told = true })
    (only (Agent first.0)
    (letter_in (site_term s) first.1
    (standing (open_in s.log) (last_done E (part_of_slot D i) s.log) (last_replies E (part_of_slot D i) s.log))))

-- MpState is sent once in each term but the first, when all that the leader has is on the disks of all copies.
abbrev pub tells : Database → Deployment → ℕ → SiteState → Turn SiteState
tells E D i s =
    if leads D i s && not s.has_told && not (is_first_term s.view) && has_all_on_disk D i s
    then tells_initiator E D i s (initiator_in s.view)
    else becomes s

-- a look is answered by a member, once no transaction is open
abbrev pub looked : Database → Deployment → ℕ → SiteState → Letter
looked E D i s =
    open_letter (msg.Looked (length (applied_in s.log)) (E.tables.rows (replay E (part_of_slot D i) s.log)))

abbrev pub shows : Database → Deployment → ℕ → SiteState → Turn SiteState
shows E D i s =
    if nat_lt 0 s.looks && nothing_open s.log
    then sending (record s { looks = 0 }) (λ b. elim b as (λ _. List Letter) [
      | Director ↦ replicate s.looks (looked E D i s)
      | _ ↦ []
    ])
    else becomes s

abbrev pub on_look : SiteState → SiteState
on_look s = if is_joiner s then s else record s { looks = s.looks + 1 }

abbrev pub settles : Database → Deployment → ℕ → SiteState → Turn SiteState
settles E D i s = tells E D i s ▸ ends_streams ▸ shows E D i ▸ takes_asks E D i

-- ---- the order of what one event puts into one channel: Put, Task and Repair; Reply, FragDone and Finished; MpState; others

abbrev pub order_of : Letter → ℕ
order_of l = elim l.body as (λ _. ℕ) [
  | msg.Put position e floor ↦ 1
  | msg.Task position e ↦ 1
  | msg.Repair from entries ↦ 1
  | msg.Reply call start e ↦ 2
  | msg.FragDone m round partial ↦ 2
  | msg.Finished m ↦ 2
  | msg.MpState m is_open outcome replies ↦ 3
  | _ ↦ 4
]

abbrev pub of_order : ℕ → List Letter → List Letter
of_order n ls = filter (λ l. order_of l == n) ls

abbrev pub ordered : Turn SiteState → Turn SiteState
ordered t =
    sending t.state
    (λ b. of_order 1 (t.sends b) ++ of_order 2 (t.sends b) ++ of_order 3 (t.sends b) ++ of_order 4 (t.sends b))

-- ---- what it does with each message

abbrev pub from_agent : Database → Deployment → ℕ → ℕ → SiteState → ℕ → Letter → Turn SiteState
from_agent E D stamp i s h l = elim l.body as (λ _. Turn SiteState) [
  | msg.SpCall call start client body ↦
      on_sp_call E D i stamp s (record { call = call; client = client; host = h; start = start; body = body })
  | msg.View w ↦ on_view E D i stamp s w
  | msg.Frag m round body ↦ on_frag E D i s m round body
  | msg.Done m o ↦ on_done E D i stamp s m o
  | _ ↦ becomes s
]

abbrev pub from_site : Database → Deployment → ℕ → ℕ → SiteState → ℕ → Letter → Turn SiteState
from_site E D stamp i s slot l = elim l.body as (λ _. Turn SiteState) [
  | msg.Put position e floor ↦ on_put E D i s position e floor
  | msg.Ack position ↦ on_ack D i s slot position
  | msg.Report position floor tail ↦ on_report E D i stamp s slot position floor tail
  | msg.Repair from entries ↦ on_repair E D i s from entries
  | msg.JoinAsk start asking ↦ becomes (on_join_ask s start asking)
  | msg.StreamStart head ↦ becomes (on_stream_start s s.joining l head)
  | msg.StreamEnd count ↦ becomes (on_stream_end s s.joining count)
  | msg.Task position e ↦ becomes (on_task s s.joining e)
  | _ ↦ becomes s
]

abbrev pub from_scanner : SiteState → Letter → SiteState
from_scanner s l = elim l.body as (λ _. SiteState) [
  | msg.Chunk id bytes ↦ on_chunk s s.joining s.scanning id
  | msg.ScanEnd id count ↦ on_scan_end s s.scanning id count
  | _ ↦ s
]

abbrev pub from_director : SiteState → Letter → SiteState
from_director s l = elim l.body as (λ _. SiteState) [
  | msg.Look ↦ on_look s
  | _ ↦ s
]

abbrev pub site_handler : Database → Deployment → ℕ → ℕ → SiteState → Actor → Letter → Turn SiteState
site_handler E D stamp i s (Agent h) l = from_agent E D stamp i s h l
site_handler E D stamp i s (Site slot) l = from_site E D stamp i s slot l
site_handler E D stamp i s (Scanner x) l = becomes (from_scanner s l)
site_handler E D stamp i s Director l = becomes (from_director s l)
site_handler E D stamp i s (Client n) l = becomes s

-- The messages that waited for its term are taken after all else but a kept JoinAsk, in order of coming. A View is none of
-- them.
abbrev pub takes_each : Database → Deployment → ℕ → ℕ → List Waiting → SiteState → Turn SiteState
takes_each E D stamp i [] s = becomes s
takes_each E D stamp i (w ∷ ws) s = site_handler E D stamp i s w.from w.letter ▸ takes_each E D stamp i ws

abbrev pub takes_waiting : Database → Deployment → ℕ → ℕ → SiteState → Turn SiteState
takes_waiting E D stamp i s =
    takes_each E D stamp i (of_term (site_term s) s.waiting) (record s { waiting = above_term (site_term s) s.waiting })

-- Start: a site of a lower start is emptied and runs as a joiner, if the start is above each Stop that came to it. It
-- sends Start to its scanner.
abbrev pub on_start : ℕ → SiteState → ℕ → Turn SiteState
on_start i s start =
    if nat_lt s.start start && nat_lt s.stop start
    then sending (new_joiner s start) (only (Scanner i) (open_letter (msg.Start start)))
    else becomes s

-- Stop: it stops, if its start isn't above that. The greatest one that came is kept.
abbrev pub on_stop : SiteState → ℕ → SiteState
on_stop s start =
    let b = record s { stop = max s.stop start } in
    if nat_le b.start start then stopped_site b else b

-- Power: a cut of power is planned for its disk, also while it is stopped.
abbrev pub on_power : SiteState → ℕ → ℕ → SiteState
on_power s call choice = record s { plans = s.plans ++ (call, choice) ∷ [] }

abbrev pub site_runs : Database → Deployment → ℕ → ℕ → SiteState → Actor → Letter → Turn SiteState
site_runs E D stamp i s from l = elim (arrival s.start (site_term s) l) as (λ _. Turn SiteState) [
  | Taken ↦ ordered (site_handler E D stamp i s from l ▸ takes_waiting E D stamp i ▸ settles E D i)
  | Waits ↦ becomes (record s { waiting = s.waiting ++ record { from = from; letter = l } ∷ [] })
  | Refused ↦ becomes s
]

-- The site of slot i after a message, and what it sends. One that is stopped takes Start, Stop and Power alone.
abbrev pub site_takes : Database → Deployment → ℕ → ℕ → SiteState → Actor → Letter → Turn SiteState
site_takes E D stamp i s from l = elim l.body as (λ _. Turn SiteState) [
  | msg.Start start ↦ on_start i s start
  | msg.Stop start ↦ becomes (on_stop s start)
  | msg.Power call choice ↦ becomes (on_power s call choice)
  | _ ↦ if s.start == 0 then becomes s else site_runs E D stamp i s from l
]
