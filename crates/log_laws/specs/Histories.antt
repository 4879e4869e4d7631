-- The history by which the law of logs is proved, and what holds of a world's sites and its history in every run.
use Rattle.std.proofs.Common.{◌≡◌, ◌<◌, Bool, true, false, List, [], ◌∷◌, ◌++◌, ◌⊎◌, ◌==◌, ◌+◌}
use Rattle.std.specs.Prelude.{ℕ, ◌≤◌, ◌&&◌, not, nat_lt, if◌then◌else◌, max, map, filter, flat_map, drop, length, Option, Some, None, is_some}
use Rattle.std.specs.List.{AllByRecursion, list_any}
use Rattle.volt_base.specs.declared.entry.Entry.{Entry}
use Rattle.volt_wire.specs.Word.{Membership}
use Rattle.volt_wire.specs.declared.actor.Actor.{Actor}
use Rattle.volt_wire.specs.declared.actor.Actor.TheVariants.{Agent, Site}
use Rattle.volt_wire.specs.declared.message.Msg.{Msg}
use Rattle.volt_wire.specs.declared.message.Msg.TheVariants as msg
use Rattle.cluster_model.specs.Words.{Deployment, slots, part_of_slot, host_of_slot, is_slot_of, is_in, term_of, term_in, start_of_slot, leader, is_some_of}
use Rattle.cluster_model.specs.Letters.{Blocks, same, Letter, Waiting}
use Rattle.cluster_model.specs.AgentState.{AgentState}
use Rattle.cluster_model.specs.declared.initiating.Queued.{Queued}
use Rattle.cluster_model.specs.declared.initiating.Queued.TheVariants.{ToRun, Admission}
use Rattle.cluster_model.specs.SiteState.{SiteState, Streamed, Joining, Held, Joiner, Ask, is_leader, site_term}
use Rattle.cluster_model.specs.Laws.{RiseFrom, start_in_letter, starts_in}
use Rattle.word_laws.specs.Histories as word
use Rattle.cluster_steps.specs.Lists.{In, Prefix}
use Rattle.word_laws.specs.Histories.{State, Admitted, Distinct}

-- ---- the history of an epoch, from the boot, or a recovery that worked, to the next one

-- With what a slot's site entered a term as a member of its word: its start, its log, and how much it knew to be everywhere.
pub record Entered : Type 0 where
  pub start : ℕ
  pub log : List Entry
  pub floor : ℕ
  pub firm : ℕ

-- the start of a slot that took the stream of a term, and the position at which that began
pub record Streaming : Type 0 where
  pub start : ℕ
  pub stream_start : ℕ

-- The log with which a partition's leader began a term, once it had all reports, and its log as it stands, or stood when the
-- leader stopped or took a later term.
pub record Leadership : Type 0 where
  pub begun : List Entry
  pub log : List Entry

pub record Logs : Type 0 where
  -- the starts with which a slot's site ran, the last one first
  pub ran : ℕ → List ℕ
  -- by slot and term
  pub entered : ℕ → ℕ → Option Entered
  pub streamed : ℕ → ℕ → Option Streaming
  -- by partition and term
  pub leadership : ℕ → ℕ → Option Leadership
  -- the greatest position that a copy of a partition took to be everywhere in a term: as its floor, or as firm
  pub reach : ℕ → ℕ → ℕ

-- what the law of logs looks at in a world, with the history of its words and that of its logs
pub record LogState : Type 0 where
  pub words : State
  pub sites : ℕ → SiteState
  -- what waited for the term that a site has come to, while it is taking that, one after another
  pub pending : ℕ → List Waiting
  pub logs : Logs

abbrev pub deployment : LogState → Deployment
deployment S = S.words.deployment

abbrev pub part : LogState → ℕ → ℕ
part S c = part_of_slot S.words.deployment c

abbrev pub site_start : LogState → ℕ → ℕ
site_start S c = (S.sites c).start

abbrev pub log_at : LogState → ℕ → List Entry
log_at S c = (S.sites c).log

abbrev pub term_at : LogState → ℕ → ℕ
term_at S c = site_term (S.sites c)

-- a slot of the deployment
abbrev pub IsSlot : LogState → ℕ → Type 0
IsSlot S c = nat_lt c (slots S.words.deployment) ≡ true

abbrev pub epoch_base : LogState → ℕ
epoch_base S = S.words.history.first.base

-- the messages from one slot's site to another's
abbrev pub between : LogState → ℕ → ℕ → List Letter
between S i c = S.words.channel (Site i) (Site c)

-- those from its own host's agent to a slot's site
abbrev pub agent_to_site : LogState → ℕ → List Letter
agent_to_site S c = S.words.channel (Agent (host_of_slot S.words.deployment c)) (Site c)

-- a decided word of the epoch, and its term
pub record WordOf (S : LogState) (t : ℕ) (w : Membership) : Type 0 where
  pub decided : In w S.words.history.decided
  pub term_is : term_of w ≡ t

-- ---- terms

-- the last term below t in which the partition had a leader with what its term began with
pub record Last (G : Logs) (p v t : ℕ) : Type 0 where
  pub leadership : Leadership
  pub led : G.leadership p v ≡ Some leadership
  pub below : v < t
  pub greatest : (x : ℕ) (g : Leadership) → G.leadership p x ≡ Some g → x < t → x ≤ v

-- in no term from v on, below t, did it have one
abbrev pub Unled : Logs → ℕ → ℕ → ℕ → Type 0
Unled G p v t = (x : ℕ) (g : Leadership) → G.leadership p x ≡ Some g → v ≤ x → x < t → ⊥

-- the start of a slot was in a term: as a member of its word, or with its stream
abbrev pub WasIn : LogState → ℕ → ℕ → ℕ → Type 0
WasIn S c t a =
    ((e : Entered) × (S.logs.entered c t ≡ Some e) × (e.start ≡ a))
    ⊎ ((x : Streaming) × (S.logs.streamed c t ≡ Some x) × (x.start ≡ a))

-- ---- what is under way from a leader to a copy

-- what a copy is to append: what its leader's term began with, behind a position, or one entry more
pub data Line : Type 0 where
  Repairs : (from : ℕ) (entries : List Entry) → Line
  Puts : (entry : Entry) → Line

abbrev pub line_in : Msg Blocks → List Line
line_in m = elim m as (λ _. List Line) [
  | msg.Repair from entries ↦ Repairs from entries ∷ []
  | msg.Put position e floor ↦ Puts e ∷ []
  | _ ↦ []
]

-- whether a letter is for a start and of a term
abbrev pub is_for : ℕ → ℕ → Letter → Bool
is_for start term l = l.start == start && l.term == term

abbrev pub line_of : ℕ → ℕ → Letter → List Line
line_of start term l = if is_for start term l then line_in l.body else []

abbrev pub line : ℕ → ℕ → List Letter → List Line
line start term ls = flat_map (line_of start term) ls

-- to a joiner: the log whose tables are streamed, and its length as told, or one entry more
pub data Flow : Type 0 where
  Begins : (past : List Entry) (stream_start : ℕ) → Flow
  Follows : (entry : Entry) → Flow

abbrev pub flow_in : List Entry → Msg Blocks → List Flow
flow_in past m = elim m as (λ _. List Flow) [
  | msg.StreamStart head ↦ Begins past head.stream_start ∷ []
  | msg.Task position e ↦ Follows e ∷ []
  | _ ↦ []
]

abbrev pub flow_of : ℕ → ℕ → Letter → List Flow
flow_of start term l = if is_for start term l then flow_in l.past l.body else []

abbrev pub flow : ℕ → ℕ → List Letter → List Flow
flow start term ls = flat_map (flow_of start term) ls

-- that a stream is whole
abbrev pub end_in : Msg Blocks → List ℕ
end_in m = elim m as (λ _. List ℕ) [
  | msg.StreamEnd count ↦ count ∷ []
  | _ ↦ []
]

abbrev pub end_of : ℕ → ℕ → Letter → List ℕ
end_of start term l = if is_for start term l then end_in l.body else []

abbrev pub stream_ends_in : ℕ → ℕ → List Letter → List ℕ
stream_ends_in start term ls = flat_map (end_of start term) ls

-- ---- who asks to join

abbrev pub ask_in : Msg Blocks → List ℕ
ask_in m = elim m as (λ _. List ℕ) [
  | msg.JoinAsk start slot ↦ start ∷ []
  | _ ↦ []
]

abbrev pub ask_of : ℕ → Letter → List ℕ
ask_of term l = if l.term == term then ask_in l.body else []

abbrev pub asks_in : ℕ → List Letter → List ℕ
asks_in term ls = flat_map (ask_of term) ls

abbrev pub wait_of : ℕ → ℕ → Waiting → List ℕ
wait_of c term x = if same x.from (Site c) then ask_of term x.letter else []

abbrev pub asks_waiting : ℕ → ℕ → List Waiting → List ℕ
asks_waiting c term ws = flat_map (wait_of c term) ws

abbrev pub asks_kept : ℕ → List Ask → List ℕ
asks_kept c asks = map (λ a. a.start) (filter (λ a. a.slot == c) asks)

-- those that a leader keeps are of its own term
abbrev pub asks_of_term : ℕ → ℕ → SiteState → List ℕ
asks_of_term c term s = if site_term s == term then asks_kept c s.asks else []

-- the starts by which slot c asked slot l in a term, where that wasn't answered
abbrev pub asked : LogState → ℕ → ℕ → ℕ → List ℕ
asked S c l term =
    asks_in term (between S c l) ++ asks_waiting c term (S.sites l).waiting ++ asks_waiting c term (S.pending l)
    ++ asks_of_term c term (S.sites l)

-- ---- what was said of a slot in a term, wherever it is known

-- The slot ran with this start, in or after this term. If it runs with another one by now, that takes no stream of this term.
pub record HasBeen (S : LogState) (c t a : ℕ) : Type 0 where
  pub some : 0 < a
  pub ran : In a (S.logs.ran c)
  pub greatest : t ≤ (S.sites c).greatest
  pub others : 0 < site_start S c → (site_start S c ≡ a → ⊥) → t ≤ (S.sites c).earlier

-- A slot acknowledged n in term t: with the start that was in that term its log is no shorter, now and in later terms.
pub record AckOk (S : LogState) (c t n : ℕ) : Type 0 where
  pub start : ℕ
  pub some : 0 < start
  pub was : WasIn S c t start
  pub now : site_start S c ≡ start → n ≤ length (log_at S c)
  pub later : (u : ℕ) (e : Entered) → t < u → S.logs.entered c u ≡ Some e → e.start ≡ start → n ≤ length e.log

-- A slot of partition p reported in term t what it entered that term with.
pub record ReportOk (S : LogState) (p c t position floor : ℕ) (tail : List Entry) : Type 0 where
  pub entered : Entered
  pub is_entered : S.logs.entered c t ≡ Some entered
  pub position_is : position ≡ length entered.log
  pub floor_is : floor ≡ entered.floor
  pub tail_is : tail ≡ drop entered.floor entered.log
  pub part_is : part S c ≡ p
  -- it isn't its partition's leader then
  pub word : Membership
  pub is_word : WordOf S t word
  pub follower : leader S.words.deployment word p ≡ Some c → ⊥

-- a site is a joiner that has this word
abbrev pub JoinsIn : LogState → ℕ → Membership → Type 0
JoinsIn S c w = (j : Joining) × ((S.sites c).joining ≡ Some j) × ((S.sites c).view ≡ Some w)

-- A start of a slot of partition p asked to join in term t. If it runs, it is a joiner in that term.
pub record AsksToJoin (S : LogState) (p c t a : ℕ) : Type 0 where
  pub been : HasBeen S c t a
  pub part_is : part S c ≡ p
  pub joins : site_start S c ≡ a → (w : Membership) × JoinsIn S c w × (term_of w ≡ t)

-- A joiner that the leader of a term counts.
pub record CountedOk (S : LogState) (p t : ℕ) (j : Joiner) : Type 0 where
  pub been : HasBeen S j.slot t j.start
  pub part_is : part S j.slot ≡ p
  pub reached : site_start S j.slot ≡ j.start → t ≤ term_at S j.slot
  -- once it is a copy, what it acknowledged was in the log with which it entered a term
  pub later : (x : Streaming) → S.logs.streamed j.slot t ≡ Some x → x.start ≡ j.start
      → (u : ℕ) (e : Entered) → t < u → S.logs.entered j.slot u ≡ Some e → e.start ≡ j.start → j.position ≤ max j.stream_start (length e.log)
  pub position : site_start S j.slot ≡ j.start → (S.sites j.slot).earlier < t → j.position ≤ max j.stream_start (length (log_at S j.slot))

-- The leader of this word, while it is in its term, counts this start of a slot, from this position on.
abbrev pub IsCounted : LogState → ℕ → ℕ → ℕ → Membership → Type 0
IsCounted S c a stream_start w =
    (l : ℕ) → leader S.words.deployment w (part S c) ≡ Some l → 0 < site_start S l → (S.sites l).joining ≡ None → (S.sites l).view ≡ Some w
    → (j : Joiner) × In j (S.sites l).joiners × (j.slot ≡ c) × (j.start ≡ a) × (j.stream_start ≡ stream_start)

-- The position at which a stream begins: it isn't told yet that this is everywhere.
abbrev pub BeginsAt : ℕ → Flow → Type 0
BeginsAt n (Begins past stream_start) = stream_start ≡ n
BeginsAt n (Follows e) = Unit {0}

-- To slot c from slot i: the stream of this start is whole, and it began at a position that is everywhere.
pub record EndOk (S : LogState) (i c : ℕ) (l : Letter) : Type 0 where
  pub stream_start : ℕ
  pub everywhere : stream_start ≤ S.logs.reach (part S c) l.term
  pub begun : (j : Joining) → (S.sites c).joining ≡ Some j → site_start S c ≡ l.start → term_at S c ≡ l.term → (S.sites c).earlier < l.term
      → AllByRecursion (BeginsAt stream_start) (flow l.start l.term (between S i c))
  pub taken : site_start S c ≡ l.start → term_at S c ≡ l.term → (x : Streaming) → S.logs.streamed c l.term ≡ Some x → x.start ≡ l.start → x.stream_start ≡ stream_start

-- for a start and of a term
abbrev pub Addressed : Letter → Type 0
Addressed l = (0 < l.start) × (0 < l.term)

-- The receiver ran with the start that is meant, and has been in the letter's term, if it still does.
abbrev pub MeantFor : LogState → ℕ → Letter → Type 0
MeantFor S c l = Addressed l × In l.start (S.logs.ran c) × (site_start S c ≡ l.start → l.term ≤ term_at S c)

-- of a message from the site of slot i to that of slot c
abbrev pub SiteLetterOk : LogState → ℕ → ℕ → Letter → Type 0
SiteLetterOk S i c l = elim l.body as (λ _. Type 0) [
  | msg.Put position e floor ↦ MeantFor S c l × (floor ≤ S.logs.reach (part S c) l.term)
  | msg.Repair from entries ↦ MeantFor S c l
  | msg.Task position e ↦ MeantFor S c l
  | msg.StreamStart head ↦ MeantFor S c l
  | msg.StreamEnd count ↦ MeantFor S c l × EndOk S i c l
  | msg.Ack n ↦ Addressed l × AckOk S i l.term n
  | msg.Report position floor tail ↦ Addressed l × ReportOk S (part S c) i l.term position floor tail
  | msg.JoinAsk a slot ↦ Addressed l × (slot ≡ i) × AsksToJoin S (part S c) i l.term a
  | msg.Start a ↦ ⊥
  | _ ↦ Unit {0}
]

-- ---- sites

-- whether slot l is the leader that slot c follows by a word
abbrev pub follows : Deployment → Membership → ℕ → ℕ → Bool
follows D w c l = is_some_of (leader D w (part_of_slot D c)) l && not (l == c)

-- Of a copy, with what is under way to it from its leader: before the leader began its term nothing is. Then the copy is
-- repaired, and lacks what is under way; or its repair is under way, and then the rest.
abbrev pub FollowsIn : SiteState → List Line → Option Leadership → Type 0
FollowsIn s ln None = (s.repaired ≡ false) × (ln ≡ [])
FollowsIn s ln (Some g) =
    ((es : List Entry) × (s.repaired ≡ true) × (ln ≡ map Puts es) × (s.log ++ es ≡ g.log) × Prefix g.begun s.log)
    ⊎ ((es : List Entry) × (s.repaired ≡ false) × (ln ≡ Repairs (length s.log) (drop (length s.log) g.begun) ∷ map Puts es) × (g.begun ++ es ≡ g.log))

-- of the leader itself
abbrev pub LeadsIn : SiteState → Option Leadership → Type 0
LeadsIn s None = s.repaired ≡ false
LeadsIn s (Some g) = (s.repaired ≡ true) × (s.log ≡ g.log)

-- Of a site that runs as a member of this word: it entered the word's term with a log that has only grown since. Until the term
-- has begun for it, it stays as it was.
pub record MemberOk (S : LogState) (c : ℕ) (w : Membership) : Type 0 where
  pub decided : In w S.words.history.decided
  pub start_is : start_of_slot S.words.deployment w c ≡ Some (site_start S c)
  pub entered : Entered
  pub is_entered : S.logs.entered c (term_of w) ≡ Some entered
  pub since : entered.start ≡ site_start S c
  pub earlier : (S.sites c).earlier ≤ term_of w
  pub grown : Prefix entered.log (log_at S c)
  pub still : (S.sites c).repaired ≡ false → (log_at S c ≡ entered.log) × ((S.sites c).floor ≡ entered.floor) × ((S.sites c).firm ≡ entered.firm)
  pub floor : (S.sites c).floor ≤ S.logs.reach (part S c) (term_of w)
  pub firm : (S.sites c).firm ≤ S.logs.reach (part S c) (term_of w)
  pub leading : leader S.words.deployment w (part S c) ≡ Some c → LeadsIn (S.sites c) (S.logs.leadership (part S c) (term_of w))
  pub following : (l : ℕ) → follows S.words.deployment w c l ≡ true
      → FollowsIn (S.sites c) (line (site_start S c) (term_of w) (between S l c)) (S.logs.leadership (part S c) (term_of w))
  pub others : (l : ℕ) → follows S.words.deployment w c l ≡ false → line (site_start S c) (term_of w) (between S l c) ≡ []

-- A stream is under way to a joiner: the log that it begins with, and the entries behind that.
pub record Coming (S : LogState) (c : ℕ) (w : Membership) (fl : List Flow) : Type 0 where
  pub past : List Entry
  pub more : List Entry
  pub leadership : Leadership
  pub flow_is : fl ≡ Begins past (length past) ∷ map Follows more
  pub led : S.logs.leadership (part S c) (term_of w) ≡ Some leadership
  pub whole : past ++ more ≡ leadership.log
  pub behind : length leadership.begun ≤ length past
  pub reach : S.logs.reach (part S c) (term_of w) ≤ length past
  pub counted : IsCounted S c (site_start S c) (length past) w

-- A joiner has taken its stream.
pub record Took (S : LogState) (c : ℕ) (w : Membership) (j : Joining) (stream_start : ℕ) : Type 0 where
  pub from : ℕ
  pub following : follows S.words.deployment w c from ≡ true
  pub more : List Entry
  pub leadership : Leadership
  pub led : S.logs.leadership (part S c) (term_of w) ≡ Some leadership
  pub flow_is : flow (site_start S c) (term_of w) (between S from c) ≡ map Follows more
  pub whole : log_at S c ++ j.tasks ++ more ≡ leadership.log
  pub streamed : S.logs.streamed c (term_of w) ≡ Some (record { start = site_start S c; stream_start = stream_start })
  pub loading : j.is_loaded ≡ false → length (log_at S c) ≡ stream_start
  pub loaded : j.is_loaded ≡ true → j.tasks ≡ []
  pub ends : j.is_loaded ≡ true ⊎ is_some j.count ≡ true → stream_start ≤ S.logs.reach (part S c) (term_of w)
  pub floor : (S.sites c).floor ≡ stream_start
  pub asks : (l : ℕ) → IsSlot S l → asked S c l (term_of w) ≡ []

-- Nothing is under way to a joiner from its leader, which doesn't count it. It may have asked.
pub record Inert (S : LogState) (c : ℕ) (w : Membership) (l : ℕ) : Type 0 where
  pub flow_is : flow (site_start S c) (term_of w) (between S l c) ≡ []
  pub ends_are : stream_ends_in (site_start S c) (term_of w) (between S l c) ≡ []
  pub uncounted : (j : Joiner) → In j (S.sites l).joiners → j.slot ≡ c → j.start ≡ site_start S c → ⊥
  pub asks : IsSlot S l → (asked S c l (term_of w) ≡ []) ⊎ (asked S c l (term_of w) ≡ site_start S c ∷ [])

-- its start took no stream
abbrev pub NoStream : LogState → ℕ → Type 0
NoStream S c = (t : ℕ) (x : Streaming) → S.logs.streamed c t ≡ Some x → x.start ≡ site_start S c → ⊥

-- It hasn't. With a term above those of its slot's earlier starts it may.
pub record Untaken (S : LogState) (c : ℕ) (w : Membership) (j : Joining) : Type 0 where
  pub loads : j.is_loaded ≡ false
  pub counts : j.count ≡ None
  pub tasks : j.tasks ≡ []
  pub empty : log_at S c ≡ []
  pub floor : (S.sites c).floor ≡ 0
  pub never : NoStream S c
  pub comes : (l : ℕ) → follows S.words.deployment w c l ≡ true → (S.sites c).earlier < term_of w
      → Inert S c w l ⊎ (Coming S c w (flow (site_start S c) (term_of w) (between S l c)) × (asked S c l (term_of w) ≡ []))

abbrev pub StreamIn : LogState → ℕ → Membership → Joining → Option Streamed → Type 0
StreamIn S c w j None = Untaken S c w j
StreamIn S c w j (Some st) = Took S c w j st.stream_start

-- Of a joiner with the word that it took.
pub record InWord (S : LogState) (c : ℕ) (w : Membership) (j : Joining) : Type 0 where
  pub took : S.words.history.took (site_start S c) ≡ Some w
  pub lines : (l : ℕ) → line (site_start S c) (term_of w) (between S l c) ≡ []
  pub others : (l : ℕ) → follows S.words.deployment w c l ≡ false
      → (flow (site_start S c) (term_of w) (between S l c) ≡ []) × (stream_ends_in (site_start S c) (term_of w) (between S l c) ≡ [])
      × (IsSlot S l → (S.sites c).earlier < term_of w → asked S c l (term_of w) ≡ [])
  pub stream : StreamIn S c w j j.stream

-- Of one without a word yet.
pub record Wordless (S : LogState) (c : ℕ) (j : Joining) : Type 0 where
  pub stream : j.stream ≡ None
  pub loads : j.is_loaded ≡ false
  pub counts : j.count ≡ None
  pub tasks : j.tasks ≡ []
  pub empty : log_at S c ≡ []
  pub floor : (S.sites c).floor ≡ 0
  pub never : NoStream S c

abbrev pub ViewIn : LogState → ℕ → Joining → Option Membership → Type 0
ViewIn S c j None = Wordless S c j
ViewIn S c j (Some w) = InWord S c w j

pub record JoinerOk (S : LogState) (c : ℕ) (j : Joining) : Type 0 where
  pub runs : 0 < site_start S c
  pub unentered : (t : ℕ) (e : Entered) → S.logs.entered c t ≡ Some e → e.start ≡ site_start S c → ⊥
  pub told : j.has_told ≡ true → j.is_loaded ≡ true
  pub based : j.is_based ≡ true → j.is_loaded ≡ true
  pub firm : (S.sites c).firm ≡ 0
  pub view : ViewIn S c j (S.sites c).view

-- ---- what a site keeps

-- what waits for a higher term
abbrev pub SiteWaitingFrom : LogState → ℕ → Actor → Letter → Type 0
SiteWaitingFrom S c (Site i) l = elim l.body as (λ _. Type 0) [
  | msg.Put position e floor ↦ ⊥
  | msg.Repair from entries ↦ ⊥
  | msg.Task position e ↦ ⊥
  | msg.StreamStart head ↦ ⊥
  | msg.StreamEnd count ↦ ⊥
  | m ↦ SiteLetterOk S i c l
]
SiteWaitingFrom S c (Agent h) l = elim l.body as (λ _. Type 0) [
  | msg.View w ↦ ⊥
  | _ ↦ Unit {0}
]
SiteWaitingFrom S c from l = Unit {0}

abbrev pub SiteWaitingOk : LogState → ℕ → Waiting → Type 0
SiteWaitingOk S c x = ((x.letter.start ≡ 0) ⊎ (x.letter.start ≡ site_start S c)) × SiteWaitingFrom S c x.from x.letter

-- An answer that is held goes to an agent, and isn't that its site has loaded.
abbrev pub HeldFor : Actor → Letter → Type 0
HeldFor (Agent h) l = elim l.body as (λ _. Type 0) [
  | msg.Loaded a ↦ ⊥
  | _ ↦ Unit {0}
]
HeldFor to l = ⊥

abbrev pub HeldOk : Held → Type 0
HeldOk d = HeldFor d.to d.letter

-- of a site that runs
pub record KeepsOk (S : LogState) (c : ℕ) : Type 0 where
  pub acks : AllByRecursion (λ a. IsSlot S a.0 → AckOk S a.0 (term_at S c) a.1) (S.sites c).acks
  pub reports : AllByRecursion (λ r. ReportOk S (part S c) r.slot (term_at S c) r.position r.floor r.tail) (S.sites c).reports
  pub joiners : AllByRecursion (CountedOk S (part S c) (term_at S c)) (S.sites c).joiners
  pub alone : Distinct (map (λ j. j.slot) (S.sites c).joiners)
  pub leads : ((S.sites c).joiners ≡ []) ⊎ (is_leader S.words.deployment c (S.sites c) ≡ true)
  pub asks : AllByRecursion (λ a. AsksToJoin S (part S c) a.slot (term_at S c) a.start) (S.sites c).asks
  pub waiting : AllByRecursion (SiteWaitingOk S c) (S.sites c).waiting
  pub pending : AllByRecursion (SiteWaitingOk S c) (S.pending c)
  pub on_disk : (S.sites c).on_disk ≤ length (log_at S c)
  pub held : AllByRecursion HeldOk (S.sites c).held

pub record SiteOk (S : LogState) (c : ℕ) : Type 0 where
  pub environment : nat_lt c (slots S.words.deployment) ≡ false → site_start S c ≡ 0
  pub ran : 0 < site_start S c → (before : List ℕ) × (S.logs.ran c ≡ site_start S c ∷ before)
  pub term : term_at S c ≤ (S.sites c).greatest
  pub earlier : (S.sites c).earlier ≤ (S.sites c).greatest
  pub member : 0 < site_start S c → (S.sites c).joining ≡ None → (w : Membership) × ((S.sites c).view ≡ Some w) × MemberOk S c w
  pub joiner : (j : Joining) → (S.sites c).joining ≡ Some j → JoinerOk S c j
  pub keeps : 0 < site_start S c → KeepsOk S c
  -- one that isn't running keeps nothing
  pub stopped : site_start S c ≡ 0 → ((S.sites c).waiting ≡ []) × ((S.sites c).asks ≡ []) × ((S.sites c).joiners ≡ []) × (S.pending c ≡ [])
  -- nor has it a word
  pub blank : site_start S c ≡ 0 → (S.sites c).view ≡ None

-- ---- an agent's own sites

abbrev pub view_in : Msg Blocks → List Membership
view_in m = elim m as (λ _. List Membership) [
  | msg.View w ↦ w ∷ []
  | _ ↦ []
]

abbrev pub view_of : ℕ → Letter → List Membership
view_of start l = if l.start == start then view_in l.body else []

-- the words that are under way to a start
abbrev pub views : ℕ → List Letter → List Membership
views start ls = flat_map (view_of start) ls

-- They are for members, and rise in term from this one on.
abbrev pub MemberViews : LogState → ℕ → ℕ → ℕ → List Membership → Type 0
MemberViews S c start low ws =
    AllByRecursion (λ w. In w S.words.history.decided × (start_of_slot S.words.deployment w c ≡ Some start)) ws
    × RiseFrom low (map term_of ws)

-- The first one is that which the start took as a joiner.
pub record FirstViews (S : LogState) (c start : ℕ) (ws : List Membership) : Type 0 where
  pub first : Membership
  pub later : List Membership
  pub views_are : ws ≡ first ∷ later
  pub took : S.words.history.took start ≡ Some first
  pub members : MemberViews S c start (term_of first + 1) later

abbrev pub RunViews : LogState → ℕ → Option Membership → List Membership → Type 0
RunViews S c None ws = FirstViews S c (site_start S c) ws
RunViews S c (Some w) ws = MemberViews S c (site_start S c) (term_of w + 1) ws

-- A start is under way, and its words come behind it.
abbrev pub Starting : ℕ → List Letter → Type 0
Starting start [] = ⊥
Starting start (l ∷ ls) =
    ((start_in_letter l ≡ start ∷ []) × (In start (starts_in ls) → ⊥))
    ⊎ ((view_of start l ≡ []) × (In start (start_in_letter l) → ⊥) × Starting start ls)

-- the term of the word that an agent sent last to its sites
abbrev pub sent_term : AgentState → ℕ
sent_term a = elim a.decided as (λ _. ℕ) [
  | Some w ↦ term_of w
  | None ↦ term_in a.taken
]

-- A word is for a start, and of no term.
abbrev pub PlainView : Letter → Type 0
PlainView l = elim l.body as (λ _. Type 0) [
  | msg.View w ↦ (l.term ≡ 0) × (0 < l.start)
  | _ ↦ Unit {0}
]

-- Between a slot's site and its host's agent.
pub record ViewsOk (S : LogState) (c : ℕ) : Type 0 where
  pub plain : AllByRecursion PlainView (agent_to_site S c)
  -- starts that were under way or ran have begun
  pub began : (s : ℕ) → In s (starts_in (agent_to_site S c)) ⊎ In s (S.logs.ran c) ⊎ ((w : Membership) × In w (views s (agent_to_site S c)))
      → In s (S.words.history.began (host_of_slot S.words.deployment c))
  pub running : 0 < site_start S c → RunViews S c (S.sites c).view (views (site_start S c) (agent_to_site S c))
  pub starting : (s : ℕ) → In s (starts_in (agent_to_site S c))
      → (In s (S.logs.ran c) → ⊥) × Starting s (agent_to_site S c) × FirstViews S c s (views s (agent_to_site S c))
  -- nothing was sent by a start of the agent that has no word
  pub wordless : let a = S.words.agents (host_of_slot S.words.deployment c) in
      0 < a.start → a.taken ≡ None → a.decided ≡ None
      → (In a.start (starts_in (agent_to_site S c)) → ⊥) × (In a.start (S.logs.ran c) → ⊥) × (views a.start (agent_to_site S c) ≡ [])
  -- what was sent by the start that runs isn't of a higher term than its agent's word
  pub below : let a = S.words.agents (host_of_slot S.words.deployment c) in
      0 < a.start
      → AllByRecursion (λ w. term_of w ≤ sent_term a) (views a.start (agent_to_site S c))
      × (site_start S c ≡ a.start → term_at S c ≤ sent_term a)

-- Others send a site no start, and no agent of another host a word. A stream comes from a site.
abbrev pub ForeignOk : LogState → ℕ → Actor → Letter → Type 0
ForeignOk S c (Agent g) l = elim l.body as (λ _. Type 0) [
  | msg.Start s ↦ g ≡ host_of_slot S.words.deployment c
  | msg.View w ↦ g ≡ host_of_slot S.words.deployment c
  | msg.StreamStart head ↦ ⊥
  | _ ↦ Unit {0}
]
ForeignOk S c (Site i) l = elim l.body as (λ _. Type 0) [
  | msg.Start s ↦ ⊥
  | _ ↦ Unit {0}
]
ForeignOk S c from l = elim l.body as (λ _. Type 0) [
  | msg.Start s ↦ ⊥
  | msg.StreamStart head ↦ ⊥
  | _ ↦ Unit {0}
]

-- ---- what was loaded

-- The slot's site ran with this start, and if it does so now, it is a joiner whose base is on disk, or a member.
abbrev pub LoadedOk : LogState → ℕ → ℕ → Type 0
LoadedOk S c a = In a (S.logs.ran c) × (0 < site_start S c → site_start S c ≡ a → (j : Joining) → (S.sites c).joining ≡ Some j → j.is_based ≡ true)

-- so it is with all sites of a host
abbrev pub AllLoaded : LogState → ℕ → ℕ → Type 0
AllLoaded S h a = (c : ℕ) → is_slot_of S.words.deployment h c ≡ true → LoadedOk S c a

abbrev pub ToldOk : LogState → ℕ → Letter → Type 0
ToldOk S c l = elim l.body as (λ _. Type 0) [
  | msg.Loaded a ↦ LoadedOk S c a
  | _ ↦ Unit {0}
]

-- of a message from this actor to an agent
abbrev pub AskedOk : LogState → Actor → Letter → Type 0
AskedOk S (Agent h) l = elim l.body as (λ _. Type 0) [
  | msg.Admit a ↦ AllLoaded S h a
  | _ ↦ Unit {0}
]
AskedOk S (Site c) l = ToldOk S c l
AskedOk S from l = Unit {0}

abbrev pub QueuedLoadedOk : LogState → Queued → Type 0
QueuedLoadedOk S (ToRun job) = Unit {0}
QueuedLoadedOk S (Admission a h term) = AllLoaded S h a

-- Who asks to be admitted has loaded all, and has it on disk.
pub record LoadsOk (S : LogState) : Type 0 where
  pub told : (c h : ℕ) → AllByRecursion (ToldOk S c) (S.words.channel (Site c) (Agent h))
  pub heard : (h c : ℕ) → 0 < (S.words.agents h).start → is_in c (S.words.agents h).loaded ≡ true → LoadedOk S c (S.words.agents h).start
  pub asked : (h g : ℕ) → AllByRecursion (AskedOk S (Agent h)) (S.words.channel (Agent h) (Agent g))
  pub waiting : (h : ℕ) → AllByRecursion (λ x. AskedOk S x.from x.letter) (S.words.agents h).waiting
  pub queued : (h : ℕ) → AllByRecursion (QueuedLoadedOk S) (S.words.agents h).initiating.queue
  pub admitted : (x : Admitted) → In x S.words.history.admitted → AllLoaded S (S.words.owner x.start) x.start

-- ---- terms

-- The start is one of the first word, or its slot took the stream of an earlier term.
abbrev pub Came : LogState → ℕ → ℕ → ℕ → Type 0
Came S c t a =
    (list_any (λ m. m.1 == a) S.words.history.first.first ≡ true)
    ⊎ ((u : ℕ) × (x : Streaming) × (S.logs.streamed c u ≡ Some x) × (x.start ≡ a) × (u < t))

-- the greater of what it took to be everywhere
abbrev pub known : Entered → ℕ
known e = max e.floor e.firm

-- Of a slot that entered a term. Its log was a prefix of that of the last leader before, and what it took to be everywhere
-- was so in that leader's term. It was the same in the terms since, in which nobody led.
pub record EnteredOk (S : LogState) (c t : ℕ) (e : Entered) : Type 0 where
  pub slot : IsSlot S c
  pub word : Membership
  pub is_word : WordOf S t word
  pub start_is : start_of_slot S.words.deployment word c ≡ Some e.start
  pub been : HasBeen S c t e.start
  pub came : Came S c t e.start
  pub reach : known e ≤ S.logs.reach (part S c) t
  pub behind : (v : ℕ) (l : Last S.logs (part S c) v t) → Prefix e.log l.leadership.log × (known e ≤ S.logs.reach (part S c) v)
  pub still : (v : ℕ) (f : Entered) → v < t → S.logs.entered c v ≡ Some f → f.start ≡ e.start → Unled S.logs (part S c) v t
      → (e.log ≡ f.log) × (known e ≡ known f)
  -- All that was taken to be everywhere in an earlier term that was led was in its log.
  pub since : (v : ℕ) (g : Leadership) → S.logs.leadership (part S c) v ≡ Some g → v < t → S.logs.reach (part S c) v ≤ length e.log
  pub running : site_start S c ≡ e.start
      → ((S.sites c).joining ≡ None) × (t ≤ term_at S c) × (S.logs.reach (part S c) t ≤ length (log_at S c))

-- Of a slot that took the stream of a term.
pub record StreamedOk (S : LogState) (c t : ℕ) (x : Streaming) : Type 0 where
  pub word : Membership
  pub took : S.words.history.took x.start ≡ Some word
  pub term_is : term_of word ≡ t
  pub apart : S.logs.entered c t ≡ None
  pub later : (u : ℕ) (e : Entered) → S.logs.entered c u ≡ Some e → e.start ≡ x.start → (t < u) × (x.stream_start ≤ length e.log)
  pub leadership : Leadership
  pub led : S.logs.leadership (part S c) t ≡ Some leadership
  pub behind : length leadership.begun ≤ x.stream_start
  pub been : HasBeen S c t x.start
  pub running : site_start S c ≡ x.start
      → ((S.sites c).earlier < t) × (t ≤ term_at S c) × (S.logs.reach (part S c) t ≤ length (log_at S c)) × (x.stream_start ≤ length (log_at S c))
  -- The leader counts it for the whole of its term, whether it still runs or not.
  pub counted : IsCounted S c x.start x.stream_start word

-- Of a term that a leader began: all copies had entered it, each with a log at the beginning of the one that it began with.
pub record LeadershipOk (S : LogState) (p t : ℕ) (g : Leadership) : Type 0 where
  pub word : Membership
  pub is_word : WordOf S t word
  pub grown : Prefix g.begun g.log
  -- what was taken to be everywhere in it is in its log
  pub within : S.logs.reach p t ≤ length g.log
  pub entered : (c a : ℕ) → IsSlot S c → part S c ≡ p → start_of_slot S.words.deployment word c ≡ Some a
      → (e : Entered) × (S.logs.entered c t ≡ Some e) × (e.start ≡ a) × Prefix e.log g.begun
  -- but for the first term, it is the log of a copy that entered it
  pub begun_by : epoch_base S < t → (c : ℕ) × (e : Entered) × IsSlot S c × (part S c ≡ p) × (S.logs.entered c t ≡ Some e) × (e.log ≡ g.begun)

-- Of one that no leader began: what is taken to be everywhere is so by one that entered it.
abbrev pub UnledOk : LogState → ℕ → ℕ → Type 0
UnledOk S p t =
    (S.logs.reach p t ≡ 0)
    ⊎ ((c : ℕ) × (e : Entered) × (part S c ≡ p) × (S.logs.entered c t ≡ Some e) × (S.logs.reach p t ≡ known e))

-- What holds in every run.
pub record LogsHold (S : LogState) : Type 0 where
  pub words : word.WordsHold S.words
  pub sites : (c : ℕ) → SiteOk S c
  pub views : (c : ℕ) → ViewsOk S c
  pub letters : (i c : ℕ) → IsSlot S c → AllByRecursion (SiteLetterOk S i c) (between S i c)
  pub foreign : (from : Actor) (c : ℕ) → AllByRecursion (ForeignOk S c from) (S.words.channel from (Site c))
  pub loads : LoadsOk S
  pub entered : (c t : ℕ) (e : Entered) → S.logs.entered c t ≡ Some e → EnteredOk S c t e
  pub streamed : (c t : ℕ) (x : Streaming) → S.logs.streamed c t ≡ Some x → StreamedOk S c t x
  pub leaderships : (p t : ℕ) (g : Leadership) → S.logs.leadership p t ≡ Some g → LeadershipOk S p t g
  pub unled : (p t : ℕ) → S.logs.leadership p t ≡ None → UnledOk S p t
  pub some : 0 < epoch_base S
  pub first : (p : ℕ) → (g : Leadership) × (S.logs.leadership p (epoch_base S) ≡ Some g)
