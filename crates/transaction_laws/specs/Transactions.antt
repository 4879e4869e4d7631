-- The history of transactions, calls on all partitions and snapshots, and what holds of a cluster and this history in every run.
use Rattle.std.proofs.Common.{◌≡◌, ◌<◌, Bool, true, false, List, [], ◌∷◌, ◌++◌, ◌⊎◌, ◌+◌}
use Rattle.std.specs.Prelude.{ℕ, ◌≤◌, nat_lt, if◌then◌else◌, max, map, flat_map, drop, length, Option, Some, None}
use Rattle.std.specs.List.{AllByRecursion}
use Rattle.volt_base.specs.declared.entry.Entry.{Entry}
use Rattle.volt_base.specs.declared.entry.Entry.TheVariants.{Sp, Frag, Done}
use Rattle.volt_base.specs.declared.entry.LastReply.{LastReply}
use Rattle.volt_base.specs.declared.entry.Outcome.{Outcome}
use Rattle.volt_base.specs.declared.entry.Outcome.TheVariants.{Dropped, Kept, Aborted, Snapshot}
use Rattle.volt_wire.specs.Word.{Membership}
use Rattle.volt_wire.specs.declared.actor.Actor.{Actor}
use Rattle.volt_wire.specs.declared.actor.Actor.TheVariants.{Agent, Site}
use Rattle.volt_wire.specs.declared.end.End.{End}
use Rattle.volt_wire.specs.declared.message.Msg.{Msg}
use Rattle.volt_wire.specs.declared.message.Msg.TheVariants as msg
use Rattle.cluster_model.specs.Engine.{Database}
use Rattle.cluster_model.specs.Log.{open_in, last_done}
use Rattle.cluster_model.specs.Words.{Deployment, parts, is_in, term_of, term_in, initiator, leader, start_of_slot}
use Rattle.cluster_model.specs.Letters.{Blocks, Letter, Waiting}
use Rattle.cluster_model.specs.AgentState.{AgentState, Initiating, Work}
use Rattle.cluster_model.specs.declared.initiating.Heard.{Heard}
use Rattle.cluster_model.specs.declared.initiating.Phase.{Phase}
use Rattle.cluster_model.specs.declared.initiating.Phase.TheVariants.{Off, Hears, Closes, Idle, Works}
use Rattle.cluster_model.specs.Initiator.{has_part, known_of}
use Rattle.cluster_model.specs.Replies.{end_of_reply, last_replies}
use Rattle.cluster_model.specs.declared.known.Known.TheVariants.{IsNew}
use Rattle.cluster_model.specs.SiteState.{SiteState, leads}
use Rattle.cluster_model.specs.Site.{standing, copy_acks, least_of}
use Rattle.cluster_model.specs.Disk.{Shown, chosen}
use Rattle.cluster_steps.specs.Lists.{In, Prefix}
use Rattle.log_laws.specs.Histories.{LogState, Logs, Leadership, WordOf, Addressed, IsSlot, is_for, part, site_start, term_at}
use Rattle.disk_laws.specs.Disks.{Firm, Top, Shows}
use Rattle.reply_laws.specs.Answers.{Claim, Claims, HoldsAnswers}
use Rattle.call_laws.specs.Submissions.{Submissions}
use Rattle.transaction_laws.specs.Calls.{AnswersCall, CallsOk, Covered, IsOnOne, OutcomeAsked, OutcomeOf, RepliesRise, call_of, calls_of}
use Rattle.transaction_laws.specs.Machine.{IsOpen, WellFormed, first_stage, stage}

-- ---- the history of an epoch, from the boot, or a recovery that worked, to the next one

pub record Transactions : Type 0 where
  -- the greatest term whose initiator has heard how all partitions stand
  pub heard : ℕ
  -- the number of the transaction that was begun last
  pub number : ℕ
  -- by partition: what its log had when that was begun
  pub closed : ℕ → List Entry
  -- the outcome with which it ends, once one was sent
  pub agreed : Option Outcome
  -- by partition: what its log had when that outcome was decided
  pub decided : ℕ → List Entry
  -- by partition and term: what the initiator of the term sent to the leader, which hasn't taken it yet
  pub due : ℕ → ℕ → List Entry
  -- the calls that clients have submitted
  pub submitted : Submissions

abbrev pub IsPart : LogState → ℕ → Type 0
IsPart S p = nat_lt p (parts S.words.deployment) ≡ true

-- ---- entries

-- calls on one partition
abbrev pub IsCall : Entry → Type 0
IsCall (Sp call client point body) = Unit {0}
IsCall (Frag m round body) = ⊥
IsCall (Done m o) = ⊥

abbrev pub OnlyCalls : List Entry → Type 0
OnlyCalls es = AllByRecursion IsCall es

-- a round or an end; of no other transaction than this one
abbrev pub IsOrder : Entry → Type 0
IsOrder (Sp call client point body) = ⊥
IsOrder (Frag m round body) = Unit {0}
IsOrder (Done m o) = Unit {0}

abbrev pub OfNumber : ℕ → Entry → Type 0
OfNumber number (Sp call client point body) = Unit {0}
OfNumber number (Frag m round body) = m ≡ number
OfNumber number (Done m o) = m ≡ number

abbrev pub NoRound : Entry → Type 0
NoRound (Sp call client point body) = Unit {0}
NoRound (Frag m round body) = ⊥
NoRound (Done m o) = Unit {0}

-- the point that an outcome gives to its call
abbrev pub point_in : Option Outcome → Option ℕ
point_in None = None
point_in (Some (Kept call client point reply)) = Some point
point_in (Some (Aborted call client point reply)) = Some point
point_in (Some Dropped) = None
point_in (Some Snapshot) = None

-- ---- logs of all partitions in which one transaction at most isn't over everywhere

-- what stands in it behind what it had when that began
abbrev pub since : Transactions → (ℕ → List Entry) → ℕ → List Entry
since K logs p = drop (length (K.closed p)) (logs p)

pub record Aligned (E : Database) (D : Deployment) (now : ℕ) (K : Transactions) (logs : ℕ → List Entry) : Type 0 where
  pub formed : (p : ℕ) → nat_lt p (parts D) ≡ true → WellFormed (first_stage E p) (logs p)
  pub past : (p : ℕ) → nat_lt p (parts D) ≡ true → (stage E p (logs p)).point ≤ now
  -- all transactions before it are over
  pub prefix : (p : ℕ) → nat_lt p (parts D) ≡ true → Prefix (K.closed p) (logs p)
  pub over : (p : ℕ) → nat_lt p (parts D) ≡ true → (stage E p (K.closed p)).opened ≡ None
  pub below : (p : ℕ) → nat_lt p (parts D) ≡ true → (stage E p (K.closed p)).number ≤ K.number
  -- nothing else stands behind them but calls on one partition
  pub only : (p : ℕ) → nat_lt p (parts D) ≡ true → AllByRecursion (OfNumber K.number) (since K logs p)
  -- its number isn't used again
  pub fresh : (p q : ℕ) → nat_lt p (parts D) ≡ true → nat_lt q (parts D) ≡ true → (stage E p (K.closed p)).number ≡ K.number → OnlyCalls (since K logs q)
  -- it ends in one way
  pub ends : (p : ℕ) → nat_lt p (parts D) ≡ true → (o : Outcome) → In (Done K.number o) (since K logs p) → K.agreed ≡ Some o
  -- a snapshot has no rounds
  pub snapshot : (p : ℕ) → nat_lt p (parts D) ≡ true → K.agreed ≡ Some Snapshot → AllByRecursion NoRound (since K logs p)
  -- Where it ends with a point, all its rounds stood everywhere by then, and no later point.
  pub decided : (p x : ℕ) → nat_lt p (parts D) ≡ true → point_in K.agreed ≡ Some x
      → Prefix (K.decided p) (logs p) × IsOpen (stage E p (K.decided p)) K.number × ((stage E p (K.decided p)).point ≤ x)
  -- That point isn't later than now.
  pub agreed : (x : ℕ) → point_in K.agreed ≡ Some x → x ≤ now
  -- A call that is applied in one partition by what is over is so in all.
  pub even : (p q m x : ℕ) (o : Outcome) → nat_lt p (parts D) ≡ true → nat_lt q (parts D) ≡ true → point_in (Some o) ≡ Some x
      → In (Done m o) (K.closed p) → In (Done m o) (K.closed q)

-- ---- what is firm

-- So many entries of a partition's log are everywhere in a term, and counted firm.
pub record EverywhereIn (G : Logs) (F : Firm) (p t n : ℕ) : Type 0 where
  pub reach : n ≤ G.reach p t
  pub firm : n ≤ F p

abbrev pub Everywhere : LogState → Firm → ℕ → ℕ → ℕ → Type 0
Everywhere S F p t n = EverywhereIn S.logs F p t n

-- this entry stands at this position of a log
pub record EntryAt (log : List Entry) (position : ℕ) (e : Entry) : Type 0 where
  pub prefix : List Entry
  pub stands : Prefix (prefix ++ e ∷ []) log
  pub at : length prefix + 1 ≡ position

-- It stands in that of a term's leader, and is firm.
pub record StoodIn (G : Logs) (F : Firm) (p t : ℕ) (e : Entry) : Type 0 where
  pub leadership : Leadership
  pub led : G.leadership p t ≡ Some leadership
  pub position : ℕ
  pub stands : EntryAt leadership.log position e
  pub everywhere : EverywhereIn G F p t position

abbrev pub Stood : LogState → Firm → ℕ → ℕ → Entry → Type 0
Stood S F p t e = StoodIn S.logs F p t e

-- The same end of a transaction is so in all partitions, and answers the call with this.
pub record Replied (G : Logs) (D : Deployment) (F : Firm) (call : ℕ) (e : End) : Type 0 where
  pub term : ℕ
  pub number : ℕ
  pub outcome : Outcome
  pub answers : AnswersCall outcome call e
  pub stands : (p : ℕ) → nat_lt p (parts D) ≡ true → StoodIn G F p term (Done number outcome)

-- ---- the logs of leaders

-- the log of the leader of a term, if there is one, with what is due to it
abbrev pub led_log : Option Leadership → List Entry
led_log None = []
led_log (Some g) = g.log

abbrev pub whole : LogState → Transactions → ℕ → ℕ → List Entry
whole S K t p = led_log (S.logs.leadership p t) ++ K.due p t

-- At most one entry is due, and only in a term that was led and whose initiator has heard of all.
abbrev pub DueOk : LogState → Transactions → ℕ → ℕ → Type 0
DueOk S K p t =
    (K.due p t ≡ [])
    ⊎ ((e : Entry) × (g : Leadership) × (K.due p t ≡ e ∷ []) × IsOrder e × (S.logs.leadership p t ≡ Some g) × (t ≤ K.heard))

-- In a term whose initiator hasn't heard of all only calls on one partition stand behind what the term began with. No call stands twice.
pub record LeadershipFits (E : Database) (S : LogState) (K : Transactions) (now p t : ℕ) (g : Leadership) : Type 0 where
  pub formed : WellFormed (first_stage E p) (g.log ++ K.due p t)
  pub past : (stage E p (g.log ++ K.due p t)).point ≤ now
  pub unheard : K.heard < t → OnlyCalls (drop (length g.begun) g.log)
  pub calls : CallsOk K.submitted p (g.log ++ K.due p t)

-- The last transaction may end so in each partition: its call was submitted, and what is over doesn't apply it, nor has its number.
pub record MayEnd (E : Database) (S : LogState) (K : Transactions) (o : Outcome) : Type 0 where
  pub asked : OutcomeAsked K.submitted o
  pub unapplied : (n : ℕ) → In n (call_of (Done K.number o)) → (p : ℕ) → IsPart S p → In n (calls_of (K.closed p)) → ⊥
  pub new : (p : ℕ) → IsPart S p → (stage E p (K.closed p)).number ≡ K.number → ⊥

-- Of a partition in the term that was heard: it is led, what stood in its log before the last transaction is firm, and so is what stood
-- there when that was decided. The term's mark is on a disk.
pub record HeardPart (S : LogState) (F : Firm) (K : Transactions) (p : ℕ) : Type 0 where
  pub leadership : Leadership
  pub led : S.logs.leadership p K.heard ≡ Some leadership
  pub inside : Prefix (K.closed p) leadership.log
  pub closed : Everywhere S F p K.heard (length (K.closed p))
  pub decided : (x : ℕ) → point_in K.agreed ≡ Some x → Prefix (K.decided p) leadership.log × Everywhere S F p K.heard (length (K.decided p))
  pub top : Top S p K.heard 0

pub record HeardOk (E : Database) (S : LogState) (F : Firm) (K : Transactions) (now : ℕ) : Type 0 where
  pub word : Membership
  pub is_word : WordOf S K.heard word
  -- its initiator has that word or a later one, if it still runs
  pub by : (h a : ℕ) → initiator word ≡ Some (h, a) → (S.words.agents h).start ≡ a → K.heard ≤ term_in (S.words.agents h).decided
  pub each : (p : ℕ) → IsPart S p → HeardPart S F K p
  pub aligned : Aligned E S.words.deployment now K (whole S K K.heard)
  pub ends : (o : Outcome) → K.agreed ≡ Some o → MayEnd E S K o

-- What the history says of the logs of leaders, after so many events.
pub record Books (E : Database) (S : LogState) (F : Firm) (K : Transactions) (now : ℕ) : Type 0 where
  pub due : (p t : ℕ) → DueOk S K p t
  pub leaderships : (p t : ℕ) (g : Leadership) → IsPart S p → S.logs.leadership p t ≡ Some g → LeadershipFits E S K now p t g
  pub heard : HeardOk E S F K now

-- ---- what is under way

abbrev pub order_in : Msg Blocks → List Entry
order_in m = elim m as (λ _. List Entry) [
  | msg.Frag m round body ↦ Frag m round body ∷ []
  | msg.Done m o ↦ Done m o ∷ []
  | _ ↦ []
]

abbrev pub order_of : ℕ → ℕ → Letter → List Entry
order_of start term l = if is_for start term l then order_in l.body else []

-- the rounds and ends under way to a start, of a term
abbrev pub orders : ℕ → ℕ → List Letter → List Entry
orders start term ls = flat_map (order_of start term) ls

-- From the agent of host h to the site of slot c: from the initiator of the letter's term to the leader of its partition there.
pub record OrderOk (S : LogState) (h c : ℕ) (l : Letter) : Type 0 where
  pub addressed : Addressed l
  pub word : Membership
  pub is_word : WordOf S l.term word
  pub by : ℕ
  pub initiates : initiator word ≡ Some (h, by)
  pub leads : leader S.words.deployment word (part S c) ≡ Some c
  pub start_is : start_of_slot S.words.deployment word c ≡ Some l.start
  pub leadership : Leadership
  pub led : S.logs.leadership (part S c) l.term ≡ Some leadership

abbrev pub ToSiteOk : LogState → ℕ → ℕ → Letter → Type 0
ToSiteOk S h c l = elim l.body as (λ _. Type 0) [
  | msg.Frag m round body ↦ OrderOk S h c l
  | msg.Done m o ↦ OrderOk S h c l
  | _ ↦ Unit {0}
]

-- How a partition stood when its leader told that, in a term whose initiator hasn't heard of all: as the term began. Its last replies
-- were those of its log by then.
pub record StateOk (E : Database) (S : LogState) (F : Firm) (t : ℕ) (x : Heard) : Type 0 where
  pub part : IsPart S x.part
  pub leadership : Leadership
  pub led : S.logs.leadership x.part t ≡ Some leadership
  pub told : standing (open_in leadership.begun) (last_done E x.part leadership.begun) x.replies ≡ msg.MpState x.transaction x.is_open x.outcome x.replies
  pub everywhere : Everywhere S F x.part t (length leadership.begun)
  pub top : Top S x.part t 0
  -- the leader's log as it told
  pub log : List Entry
  pub behind : Prefix leadership.begun log
  pub within : Prefix log leadership.log
  pub replies_are : x.replies ≡ last_replies E x.part log

-- what the leader of partition p told
abbrev pub heard_of : ℕ → ℕ → Bool → Option Outcome → List LastReply → Heard
heard_of p m is_open outcome replies = record { part = p; transaction = m; is_open = is_open; outcome = outcome; replies = replies }

-- From a site of partition p to an agent.
abbrev pub AnswerOk : Database → LogState → Firm → Transactions → ℕ → Letter → Type 0
AnswerOk E S F K p l = elim l.body as (λ _. Type 0) [
  | msg.FragDone m round partial ↦ (0 < l.term) × ((body : List ℕ) × Stood S F p l.term (Frag m round body))
  | msg.Finished m ↦ (0 < l.term) × ((o : Outcome) × Stood S F p l.term (Done m o))
  | msg.MpState m is_open outcome replies ↦ (0 < l.term) × (K.heard < l.term → StateOk E S F l.term (heard_of p m is_open outcome replies))
  | _ ↦ Unit {0}
]

-- ---- sites

-- An answer to the initiator says that its round, or an end of its transaction, stands.
abbrev pub ToOrders : Claims
ToOrders m = elim m as (λ _. Claim) [
  | msg.FragDone m round partial ↦ λ prefix e. (body : List ℕ) × (e ≡ Frag m round body)
  | msg.Finished m ↦ λ prefix e. (o : Outcome) × (e ≡ Done m o)
  | _ ↦ λ prefix e. Unit {0}
]

-- No round and no end waits for a term.
abbrev pub WaitsPlain : Actor → Letter → Type 0
WaitsPlain (Agent h) l = elim l.body as (λ _. Type 0) [
  | msg.Frag m round body ↦ ⊥
  | msg.Done m o ↦ ⊥
  | _ ↦ Unit {0}
]
WaitsPlain from l = Unit {0}

-- what the copies acknowledged, and the joiners from the position on at which their streams began
abbrev pub acknowledged : Deployment → ℕ → SiteState → Option ℕ
acknowledged D c s = least_of (copy_acks D c s ++ map (λ j. Some (max j.stream_start j.position)) s.joiners)

-- A leader has counted all that it may. No stream began before what its term began with.
pub record CountsOk (S : LogState) (c : ℕ) : Type 0 where
  pub counted : (n : ℕ) → acknowledged S.words.deployment c (S.sites c) ≡ Some n → n ≤ (S.sites c).firm
  pub joined : (g : Leadership) → S.logs.leadership (part S c) (term_at S c) ≡ Some g → AllByRecursion (λ j. length g.begun ≤ j.stream_start) (S.sites c).joiners

-- Of a site that runs. What is due to it as the leader of its term is under way from the initiator of that.
pub record SiteCalls (S : LogState) (K : Transactions) (c : ℕ) : Type 0 where
  pub waiting : AllByRecursion (λ x. WaitsPlain x.from x.letter) (S.sites c).waiting
  pub held : HoldsAnswers ToOrders (S.sites c)
  pub orders : (w : Membership) → (S.sites c).joining ≡ None → (S.sites c).view ≡ Some w → leader S.words.deployment w (part S c) ≡ Some c
      → (h a : ℕ) → initiator w ≡ Some (h, a)
      → orders (site_start S c) (term_of w) (S.words.channel (Agent h) (Site c)) ≡ K.due (part S c) (term_of w)
  pub counts : leads S.words.deployment c (S.sites c) ≡ true → CountsOk S c
  -- it counts no joiner before it has what its term begins with
  pub unrepaired : (S.sites c).repaired ≡ false → (S.sites c).joiners ≡ []

-- ---- initiators

-- In the term that was heard, nothing is due to the partition; all rounds and ends in its log are firm, and no transaction is open.
pub record Settled (E : Database) (S : LogState) (F : Firm) (K : Transactions) (p : ℕ) : Type 0 where
  pub none : K.due p K.heard ≡ []
  pub leadership : Leadership
  pub led : S.logs.leadership p K.heard ≡ Some leadership
  pub prefix : List Entry
  pub stands : Prefix prefix leadership.log
  pub calls : OnlyCalls (drop (length prefix) leadership.log)
  pub everywhere : Everywhere S F p K.heard (length prefix)
  pub over : (stage E p prefix).opened ≡ None

-- The last transaction ends there, once what is due is taken.
abbrev pub IsEnded : Database → LogState → Transactions → ℕ → Type 0
IsEnded E S K p = ((stage E p (whole S K K.heard p)).opened ≡ None) × ((stage E p (whole S K K.heard p)).number ≡ K.number)

-- its last round is firm there
pub record Fed (S : LogState) (F : Firm) (K : Transactions) (p : ℕ) : Type 0 where
  pub none : K.due p K.heard ≡ []
  pub everywhere : Everywhere S F p K.heard (length (led_log (S.logs.leadership p K.heard)))

-- Its job, if it has one, is the last transaction. If it decided that, so it ends.
abbrev pub JobOk : Transactions → Option Work → Type 0
JobOk K None = Unit {0}
JobOk K (Some w) = (w.transaction ≡ K.number) × ((o : Outcome) → w.decision ≡ Some o → K.agreed ≡ Some o)

-- how far the job at hand is in each partition
abbrev pub AtHand : Database → LogState → Firm → Transactions → Work → Option Outcome → Type 0
AtHand E S F K w None = (w.finished ≡ [])
    × ((p : ℕ) → IsPart S p → ((stage E p (whole S K K.heard p)).opened ≡ Some (K.number, w.round)) × (has_part w.gathered p ≡ true → Fed S F K p))
AtHand E S F K w (Some o) = (p : ℕ) → IsPart S p → IsEnded E S K p × (is_in p w.finished ≡ true → Settled E S F K p)

-- Of an initiator in term t.
abbrev pub PhaseOk : Database → LogState → Firm → Transactions → ℕ → AgentState → Phase → Type 0
PhaseOk E S F K t a Off = ⊥
PhaseOk E S F K t a (Hears told) =
    (K.heard < t) × AllByRecursion (StateOk E S F t) told × JobOk K a.initiating.work
    × (((a.initiating.next ≡ 0) × (a.initiating.work ≡ None)) ⊎ (K.number < a.initiating.next))
PhaseOk E S F K t a (Closes m parts finished) =
    (K.heard ≡ t) × (m ≡ K.number) × JobOk K a.initiating.work × (K.number < a.initiating.next)
    × ((p : ℕ) → IsPart S p → (is_in p parts ≡ true → IsEnded E S K p) × ((is_in p parts ≡ false) ⊎ (is_in p finished ≡ true) → Settled E S F K p))
PhaseOk E S F K t a Idle =
    (K.heard ≡ t) × (a.initiating.work ≡ None) × (K.number < a.initiating.next)
    × ((p : ℕ) → IsPart S p → (K.due p K.heard ≡ []) × OnlyCalls (since K (whole S K K.heard) p))
PhaseOk E S F K t a Works =
    (K.heard ≡ t) × (K.number < a.initiating.next)
    × ((w : Work) × (a.initiating.work ≡ Some w) × JobOk K (Some w) × AtHand E S F K w w.decision)

-- The last replies that an initiator knows cover the ends in all partitions, once those are taken that are due.
abbrev pub CoversAll : LogState → Transactions → List LastReply → Type 0
CoversAll S K replies = (p m : ℕ) (o : Outcome) → IsPart S p → In (Done m o) (whole S K K.heard p) → Covered replies o

-- so in each phase in which it has heard of all partitions
abbrev pub CoversIn : LogState → Transactions → List LastReply → Phase → Type 0
CoversIn S K replies Off = Unit {0}
CoversIn S K replies (Hears told) = Unit {0}
CoversIn S K replies (Closes m parts finished) = CoversAll S K replies
CoversIn S K replies Idle = CoversAll S K replies
CoversIn S K replies Works = CoversAll S K replies

-- By an end of a transaction that stands in the log of a partition in a term, and is firm, this is the reply to a call.
pub record KnownEnd (S : LogState) (F : Firm) (t : ℕ) (r : LastReply) : Type 0 where
  pub part : ℕ
  pub is_part : IsPart S part
  pub number : ℕ
  pub outcome : Outcome
  pub answers : AnswersCall outcome r.call (end_of_reply r.reply)
  pub stood : Stood S F part t (Done number outcome)

-- A last reply is to a call on one partition, or by such an end,
abbrev pub FromLogs : LogState → Firm → Submissions → ℕ → LastReply → Type 0
FromLogs S F A t r = IsOnOne A r.call ⊎ KnownEnd S F t r

-- or by the own decision of the job at hand.
abbrev pub IsOwn : Option Work → LastReply → Type 0
IsOwn work r = (w : Work) × (o : Outcome) × (work ≡ Some w) × (w.decision ≡ Some o) × AnswersCall o r.call (end_of_reply r.reply)

abbrev pub KnownReply : LogState → Firm → Submissions → ℕ → Option Work → LastReply → Type 0
KnownReply S F A t work r = FromLogs S F A t r ⊎ IsOwn work r

-- What an agent knows of the calls that were applied: its own decision is among them, and a call at hand that isn't decided isn't.
pub record Knows (S : LogState) (F : Firm) (K : Transactions) (i : Initiating) : Type 0 where
  pub rise : RepliesRise i.replies
  pub covers : CoversIn S K i.replies i.phase
  pub decided : (w : Work) (o : Outcome) → i.work ≡ Some w → w.decision ≡ Some o → Covered i.replies o
  pub fresh : (w : Work) → i.phase ≡ Works → i.work ≡ Some w → w.decision ≡ None → known_of w.job i.replies ≡ IsNew
  -- it has each of them from logs, or decided it; one that hasn't been an initiator has none
  pub from : AllByRecursion (KnownReply S F K.submitted K.heard i.work) i.replies
  pub first : i.next ≡ 0 → i.replies ≡ []
  pub outcome : (w : Work) (o : Outcome) → i.work ≡ Some w → w.decision ≡ Some o → OutcomeOf w.job o

-- it runs, and is the initiator of the word that it has decided
pub record Initiates (S : LogState) (h : ℕ) (w : Membership) : Type 0 where
  pub runs : 0 < (S.words.agents h).start
  pub has_decided : (S.words.agents h).decided ≡ Some w
  pub initiates : initiator w ≡ Some (h, (S.words.agents h).start)

-- Either it isn't an initiator, and never was; or it is one.
abbrev pub InitiatingOk : Database → LogState → Firm → Transactions → ℕ → Type 0
InitiatingOk E S F K h =
    let a = S.words.agents h in
    ((a.initiating.phase ≡ Off) × (a.initiating.work ≡ None) × (a.initiating.next ≡ 0))
    ⊎ ((w : Membership) × Initiates S h w × PhaseOk E S F K (term_of w) a a.initiating.phase)

abbrev pub WaitingAnswer : Database → LogState → Firm → Transactions → Waiting → Type 0
WaitingAnswer E S F K x = elim x.from as (λ _. Type 0) [
  | Site c ↦ IsSlot S c × AnswerOk E S F K (part S c) x.letter
  | _ ↦ Unit {0}
]

pub record AgentCalls (E : Database) (S : LogState) (F : Firm) (K : Transactions) (h : ℕ) : Type 0 where
  pub initiating : InitiatingOk E S F K h
  pub knows : Knows S F K (S.words.agents h).initiating
  pub waiting : AllByRecursion (WaitingAnswer E S F K) (S.words.agents h).waiting

-- ---- what holds in every run

-- After so many events. After a recovery that was stopped each choice of contents is aligned, and applies each call once.
pub record CallsHold (E : Database) (S : LogState) (F : Firm) (halted : Bool) (K : Transactions) (now : ℕ) : Type 0 where
  pub books : Books E S F K now
  pub to_sites : (h c : ℕ) → IsSlot S c → AllByRecursion (ToSiteOk S h c) (S.words.channel (Agent h) (Site c))
  pub to_agents : (c h : ℕ) → IsSlot S c → AllByRecursion (AnswerOk E S F K (part S c)) (S.words.channel (Site c) (Agent h))
  pub environment : (c h : ℕ) → (IsSlot S c → ⊥) → S.words.channel (Site c) (Agent h) ≡ []
  pub sites : (c : ℕ) → IsSlot S c → 0 < site_start S c → SiteCalls S K c
  pub agents : (h : ℕ) → AgentCalls E S F K h
  pub halts : halted ≡ true → (shown : ℕ → Shown) → Shows S shown → (L : Transactions) × Aligned E S.words.deployment now L (chosen S.words.deployment shown)
      × ((p : ℕ) → IsPart S p → CallsOk K.submitted p (chosen S.words.deployment shown p))
