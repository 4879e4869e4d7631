-- The history by which the law of words is proved, and what holds of a world and its history in every run.
use Rattle.std.proofs.Common.{◌≡◌, ◌<◌, Bool, true, false, List, [], ◌∷◌, ◌⊎◌, ◌==◌}
use Rattle.std.specs.Prelude.{ℕ, ◌||◌, map, Option, Some, None}
use Rattle.std.specs.List.{AllByRecursion, list_any}
use Rattle.volt_wire.specs.Word.{Membership}
use Rattle.volt_wire.specs.declared.actor.Actor.{Actor}
use Rattle.volt_wire.specs.declared.actor.Actor.TheVariants.{Director, Agent}
use Rattle.volt_wire.specs.declared.message.Msg.TheVariants as msg
use Rattle.cluster_model.specs.Words.{Deployment, is_host, is_in, term_of, start_of, initiator, admits, with_admitted}
use Rattle.cluster_model.specs.Letters.{Letter, Waiting}
use Rattle.cluster_model.specs.AgentState.{AgentState, initiates}
use Rattle.cluster_model.specs.declared.initiating.Phase.{Phase}
use Rattle.cluster_model.specs.declared.initiating.Phase.TheVariants.{Off, Hears, Closes, Idle, Works}
use Rattle.cluster_model.specs.declared.initiating.Queued.{Queued}
use Rattle.cluster_model.specs.declared.initiating.Queued.TheVariants.{ToRun, Admission}
use Rattle.cluster_model.specs.Laws.{RiseFrom, starts_in}
use Rattle.cluster_steps.specs.Lists.{In, OnSome}

-- ---- words

-- this start is a host's with which the word began, or one that it admitted
abbrev pub names : Membership → ℕ → Bool
names w s = list_any (λ m. m.1 == s) w.first || admits w s

-- What is lost in v is lost in w, and what v admitted w admitted too.
pub record Within (v w : Membership) : Type 0 where
  pub lost : (s : ℕ) → is_in s v.lost ≡ true → is_in s w.lost ≡ true
  pub admitted : (s : ℕ) → admits v s ≡ true → admits w s ≡ true

-- each of two words is within the other
abbrev pub Alike : Membership → Membership → Type 0
Alike v w = Within v w × Within w v

abbrev pub Comparable : Membership → Membership → Type 0
Comparable v w = Within v w ⊎ Within w v

-- ---- the history of an epoch: from the boot, or a recovery that worked, to the next one

-- a start that was admitted, the start that admitted it, and the word at which that was
pub record Admitted : Type 0 where
  pub start : ℕ
  pub by : ℕ
  pub at : Membership

pub record History : Type 0 where
  -- the word with which the epoch began
  pub first : Membership
  -- the starts with which a host's agent ran, the last one first
  pub began : ℕ → List ℕ
  -- the words that a start said as a member, the last one first
  pub said : ℕ → List Membership
  -- the word that a start took as a joiner
  pub took : ℕ → Option Membership
  -- the words that were decided
  pub decided : List Membership
  -- the starts that were admitted
  pub admitted : List Admitted

-- what the law of words looks at in a world, with the history and the host of each start
pub record State : Type 0 where
  pub deployment : Deployment
  pub next : ℕ
  pub agents : ℕ → AgentState
  pub channel : Actor → Actor → List Letter
  pub owner : ℕ → ℕ
  pub history : History

-- ---- starts

abbrev pub agent_start : State → ℕ → ℕ
agent_start S h = (S.agents h).start

-- the starts under way to a host
abbrev pub starts_to : State → ℕ → List ℕ
starts_to S h = starts_in (S.channel Director (Agent h))

-- A start with which an agent of its host ran in this epoch, at some time by now.
pub record Begun (S : State) (s : ℕ) : Type 0 where
  pub some : 0 < s
  pub below : s < S.next
  pub host : is_host S.deployment (S.owner s) ≡ true
  pub began : In s (S.history.began (S.owner s))

-- its agent runs
abbrev pub IsRunning : State → ℕ → Type 0
IsRunning S s = agent_start S (S.owner s) ≡ s

-- its agent ran and has stopped
abbrev pub Gone : State → ℕ → Type 0
Gone S s = Begun S s × (IsRunning S s → ⊥)

-- none of these is there twice
abbrev pub Distinct : List ℕ → Type 0
Distinct [] = Unit {0}
Distinct (x ∷ xs) = (In x xs → ⊥) × Distinct xs

-- of these, of which the last one comes first, r came before s
abbrev pub Earlier : ℕ → ℕ → List ℕ → Type 0
Earlier r s [] = ⊥
Earlier r s (x ∷ xs) = ((x ≡ s) × In r xs) ⊎ Earlier r s xs

-- Of one host: the start that runs is the last one that began. Those under way are its own and haven't begun.
pub record HostOk (S : State) (h : ℕ) : Type 0 where
  pub environment : is_host S.deployment h ≡ false → agent_start S h ≡ 0
  pub running : 0 < agent_start S h → (S.owner (agent_start S h) ≡ h) × (agent_start S h < S.next)
  pub last : 0 < agent_start S h → (before : List ℕ) × (S.history.began h ≡ agent_start S h ∷ before)
  pub began : AllByRecursion (λ x. (S.owner x ≡ h) × (0 < x) × (x < S.next)) (S.history.began h)
  pub distinct : Distinct (S.history.began h)
  pub owned : AllByRecursion (λ x. (S.owner x ≡ h) × (0 < x) × (x < S.next)) (starts_to S h)
  pub fresh : AllByRecursion (λ x. In x (S.history.began h) → ⊥) (starts_to S h)
  pub rising : RiseFrom 0 (starts_to S h)

-- ---- words of the epoch

-- it was admitted, at a word that is within w
pub record Recorded (S : State) (w : Membership) (s : ℕ) : Type 0 where
  pub entry : Admitted
  pub is_one : In entry S.history.admitted
  pub same : entry.start ≡ s
  pub within : Within entry.at w

-- A word of the epoch. What it has lost has stopped; whom it names has run; whom it admitted was admitted at a word within it.
pub record GoodWord (S : State) (w : Membership) : Type 0 where
  pub base : w.base ≡ S.history.first.base
  pub first : w.first ≡ S.history.first.first
  pub lost_rises : RiseFrom 0 w.lost
  pub admitted_rises : RiseFrom 0 (map (λ a. a.0) w.admitted)
  pub owned : AllByRecursion (λ a. S.owner a.0 ≡ a.1) w.admitted
  pub lost_gone : (s : ℕ) → is_in s w.lost ≡ true → Gone S s
  pub named_begun : (s : ℕ) → names w s ≡ true → Begun S s
  pub recorded : (s : ℕ) → admits w s ≡ true → Recorded S w s

-- the member of host h in the word said it
abbrev pub SaidBy : State → ℕ → Membership → Type 0
SaidBy S h w = (s : ℕ) × (start_of w h ≡ Some s) × In w (S.history.said s)

-- no word names this start
pub record Unnamed (S : State) (s : ℕ) : Type 0 where
  pub not_first : list_any (λ m. m.1 == s) S.history.first.first ≡ false
  pub not_admitted : (x : Admitted) → In x S.history.admitted → x.start ≡ s → ⊥

-- ---- messages between agents

-- start j of host h asks the agent of host g to be admitted, in the term of the word that it took
pub record AsksAdmission (S : State) (h g term j : ℕ) : Type 0 where
  pub owned : S.owner j ≡ h
  pub begun : Begun S j
  pub other : (h == g) ≡ false
  pub word : Membership
  pub took : S.history.took j ≡ Some word
  pub term_is : term_of word ≡ term

-- of a message from the agent of host h to that of host g
abbrev pub LetterOk : State → ℕ → ℕ → Letter → Type 0
LetterOk S h g l = elim l.body as (λ _. Type 0) [
  | msg.Word base lost admitted ↦
      (l.term ≡ 0) × (base ≡ S.history.first.base)
      × SaidBy S h (record S.history.first { lost = lost; admitted = admitted })
      × (start_of (record S.history.first { lost = lost; admitted = admitted }) g ≡ Some l.start)
  | msg.Decided w ↦ (l.term ≡ 0) × In w S.history.decided
  | msg.Closed o ↦ (l.term ≡ 0) × (l.start ≡ 0) × Gone S o × (S.owner o ≡ h)
  | msg.View w ↦ ⊥
  | msg.Admit j ↦ AsksAdmission S h g l.term j
  | _ ↦ Unit {0}
]

-- a Closed isn't of a start of that host before j, of those that began there
abbrev pub ClosesFrom : List ℕ → ℕ → Letter → Type 0
ClosesFrom began j l = elim l.body as (λ _. Type 0) [
  | msg.Closed o ↦ Earlier o j began → ⊥
  | _ ↦ Unit {0}
]

-- no Closed of an earlier start of its host comes behind a start's Admit
abbrev pub InOrder : List ℕ → List Letter → Type 0
InOrder began [] = Unit {0}
InOrder began (l ∷ ls) =
    (elim l.body as (λ _. Type 0) [
      | msg.Admit j ↦ AllByRecursion (ClosesFrom began j) ls
      | _ ↦ Unit {0}
    ])
    × InOrder began ls

pub record ChannelOk (S : State) (h g : ℕ) : Type 0 where
  pub letters : AllByRecursion (LetterOk S h g) (S.channel (Agent h) (Agent g))
  pub ordered : InOrder (S.history.began h) (S.channel (Agent h) (Agent g))

-- ---- agents

-- An Admit that came: no Closed of an earlier start of its host is under way.
abbrev pub CameOk : State → ℕ → ℕ → ℕ → ℕ → Type 0
CameOk S h g term j = AsksAdmission S h g term j × AllByRecursion (ClosesFrom (S.history.began h) j) (S.channel (Agent h) (Agent g))

abbrev pub QueuedAdmissionOk : State → ℕ → Queued → Type 0
QueuedAdmissionOk S g (ToRun job) = Unit {0}
QueuedAdmissionOk S g (Admission j h term) = CameOk S h g term j

-- Of what agents say, only Admit may wait.
abbrev pub AgentWaitingFrom : State → ℕ → Actor → Letter → Type 0
AgentWaitingFrom S g (Agent h) l = elim l.body as (λ _. Type 0) [
  | msg.Word base lost admitted ↦ ⊥
  | msg.Decided w ↦ ⊥
  | msg.Closed o ↦ ⊥
  | msg.View w ↦ ⊥
  | msg.Admit j ↦ CameOk S h g l.term j
  | _ ↦ Unit {0}
]
AgentWaitingFrom S g from l = Unit {0}

abbrev pub AgentWaitingOk : State → ℕ → Waiting → Type 0
AgentWaitingOk S g x = AgentWaitingFrom S g x.from x.letter

abbrev pub IsOff : Phase → Type 0
IsOff Off = Unit {0}
IsOff (Hears told) = ⊥
IsOff (Closes m parts finished) = ⊥
IsOff Idle = ⊥
IsOff Works = ⊥

-- the word of an agent with this start: where it names the start, it is the one that the start said last
pub record OwnOk (S : State) (s : ℕ) (w : Membership) : Type 0 where
  pub good : GoodWord S w
  pub member : names w s ≡ true → (before : List Membership) × (S.history.said s ≡ w ∷ before)
  pub joiner : names w s ≡ false → S.history.said s ≡ []

-- of the agent of host h
pub record AgentOk (S : State) (h : ℕ) (a : AgentState) : Type 0 where
  pub own : OnSome (OwnOk S a.start) a.own
  pub alone : 0 < a.start → a.own ≡ None → Unnamed S a.start × (S.history.said a.start ≡ [])
  pub decided : OnSome (λ w. In w S.history.decided × (names w a.start ≡ true)) a.decided
  pub taken : OnSome (λ w. (S.history.took a.start ≡ Some w) × In w S.history.decided) a.taken
  pub untaken : 0 < a.start → a.taken ≡ None → S.history.took a.start ≡ None
  pub wordless : a.own ≡ None → a.taken ≡ None
  pub joins : a.decided ≡ None → a.taken ≡ None → a.own ≡ None
  pub heard : (k : ℕ) → OnSome (SaidBy S k) (a.said k)
  pub waiting : AllByRecursion (AgentWaitingOk S h) a.waiting
  pub queue : AllByRecursion (QueuedAdmissionOk S h) a.initiating.queue
  pub initiates : IsOff a.initiating.phase ⊎ (initiates h a a.decided ≡ true)

-- ---- what was said, decided and admitted

-- each word is within the one that was said before it in this list
abbrev pub Falls : List Membership → Type 0
Falls [] = Unit {0}
Falls (w ∷ ws) = AllByRecursion (λ v. Within v w) ws × Falls ws

-- Of an admission. It was at a decided word that doesn't name the start, by that word's initiator, which said the word with
-- the start in it. It was the word that the start had taken, by its term. Other starts of its host were lost in it. The
-- start is above those of all its members.
pub record AdmittedOk (S : State) (x : Admitted) : Type 0 where
  pub decided : In x.at S.history.decided
  pub by_initiator : initiator x.at ≡ Some (S.owner x.by, x.by)
  pub fresh : names x.at x.start ≡ false
  pub said : In (with_admitted x.start (S.owner x.start) x.at) (S.history.said x.by)
  pub word : Membership
  pub took : S.history.took x.start ≡ Some word
  pub term_is : term_of word ≡ term_of x.at
  pub begun : Begun S x.start
  pub one_host : (s : ℕ) → names x.at s ≡ true → S.owner s ≡ S.owner x.start → is_in s x.at.lost ≡ true
  pub above : (h s : ℕ) → start_of x.at h ≡ Some s → s < x.start

pub record HistoryOk (S : State) : Type 0 where
  -- the first word: each host with one start
  pub first_owned : AllByRecursion (λ m. S.owner m.1 ≡ m.0) S.history.first.first
  pub first_one : (r s : ℕ) → list_any (λ m. m.1 == r) S.history.first.first ≡ true → list_any (λ m. m.1 == s) S.history.first.first ≡ true
      → S.owner r ≡ S.owner s → r ≡ s
  pub first_plain : (S.history.first.lost ≡ []) × (S.history.first.admitted ≡ [])
  pub first_decided : In S.history.first S.history.decided
  pub decided_good : (w : Membership) → In w S.history.decided → GoodWord S w
  -- Own words grow.
  pub said_good : (s : ℕ) → AllByRecursion (GoodWord S) (S.history.said s)
  pub said_names : (s : ℕ) → AllByRecursion (λ w. names w s ≡ true) (S.history.said s)
  pub said_falls : (s : ℕ) → Falls (S.history.said s)
  -- Who knows an initiator lost knows whom it admitted.
  pub knows : (s : ℕ) (w : Membership) → In w (S.history.said s) → (x : Admitted) → In x S.history.admitted
      → is_in x.by w.lost ≡ true → admits w x.start ≡ true
  -- No two have said each that the other is lost.
  pub one_way : (r s : ℕ) (v w : Membership) → In v (S.history.said r) → In w (S.history.said s)
      → is_in s v.lost ≡ true → is_in r w.lost ≡ true → ⊥
  -- Members said it.
  pub members_said : (w : Membership) → In w S.history.decided → (h s : ℕ) → start_of w h ≡ Some s → In w (S.history.said s)
  pub has_member : (w : Membership) → In w S.history.decided → Within w S.history.first ⊎ ((h : ℕ) × (s : ℕ) × (start_of w h ≡ Some s))
  -- Chain.
  pub chain : (v w : Membership) → In v S.history.decided → In w S.history.decided → Comparable v w
  -- A joiner's word: of its host it names earlier starts alone, and it hasn't lost the joiner.
  pub took_ok : (j : ℕ) (w : Membership) → S.history.took j ≡ Some w
      → In w S.history.decided × Begun S j × ((s : ℕ) → names w s ≡ true → S.owner s ≡ S.owner j → Earlier s j (S.history.began (S.owner j)))
      × (is_in j w.lost ≡ false)
  -- Admission.
  pub admitted_ok : (x : Admitted) → In x S.history.admitted → AdmittedOk S x
  pub once : (x y : Admitted) → In x S.history.admitted → In y S.history.admitted → x.start ≡ y.start → x ≡ y
  pub one_each : (x y : Admitted) → In x S.history.admitted → In y S.history.admitted → Alike x.at y.at → x ≡ y
  -- Nothing between an admission and the first word that holds it.
  pub nothing_between : (w : Membership) → In w S.history.decided → (x : Admitted) → In x S.history.admitted
      → Within x.at w → (Within w x.at → ⊥) → admits w x.start ≡ true

-- ---- what is under way

-- a Word to start c that admits j
abbrev pub TellsAdmission : ℕ → ℕ → Letter → Type 0
TellsAdmission c j l = elim l.body as (λ _. Type 0) [
  | msg.Word base lost admitted ↦ (l.start ≡ c) × (list_any (λ a. a.0 == j) admitted ≡ true)
  | _ ↦ ⊥
]

abbrev pub IsClosed : ℕ → Letter → Type 0
IsClosed o l = elim l.body as (λ _. Type 0) [
  | msg.Closed s ↦ s ≡ o
  | _ ↦ ⊥
]

-- there is such a Word, and no Closed of i comes before it
abbrev pub Telling : ℕ → ℕ → ℕ → List Letter → Type 0
Telling c j i [] = ⊥
Telling c j i (l ∷ ls) = TellsAdmission c j l ⊎ ((IsClosed i l → ⊥) × Telling c j i ls)

-- Closed of o is under way
abbrev pub ClosedUnderWay : ℕ → List Letter → Type 0
ClosedUnderWay o [] = ⊥
ClosedUnderWay o (l ∷ ls) = IsClosed o l ⊎ ClosedUnderWay o ls

-- this holds of the agent's own word, and there is one
abbrev pub OwnIs : (Membership → Type 0) → AgentState → Type 0
OwnIs P a = (w : Membership) × (a.own ≡ Some w) × P w

-- start c knows of an admission, or it is told before it hears that the initiator has closed
abbrev pub Told : State → Admitted → ℕ → Type 0
Told S x c =
    OwnIs (λ w. admits w x.start ≡ true) (S.agents (S.owner c))
    ⊎ (Telling c x.start x.by (S.channel (Agent (S.owner x.by)) (Agent (S.owner c)))
    × ((w : Membership) → (S.agents (S.owner c)).own ≡ Some w → is_in x.by w.lost ≡ true → ⊥))

-- Of a start o that has stopped: the agent of host g is going to hear it, or its word has it lost, or o has said no word that
-- names the agent's start.
abbrev pub HearsClosed : State → ℕ → ℕ → Type 0
HearsClosed S g o =
    ClosedUnderWay o (S.channel (Agent (S.owner o)) (Agent g))
    ⊎ OwnIs (λ w. is_in o w.lost ≡ true) (S.agents g)
    ⊎ ((w : Membership) → In w (S.history.said o) → names w (agent_start S g) ≡ false)

-- What holds in every run.
pub record WordsHold (S : State) : Type 0 where
  pub some : 0 < S.next
  pub hosts : (h : ℕ) → HostOk S h
  pub agents : (h : ℕ) → AgentOk S h (S.agents h)
  pub channels : (h g : ℕ) → ChannelOk S h g
  pub history : HistoryOk S
  -- Told in order; Closed is last.
  pub told : (x : Admitted) → In x S.history.admitted → (c : ℕ) → names x.at c ≡ true → (c ≡ x.by → ⊥) → IsRunning S c → Told S x c
  pub heard : (g o : ℕ) → 0 < agent_start S g → Gone S o → (S.owner o ≡ g → ⊥) → HearsClosed S g o
