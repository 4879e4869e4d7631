-- Calls as clients submit them, and what holds of the calls that wait and that are under way in every run.
use Rattle.std.proofs.Common.{◌≡◌, List, [], ◌∷◌, ◌++◌, ◌==◌, ◌+◌}
use Rattle.std.specs.Prelude.{ℕ, ◌≤◌, if◌then◌else◌, map, Option, Some, None}
use Rattle.std.specs.List.{AllByRecursion}
use Rattle.volt_wire.specs.declared.actor.Actor.{Actor}
use Rattle.volt_wire.specs.declared.actor.Actor.TheVariants.{Client, Agent, Site}
use Rattle.volt_wire.specs.declared.message.Msg.TheVariants as msg
use Rattle.cluster_model.specs.Words.{Deployment, part_of_slot}
use Rattle.cluster_model.specs.Letters.{Letter, Waiting}
use Rattle.cluster_model.specs.Client.{Submitted, Ended, ClientState}
use Rattle.cluster_model.specs.declared.initiating.Job.{Job}
use Rattle.cluster_model.specs.declared.initiating.Job.TheVariants.{RunCall, TakeSnapshot}
use Rattle.cluster_model.specs.declared.initiating.Queued.{Queued}
use Rattle.cluster_model.specs.declared.initiating.Queued.TheVariants.{ToRun, Admission}
use Rattle.cluster_model.specs.AgentState.{AgentState, Pending, Work}
use Rattle.cluster_model.specs.SiteState.{SiteState, AskedCall}
use Rattle.cluster_model.specs.World.{World, Input, AskedFor, due}
use Rattle.cluster_steps.specs.Lists.{In, OnSome}

-- ---- the calls of an input

-- the call of this number, where the first of these calls has the number `first`
abbrev pub numbered : ℕ → ℕ → List AskedFor → Option AskedFor
numbered call first [] = None
numbered call first (c ∷ cs) = if call == first then Some c else numbered call (first + 1) cs

-- The input has this call: its client, the partition on which it runs or none for all, and its body.
abbrev pub Asks : Input → ℕ → ℕ → Option ℕ → List ℕ → Type 0
Asks I call client part body = numbered call 1 I.calls ≡ Some (record { client = client; part = part; body = body })

-- ---- what clients have submitted

abbrev pub pending_call : Option Submitted → List ℕ
pending_call None = []
pending_call (Some p) = p.due.call ∷ []

-- the calls that a client has submitted, in order: those that ended, and the one that is pending
abbrev pub submitted_by : ClientState → List ℕ
submitted_by c = map (λ e. e.call) c.ended ++ pending_call c.pending

-- This call of the input was submitted.
pub record WasSubmitted (I : Input) (w : World) (call client : ℕ) (part : Option ℕ) (body : List ℕ) : Type 0 where
  pub asked : Asks I call client part body
  pub submitted : In call (submitted_by (w.clients client))

-- ---- requests under way

-- From an agent to a site: a call on the partition of that site.
abbrev pub SubmittedToSite : Input → World → ℕ → Letter → Type 0
SubmittedToSite I w c l = elim l.body as (λ _. Type 0) [
  | msg.SpCall call start client body ↦ WasSubmitted I w call client (Some (part_of_slot w.deployment c)) body
  | _ ↦ Unit {0}
]

-- From an agent to an agent: a call on all partitions.
abbrev pub SubmittedToAgent : Input → World → Letter → Type 0
SubmittedToAgent I w l = elim l.body as (λ _. Type 0) [
  | msg.MpCall call start client body ↦ WasSubmitted I w call client None body
  | _ ↦ Unit {0}
]

-- From client n to an agent: a call of its own.
abbrev pub SubmittedByClient : Input → World → ℕ → Letter → Type 0
SubmittedByClient I w n l = elim l.body as (λ _. Type 0) [
  | msg.Call call start part body ↦ WasSubmitted I w call n part body
  | _ ↦ Unit {0}
]

-- Each request under way is of a call that was submitted: by the client that it names, on the partition of the site that is asked or
-- on all, and with its body.
pub record RequestsAreSubmitted (I : Input) (w : World) : Type 0 where
  pub by_clients : (n h : ℕ) → AllByRecursion (SubmittedByClient I w n) (w.channel (Client n) (Agent h))
  pub to_agents : (h g : ℕ) → AllByRecursion (SubmittedToAgent I w) (w.channel (Agent h) (Agent g))
  pub to_sites : (h c : ℕ) → AllByRecursion (SubmittedToSite I w c) (w.channel (Agent h) (Site c))

-- No call that client n has submitted is greater than this one.
abbrev pub IsGreatestOf : World → ℕ → ℕ → Type 0
IsGreatestOf w n call = (other : ℕ) → In other (submitted_by (w.clients n)) → other ≤ call

-- ---- the history of submissions

-- A call that was submitted: whose it is, the partition on which it runs or none for one on all, its body, and at which event it was
-- submitted first.
pub record Submission : Type 0 where
  pub client : ℕ
  pub part : Option ℕ
  pub body : List ℕ
  pub at : ℕ

-- by their numbers, those that were submitted so far
abbrev pub Submissions : Type 0
Submissions = ℕ → Option Submission

-- This call was submitted.
pub record IsAsked (A : Submissions) (call client : ℕ) (part : Option ℕ) (body : List ℕ) : Type 0 where
  pub at : ℕ
  pub is : A call ≡ Some (record { client = client; part = part; body = body; at = at })

-- More was submitted, and what was stays.
abbrev pub Grows : Submissions → Submissions → Type 0
Grows A B = (call : ℕ) (s : Submission) → A call ≡ Some s → B call ≡ Some s

-- ---- what holds of requests

abbrev pub AskedOf : Deployment → Submissions → Actor → ℕ → ℕ → List ℕ → Type 0
AskedOf D A (Site c) call client body = IsAsked A call client (Some (part_of_slot D c)) body
AskedOf D A to call client body = ⊥

-- An answer is to a call of the client to which it goes.
abbrev pub AnsweredTo : Submissions → Actor → ℕ → Type 0
AnsweredTo A (Client n) call = (part : Option ℕ) × (body : List ℕ) × IsAsked A call n part body
AnsweredTo A to call = ⊥

-- A site replies to an agent only to calls on its partition.
abbrev pub RepliedBy : Submissions → ℕ → Letter → Type 0
RepliedBy A p l = elim l.body as (λ _. Type 0) [
  | msg.Reply call start end ↦ (client : ℕ) × (body : List ℕ) × IsAsked A call client (Some p) body
  | _ ↦ Unit {0}
]

abbrev pub RepliedTo : Submissions → ℕ → Actor → Letter → Type 0
RepliedTo A p (Agent h) l = RepliedBy A p l
RepliedTo A p to l = Unit {0}

-- of a message
abbrev pub AskedIn : Deployment → Submissions → Actor → Actor → Letter → Type 0
AskedIn D A (Client n) to l = elim l.body as (λ _. Type 0) [
  | msg.Call call start part body ↦ IsAsked A call n part body
  | _ ↦ Unit {0}
]
AskedIn D A (Agent h) to l = elim l.body as (λ _. Type 0) [
  | msg.MpCall call start client body ↦ IsAsked A call client None body
  | msg.SpCall call start client body ↦ AskedOf D A to call client body
  | msg.Answer call end ↦ AnsweredTo A to call
  | _ ↦ Unit {0}
]
AskedIn D A (Site c) to l = RepliedTo A (part_of_slot D c) to l
AskedIn D A from to l = Unit {0}

abbrev pub WaitingAsked : Deployment → Submissions → Actor → Waiting → Type 0
WaitingAsked D A to x = AskedIn D A x.from to x.letter

abbrev pub PendingAsked : Submissions → Pending → Type 0
PendingAsked A p = IsAsked A p.call p.client p.part p.body

abbrev pub JobAsked : Submissions → Job → Type 0
JobAsked A (RunCall call client host start body) = IsAsked A call client None body
JobAsked A TakeSnapshot = Unit {0}

abbrev pub QueuedAsked : Submissions → Queued → Type 0
QueuedAsked A (ToRun job) = JobAsked A job
QueuedAsked A (Admission start host term) = Unit {0}

abbrev pub WorkAsked : Submissions → Work → Type 0
WorkAsked A w = JobAsked A w.job

-- Of the agent of host h: the calls that are pending, those that wait for the initiator, and the one at hand.
pub record AgentAsks (D : Deployment) (A : Submissions) (h : ℕ) (a : AgentState) : Type 0 where
  pub pending : AllByRecursion (PendingAsked A) a.pending
  pub queue : AllByRecursion (QueuedAsked A) a.initiating.queue
  pub work : OnSome (WorkAsked A) a.initiating.work
  pub waiting : AllByRecursion (WaitingAsked D A (Agent h)) a.waiting

-- a call of a partition
abbrev pub CallAsked : Submissions → ℕ → AskedCall → Type 0
CallAsked A p c = IsAsked A c.call c.client (Some p) c.body

-- Of the site of slot i: the calls that wait for their turn, and those that it has run and not yet replied to.
pub record SiteAsks (D : Deployment) (A : Submissions) (i : ℕ) (s : SiteState) : Type 0 where
  pub calls : AllByRecursion (CallAsked A (part_of_slot D i)) s.calls
  pub held : AllByRecursion (λ d. RepliedBy A (part_of_slot D i) d.letter) s.held
  pub waiting : AllByRecursion (WaitingAsked D A (Site i)) s.waiting

-- ---- what holds of clients

abbrev pub EndedOk : Submissions → ℕ → Ended → Type 0
EndedOk A n e = (e.client ≡ n) × ((s : Submission) × (A e.call ≡ Some s) × (s.client ≡ n) × (s.at ≡ e.submitted))

abbrev pub PendingOk : Submissions → ℕ → Submitted → Type 0
PendingOk A n p = A p.due.call ≡ Some (record { client = n; part = p.due.part; body = p.due.body; at = p.at })

-- Of client n: it submits its calls of the input in their order.
pub record ClientAsks (I : Input) (A : Submissions) (n : ℕ) (c : ClientState) : Type 0 where
  pub order : submitted_by c ++ map (λ d. d.call) c.left ≡ map (λ d. d.call) (due n 1 I.calls)
  pub left : AllByRecursion (λ d. In d (due n 1 I.calls)) c.left
  pub pending : OnSome (PendingOk A n) c.pending
  pub ended : AllByRecursion (EndedOk A n) c.ended

-- ---- what holds in every run

-- A submission is that of a call of the input, by its client, at an event that has happened.
pub record SubmissionOk (I : Input) (now : ℕ) (clients : ℕ → ClientState) (call : ℕ) (s : Submission) : Type 0 where
  pub asked : Asks I call s.client s.part s.body
  pub past : s.at ≤ now
  pub submitted : In call (submitted_by (clients s.client))

-- After so many events.
pub record HasSubmissions (I : Input) (now : ℕ) (w : World) : Type 0 where
  pub submissions : Submissions
  pub deployment : w.deployment ≡ I.deployment
  pub each : (call : ℕ) (s : Submission) → submissions call ≡ Some s → SubmissionOk I now w.clients call s
  pub clients : (n : ℕ) → ClientAsks I submissions n (w.clients n)
  pub channels : (a b : Actor) → AllByRecursion (AskedIn w.deployment submissions a b) (w.channel a b)
  pub agents : (h : ℕ) → AgentAsks w.deployment submissions h (w.agents h)
  pub sites : (i : ℕ) → SiteAsks w.deployment submissions i (w.sites i)
