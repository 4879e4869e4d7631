-- The calls that a log applies: each stands there once, and is as its client submitted it.
use Rattle.std.specs.Prelude.{ℕ, ◌≡◌, ◌<◌, ◌≤◌, List, [], ◌∷◌, map, Option, Some, None}
use Rattle.std.specs.List.{AllByRecursion}
use Rattle.volt_base.specs.declared.entry.Entry.{Entry}
use Rattle.volt_base.specs.declared.entry.Entry.TheVariants.{Sp, Frag, Done}
use Rattle.volt_base.specs.declared.entry.LastReply.{LastReply}
use Rattle.volt_base.specs.declared.entry.Outcome.{Outcome}
use Rattle.volt_base.specs.declared.entry.Outcome.TheVariants.{Dropped, Kept, Aborted, Snapshot}
use Rattle.volt_wire.specs.declared.end.End.{End}
use Rattle.cluster_model.specs.Laws.{RiseFrom}
use Rattle.cluster_model.specs.Log.{applied_by, applied_in}
use Rattle.cluster_model.specs.Replies.{end_of_reply, last_reply_to}
use Rattle.cluster_model.specs.declared.initiating.Job.{Job}
use Rattle.cluster_model.specs.declared.initiating.Job.TheVariants.{RunCall, TakeSnapshot}
use Rattle.cluster_model.specs.Initiator.{end_of}
use Rattle.cluster_model.specs.SiteState.{AskedCall}
use Rattle.cluster_steps.specs.Lists.{In}
use Rattle.call_laws.specs.Submissions.{Submission, Submissions}

-- ---- the numbers of calls

-- that of the call that an entry applies
abbrev pub call_of : Entry → List ℕ
call_of e = map (λ a. a.call) (applied_by e)

-- those that a log applies, in its order
abbrev pub calls_of : List Entry → List ℕ
calls_of log = map (λ a. a.call) (applied_in log)

-- None of these is twice there.
abbrev pub NoTwice : List ℕ → Type 0
NoTwice [] = Unit {0}
NoTwice (n ∷ ns) = (In n ns → ⊥) × NoTwice ns

-- ---- calls as they were submitted

-- This call was submitted, before an event with this stamp.
pub record IsAskedBefore (A : Submissions) (call client : ℕ) (part : Option ℕ) (body : List ℕ) (point : ℕ) : Type 0 where
  pub at : ℕ
  pub is : A call ≡ Some (record { client = client; part = part; body = body; at = at })
  pub before : at < point

-- of an outcome: the call that it applies is one on all partitions
abbrev pub OutcomeAsked : Submissions → Outcome → Type 0
OutcomeAsked A (Kept call client point reply) = (body : List ℕ) × IsAskedBefore A call client None body point
OutcomeAsked A (Aborted call client point reply) = (body : List ℕ) × IsAskedBefore A call client None body point
OutcomeAsked A Dropped = Unit {0}
OutcomeAsked A Snapshot = Unit {0}

-- of an entry of partition p
abbrev pub EntryAsked : Submissions → ℕ → Entry → Type 0
EntryAsked A p (Sp call client point body) = IsAskedBefore A call client (Some p) body point
EntryAsked A p (Frag m round body) = Unit {0}
EntryAsked A p (Done m o) = OutcomeAsked A o

-- Of a log of partition p: each call that it applies stands there once, and is as it was submitted.
pub record CallsOk (A : Submissions) (p : ℕ) (log : List Entry) : Type 0 where
  pub once : NoTwice (calls_of log)
  pub asked : AllByRecursion (EntryAsked A p) log

-- Each submission is of a client, and before an event with this stamp.
abbrev pub AllBefore : Submissions → ℕ → Type 0
AllBefore A stamp = (call : ℕ) (s : Submission) → A call ≡ Some s → (0 < s.client) × (s.at < stamp)

-- A call that waits at a leader of partition p may run at this stamp.
pub record MayRun (A : Submissions) (p stamp : ℕ) (c : AskedCall) : Type 0 where
  pub some : 0 < c.client
  pub asked : IsAskedBefore A c.call c.client (Some p) c.body stamp

-- ---- answers

-- An end of a transaction with this outcome applies the call, and its reply is that of this end of the call.
abbrev pub AnswersCall : Outcome → ℕ → End → Type 0
AnswersCall (Kept call client point reply) n end = (call ≡ n) × (end ≡ end_of_reply reply)
AnswersCall (Aborted call client point reply) n end = (call ≡ n) × (end ≡ end_of_reply reply)
AnswersCall Dropped n end = ⊥
AnswersCall Snapshot n end = ⊥

-- What a job with this outcome is answered is the answer to its call.
abbrev pub OutcomeOf : Job → Outcome → Type 0
OutcomeOf (RunCall call client host start body) o = (end : End) → end_of o ≡ Some end → AnswersCall o call end
OutcomeOf TakeSnapshot o = Unit {0}

-- The call was submitted as one on one partition.
abbrev pub IsOnOne : Submissions → ℕ → Type 0
IsOnOne A call = (s : Submission) × (p : ℕ) × (A call ≡ Some s) × (s.part ≡ Some p)

-- ---- what an initiator knows of calls that were applied

-- The last reply to the client is of this call or a later one.
abbrev pub Covered : List LastReply → Outcome → Type 0
Covered replies (Kept call client point reply) = (r : LastReply) × (last_reply_to client replies ≡ Some r) × (call ≤ r.call)
Covered replies (Aborted call client point reply) = (r : LastReply) × (last_reply_to client replies ≡ Some r) × (call ≤ r.call)
Covered replies Dropped = Unit {0}
Covered replies Snapshot = Unit {0}

-- the last replies are by rising client, from 1 on
abbrev pub RepliesRise : List LastReply → Type 0
RepliesRise replies = RiseFrom 1 (map (λ x. x.client) replies)
