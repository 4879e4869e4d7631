-- What the laws of transactions say of the answers that agents give: to which entries they are, and that these are firm.
use Rattle.std.specs.Prelude.{ℕ, ◌≡◌, true, nat_lt, List, [], ◌∷◌, ◌++◌, Option, Some, None}
use Rattle.volt_base.specs.declared.entry.Entry.{Entry}
use Rattle.volt_base.specs.declared.entry.Entry.TheVariants.{Sp, Done}
use Rattle.volt_base.specs.declared.entry.Outcome.{Outcome}
use Rattle.volt_wire.specs.declared.actor.Actor.TheVariants.{Agent, Client}
use Rattle.volt_wire.specs.declared.end.End.{End}
use Rattle.volt_wire.specs.declared.end.End.TheVariants.{Down, Lost}
use Rattle.volt_wire.specs.declared.message.Msg.TheVariants as msg
use Rattle.cluster_model.specs.Engine.{Database}
use Rattle.cluster_model.specs.Log.{answer_behind}
use Rattle.cluster_model.specs.Replies.{end_of_reply}
use Rattle.cluster_model.specs.Words.{Deployment, parts}
use Rattle.cluster_model.specs.Letters.{Letter}
use Rattle.cluster_model.specs.World.{World, Input}
use Rattle.cluster_steps.specs.Lists.{In, Prefix}
use Rattle.disk_laws.specs.Survival.{firm_entries}
use Rattle.reply_laws.specs.Answers.{IsAnsweredCall, Stands}
use Rattle.call_laws.specs.Submissions.{Asks, Submission, Submissions}
use Rattle.transaction_laws.specs.Calls.{AnswersCall}

-- ---- messages

-- those under way from the agent of host h to that of host g
abbrev pub to_agent : World → ℕ → ℕ → List Letter
to_agent w h g = w.channel (Agent h) (Agent g)

-- and to client n
abbrev pub to_client : World → ℕ → ℕ → List Letter
to_client w h n = w.channel (Agent h) (Client n)

-- A message tells the agent that asked how a call on all partitions ended.
abbrev pub RepliesToAgent : Letter → ℕ → End → Type 0
RepliesToAgent l call end = l.body ≡ msg.MpReply call end

-- A message tells a client how its call ended.
abbrev pub AnswersClient : Letter → ℕ → End → Type 0
AnswersClient l call end = l.body ≡ msg.Answer call end

-- ---- where an answer stands

-- Of logs of all partitions: an entry in that of partition p applies the call, and this end is that of the reply which the
-- partition gives there.
abbrev pub AnsweredIn : Database → (ℕ → List Entry) → ℕ → ℕ → End → Type 0
AnsweredIn E logs p call end = Stands (IsAnsweredCall E p call end) (logs p)

-- One end of a transaction stands in each. It applies the call, and this end of the call is that of the reply that it carries.
pub record EndsInAll (D : Deployment) (logs : ℕ → List Entry) (call : ℕ) (end : End) : Type 0 where
  pub number : ℕ
  pub outcome : Outcome
  pub answers : AnswersCall outcome call end
  pub stands : (p : ℕ) → nat_lt p (parts D) ≡ true → In (Done number outcome) (logs p)

-- A call on one partition is answered so in that one, and one on all of them by such an end.
abbrev pub AnsweredOn : Database → Deployment → (ℕ → List Entry) → ℕ → End → Option ℕ → Type 0
AnsweredOn E D logs call end (Some p) = (nat_lt p (parts D) ≡ true) × AnsweredIn E logs p call end
AnsweredOn E D logs call end None = EndsInAll D logs call end

-- So it is of a call that was submitted, unless the answer says that a partition is down.
abbrev pub AnswerStands : Database → Deployment → Submissions → (ℕ → List Entry) → ℕ → End → Type 0
AnswerStands E D A logs call (Down down) = Unit {0}
AnswerStands E D A logs call Lost = ⊥
AnswerStands E D A logs call end = (s : Submission) × (A call ≡ Some s) × AnsweredOn E D logs call end s.part

-- ---- what a client is told

-- The client's call with this body runs in a log of partition p, and this end is that of what the database answers behind the
-- entries before it.
pub record RunsIn (E : Database) (p : ℕ) (log : List Entry) (client call : ℕ) (body : List ℕ) (end : End) : Type 0 where
  pub before : List Entry
  pub point : ℕ
  pub stands : Prefix (before ++ Sp call client point body ∷ []) log
  pub answers : end ≡ end_of_reply (answer_behind E p before (Sp call client point body))

-- A call on one partition runs so in its log, and one on all of them ends so in all.
abbrev pub RunsOn : Database → Deployment → (ℕ → List Entry) → ℕ → ℕ → List ℕ → End → Option ℕ → Type 0
RunsOn E D logs client call body end (Some p) = (nat_lt p (parts D) ≡ true) × RunsIn E p (logs p) client call body end
RunsOn E D logs client call body end None = EndsInAll D logs call end

-- Of a call on this partition, or on all: the client is told that a partition is down, which says nothing of the call, or how it
-- is answered. An agent never says that it is lost.
abbrev pub ToldOf : Database → Deployment → (ℕ → List Entry) → ℕ → ℕ → List ℕ → End → Option ℕ → Type 0
ToldOf E D logs client call body (Down down) part = Unit {0}
ToldOf E D logs client call body Lost part = ⊥
ToldOf E D logs client call body end part = RunsOn E D logs client call body end part

-- ---- of the entries that leaders counted firm

-- The end stands among them in each partition,
abbrev pub EndIsFirm : World → ℕ → End → Type 0
EndIsFirm w call end = EndsInAll w.deployment (firm_entries w) call end

-- and the call is answered so among those of this partition.
abbrev pub CallIsFirm : Database → World → ℕ → ℕ → End → Type 0
CallIsFirm E w p call end = AnsweredIn E (firm_entries w) p call end

-- The call is one of this client, as the input has it, and it is told what is so of those.
pub record AnswerIsFirm (E : Database) (I : Input) (w : World) (n call : ℕ) (end : End) : Type 0 where
  pub part : Option ℕ
  pub body : List ℕ
  pub asked : Asks I call n part body
  pub stands : ToldOf E w.deployment (firm_entries w) n call body end part
