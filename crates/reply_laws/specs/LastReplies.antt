-- The calls that a log applies for a client, what their entries reply, and the last of these replies.
use Rattle.std.proofs.Common.{◌≡◌, ◌<◌, ◌≤◌, List, [], ◌∷◌, ◌++◌, ◌==◌}
use Rattle.std.specs.Prelude.{ℕ, if◌then◌else◌, map, Option, Some, None}
use Rattle.std.specs.List.{AllByRecursion}
use Rattle.volt_base.specs.declared.entry.Entry.{Entry}
use Rattle.volt_base.specs.declared.entry.Entry.TheVariants.{Sp, Frag, Done}
use Rattle.volt_base.specs.declared.entry.LastReply.{LastReply}
use Rattle.volt_base.specs.declared.entry.Outcome.TheVariants.{Dropped, Kept, Aborted, Snapshot}
use Rattle.cluster_model.specs.Engine.{Database}
use Rattle.cluster_model.specs.Log.{answer_behind, applied_by}

-- ---- of an entry

-- the client whose call it applies; 0 is none
abbrev pub applied_for : Entry → ℕ
applied_for (Sp call client point body) = client
applied_for (Frag m round body) = 0
applied_for (Done m Dropped) = 0
applied_for (Done m (Kept call client point reply)) = client
applied_for (Done m (Aborted call client point reply)) = client
applied_for (Done m Snapshot) = 0

-- What it replies to the call that it applies, behind these entries of partition p: to a call on one partition what the
-- replay answers, to one on all partitions what its end carries.
abbrev pub reply_at : Database → ℕ → List Entry → Entry → List ℕ
reply_at E p before (Sp call client point body) = answer_behind E p before (Sp call client point body)
reply_at E p before (Frag m round body) = []
reply_at E p before (Done m Dropped) = []
reply_at E p before (Done m (Kept call client point reply)) = reply
reply_at E p before (Done m (Aborted call client point reply)) = reply
reply_at E p before (Done m Snapshot) = []

-- ---- of a log

-- the numbers of the client's calls that an entry applies
abbrev pub calls_by : ℕ → Entry → List ℕ
calls_by client e = if applied_for e == client then map (λ a. a.call) (applied_by e) else []

-- those that a log applies, in its order
abbrev pub calls_in : ℕ → List Entry → List ℕ
calls_in client [] = []
calls_in client (e ∷ es) = calls_by client e ++ calls_in client es

-- ---- the last reply to a client

-- It is what the entry of its call replies there. That call is the client's greatest in the log: those before the entry are
-- less, and none behind it is greater.
pub record IsLastReply (E : Database) (p client : ℕ) (log : List Entry) (r : LastReply) : Type 0 where
  pub before : List Entry
  pub entry : Entry
  pub behind : List Entry
  pub splits : log ≡ before ++ entry ∷ behind
  pub point : ℕ
  pub applies : applied_by entry ≡ record { call = r.call; point = point } ∷ []
  pub for_client : applied_for entry ≡ client
  pub client_is : r.client ≡ client
  pub reply_is : r.reply ≡ reply_at E p before entry
  pub less : AllByRecursion (λ n. n < r.call) (calls_in client before)
  pub greatest : AllByRecursion (λ n. n ≤ r.call) (calls_in client behind)

-- Where there is none, the log applies no call of the client.
abbrev pub LastReplyIs : Database → ℕ → ℕ → List Entry → Option LastReply → Type 0
LastReplyIs E p client log None = calls_in client log ≡ []
LastReplyIs E p client log (Some r) = IsLastReply E p client log r
