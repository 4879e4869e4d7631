-- A call on all partitions, carried out by the engines of all partitions and a coordinator.
use Rattle.std.specs.Prelude.{◌≡◌, ℕ, ◌+◌, ◌<◌, true, false, Bool, List, [], ◌∷◌, ◌++◌, map, length, Some, None}
use Rattle.volt_base.specs.declared.entry.Entry.{Entry}
use Rattle.volt_base.specs.declared.entry.Entry.TheVariants.{Sp, Frag, Done}
use Rattle.volt_base.specs.declared.entry.Outcome.{Outcome}
use Rattle.volt_base.specs.declared.entry.Outcome.TheVariants.{Kept, Aborted}
use Rattle.sql_plan.specs.declared.plan.Plan.{Plan}
use Rattle.sql_plan.specs.declared.reply.ProcReply.{ProcReply}
use Rattle.sql_meaning.specs.Calls.{Call, call, own_call}
use Rattle.sql_meaning.specs.Database.{Database, share}
use Rattle.sql_meaning.specs.Parts.{all_parts}
use Rattle.sql_meaning.specs.Replies.{reply_bytes}
use Rattle.sql_wire.specs.declared.bodies.RoundBody.TheVariants as round
use Rattle.sql_wire.specs.declared.bodies.StatementBody.{StatementBody}
use Rattle.sql_wire.specs.Bodies.{call_bytes, statement_bytes}
use Rattle.sql_wire.specs.Spelled.{AnswerFits, StatementFits}
use Rattle.engine_meaning.specs.Bodies.{body_of}
use Rattle.engine_meaning.specs.State.{SqlState}
use Rattle.engine_meaning.specs.Entries.{fits, after, answer, answer_to_round}
use Rattle.engine_meaning.specs.Coordinator.{Wants, Ends, next, is_kept}

-- ---- a call on one partition

-- the entry of a call fits, the share changes as the call means, which is answered and noted
pub record IsCalled (plan : Plan) (s : SqlState) (call client point : ℕ) (c : Call) : Type 0 where
  pub fits : fits plan s (Sp call client point (call_bytes (body_of c))) ≡ true
  pub tables : (after plan s (Sp call client point (call_bytes (body_of c)))).tables ≡ (own_call plan s.part s.tables c).0
  pub answers : answer plan s (Sp call client point (call_bytes (body_of c))) ≡ reply_bytes (own_call plan s.part s.tables c).1
  pub applied : (after plan s (Sp call client point (call_bytes (body_of c)))).applied ≡ s.applied ++ record { call = call; point = point } ∷ []

-- ---- a call on all partitions

-- the entry of a round
abbrev pub entry_of : ℕ → ℕ → StatementBody → Entry
entry_of transaction number asked = Frag transaction number (statement_bytes asked)

-- the state of each partition behind it, and what they answer, in their order
abbrev pub behind : Plan → Entry → (ℕ → SqlState) → ℕ → SqlState
behind plan entry states part = after plan (states part) entry

abbrev pub answers : Plan → Entry → (ℕ → SqlState) → List (List ℕ)
answers plan entry states = map (λ part. answer plan (states part) entry) (all_parts plan.parts)

-- what is asked and answered has a spelling
pub record AreSpelled (plan : Plan) (asked : StatementBody) (states : ℕ → SqlState) : Type 0 where
  pub statement : StatementFits asked
  pub answers : (part : ℕ) → part < plan.parts → AnswerFits (answer_to_round plan (states part) (Some (round.Statement asked)))

-- A call goes on, statement by statement, each of which every partition answers, until it ends with a reply.
pub data Runs (plan : Plan) (c : Call) (transaction : ℕ) : List (List (List ℕ)) → (ℕ → SqlState) → (ℕ → SqlState) → ProcReply → Type 0 where
  ends : {fed : List (List (List ℕ))} {states : ℕ → SqlState} {answer : ProcReply}
      → next plan c fed ≡ Ends answer → Runs plan c transaction fed states states answer
  goes_on : {fed : List (List (List ℕ))} {states last : ℕ → SqlState} {answer : ProcReply} (asked : StatementBody)
      → next plan c fed ≡ Wants asked → AreSpelled plan asked states
      → Runs plan c transaction (fed ++ answers plan (entry_of transaction (length fed + 1) asked) states ∷ []) (behind plan (entry_of transaction (length fed + 1) asked) states) last answer
      → Runs plan c transaction fed states last answer

-- each partition has its share of a database, and nothing is open there
pub record HaveShares (plan : Plan) (db : Database) (states : ℕ → SqlState) : Type 0 where
  pub numbered : (part : ℕ) → part < plan.parts → (states part).part ≡ part
  pub tables : (part : ℕ) → part < plan.parts → (states part).tables ≡ share plan.parts plan.catalog part db
  pub closed : (part : ℕ) → part < plan.parts → (states part).under_way ≡ None

-- the end of the transaction
abbrev pub outcome_of : Bool → ℕ → ℕ → ℕ → List ℕ → Outcome
outcome_of true call client point reply = Kept call client point reply
outcome_of false call client point reply = Aborted call client point reply

abbrev pub end_of : ℕ → ℕ → ℕ → ℕ → ProcReply → Entry
end_of transaction call client point answer = Done transaction (outcome_of (is_kept answer) call client point (reply_bytes answer))

-- the call is answered as it means, and behind its end each partition has its share of what it leaves
pub record IsCarriedOut (plan : Plan) (db : Database) (c : Call) (transaction : ℕ) (last : ℕ → SqlState) (answer : ProcReply) : Type 0 where
  pub reply : answer ≡ (call plan db c).1
  pub tables : (number client point part : ℕ) → part < plan.parts
      → (after plan (last part) (end_of transaction number client point answer)).tables ≡ share plan.parts plan.catalog part (call plan db c).0
