-- Of what the proofs speak: what an event makes of the history of transactions.
use Rattle.volt_wire.specs.declared.end.End.TheVariants as end
use Rattle.volt_wire.specs.declared.message.Msg.TheVariants as msg
use Rattle.transaction_laws.proofs.Names.{Actor, Agent, AgentState, AllByRecursion, Books, CallsOk, Database, Deployment, End, Entry, Firm, In, IsSlot, Knows, Leadership, Letter, List, LogState, Logs, Membership, None, Off, OnlyCalls, Onward, OrderOk, PhaseOk, Prefix, Replied, Sends, Site, Some, Sp, Submissions, Top, Transactions, Turn, Waiting, [], leader, new_agent, orders, part, stage, start_of_slot, term_of, ℕ, ◌++◌, ◌≡◌, ◌≤◌, ◌⊎◌}

-- ---- entries

-- calls on one partition that run at this stamp
abbrev pub IsCallAt : ℕ → Entry → Type 0
IsCallAt stamp (Sp call client point body) = point ≡ stamp
IsCallAt stamp x = ⊥

abbrev pub CallsAt : ℕ → List Entry → Type 0
CallsAt stamp es = AllByRecursion (IsCallAt stamp) es

-- A log is a prefix of another one, but for calls on one partition at its end.
pub record Under (xs ys : List Entry) : Type 0 where
  pub prefix : List Entry
  pub calls : List Entry
  pub is : xs ≡ prefix ++ calls
  pub stands : Prefix prefix ys
  pub only : OnlyCalls calls

-- ---- what only grows

-- T comes after S in one epoch, and what was counted firm after F is M.
pub record Onto (S T : LogState) (F M : Firm) : Type 0 where
  pub deployment : T.words.deployment ≡ S.words.deployment
  pub decided : (w : Membership) → In w S.words.history.decided → In w T.words.history.decided
  pub onward : Onward S.logs T.logs
  pub firm : (p : ℕ) → F p ≤ M p
  pub tops : (p m n : ℕ) → Top S p m n → Top T p m n

-- ---- the turn of a site, in its effect on the log of one partition's leader in one term

-- Calls run behind a log, where no transaction is open: none that it applies already, and each as it was submitted.
pub record RunsBehind (E : Database) (A : Submissions) (p stamp : ℕ) (log after : List Entry) : Type 0 where
  pub calls : List Entry
  pub is : after ≡ log ++ calls
  pub at : CallsAt stamp calls
  pub room : (calls ≡ []) ⊎ ((stage E p log).opened ≡ None)
  pub once : CallsOk A p log → CallsOk A p after

-- The term stays as it was, or it begins, or its leader takes what was due to it and runs calls.
pub record BeginsTerm (E : Database) (A : Submissions) (F G : Logs) (due next : List Entry) (stamp p t : ℕ) : Type 0 where
  pub none : F.leadership p t ≡ None
  pub leadership : Leadership
  pub led : G.leadership p t ≡ Some leadership
  pub before : due ≡ []
  pub after : next ≡ []
  pub runs : RunsBehind E A p stamp leadership.begun leadership.log

pub record GoesOnTerm (E : Database) (A : Submissions) (F G : Logs) (due next : List Entry) (stamp p t : ℕ) : Type 0 where
  pub old : Leadership
  pub was : F.leadership p t ≡ Some old
  pub new : Leadership
  pub is : G.leadership p t ≡ Some new
  pub begun : new.begun ≡ old.begun
  pub taken : List Entry
  pub due_is : due ≡ taken ++ next
  pub runs : RunsBehind E A p stamp (old.log ++ taken) new.log

abbrev pub Moved : Database → Submissions → Logs → Logs → (ℕ → ℕ → List Entry) → (ℕ → ℕ → List Entry) → ℕ → ℕ → ℕ → Type 0
Moved E A F G due next stamp p t =
    ((G.leadership p t ≡ F.leadership p t) × (next p t ≡ due p t))
    ⊎ BeginsTerm E A F G (due p t) (next p t) stamp p t
    ⊎ GoesOnTerm E A F G (due p t) (next p t) stamp p t

-- with what is due by then
abbrev pub with_due : Transactions → (ℕ → ℕ → List Entry) → Transactions
with_due K due = record K { due = due }

-- ---- the turn of an agent

-- A round or an end that the agent of host n, the initiator of this word, sends to slot c.
abbrev pub SentOrder : LogState → ℕ → Membership → ℕ → Letter → Type 0
SentOrder S n w c l = elim l.body as (λ _. Type 0) [
  | msg.Frag m round body ↦ OrderOk S n c l × (l.term ≡ term_of w)
  | msg.Done m o ↦ OrderOk S n c l × (l.term ≡ term_of w)
  | _ ↦ Unit {0}
]

-- what an agent sends that isn't an initiator
abbrev pub NoOrder : Letter → Type 0
NoOrder l = elim l.body as (λ _. Type 0) [ msg.Frag m round body ↦ ⊥ | msg.Done m o ↦ ⊥ | _ ↦ Unit {0} ]

-- What it sends is due from then on.
pub record SendsDue (S : LogState) (n : ℕ) (w : Membership) (K L : Transactions) (out : Sends) : Type 0 where
  pub letters : (c : ℕ) → IsSlot S c → AllByRecursion (SentOrder S n w c) (out (Site c))
  pub due : (c a : ℕ) → IsSlot S c → leader S.words.deployment w (part S c) ≡ Some c → start_of_slot S.words.deployment w c ≡ Some a
      → L.due (part S c) (term_of w) ≡ K.due (part S c) (term_of w) ++ orders a (term_of w) (out (Site c))
  pub others : (p t : ℕ) → (t ≡ term_of w → ⊥) → L.due p t ≡ K.due p t

-- what may be said of a call and its end
abbrev pub Ending : Type 1
Ending = ℕ → End → Type 0

-- What an agent tells another one of a call, and what a client.
abbrev pub Tells : Ending → Ending → Letter → Type 0
Tells M R l = elim l.body as (λ _. Type 0) [
  | msg.MpReply call e ↦ M call e
  | msg.Answer call e ↦ R call e
  | _ ↦ Unit {0}
]

abbrev pub AllTell : Ending → Ending → Sends → Type 0
AllTell M R out = (b : Actor) → AllByRecursion (Tells M R) (out b)

-- What it is told by another agent or by a site.
abbrev pub Brings : Ending → Actor → Letter → Type 0
Brings R (Agent h) l = elim l.body as (λ _. Type 0) [ msg.MpReply call e ↦ R call e | _ ↦ Unit {0} ]
Brings R (Site c) l = elim l.body as (λ _. Type 0) [ msg.Reply call start e ↦ R call e | _ ↦ Unit {0} ]
Brings R from l = Unit {0}

abbrev pub WaitsTold : Ending → Waiting → Type 0
WaitsTold R x = Brings R x.from x.letter

-- A client may be told that a partition is down, and what an initiator answers.
pub record MayTell (G : Logs) (D : Deployment) (F : Firm) (R : Ending) : Type 0 where
  pub down : (call part : ℕ) → R call (end.Down part)
  pub replied : (call : ℕ) (e : End) → Replied G D F call e → R call e

-- A turn of an agent that is an initiator, with word w, and stays one with that.
pub record InitiatorGoes (E : Database) (S : LogState) (F : Firm) (K : Transactions) (stamp n : ℕ) (w : Membership) (a : AgentState) (t : Turn AgentState) : Type 0 where
  pub after : Transactions
  pub books : Books E S F after stamp
  pub heard : K.heard ≤ after.heard
  pub start : t.state.start ≡ a.start
  pub decided : t.state.decided ≡ a.decided
  pub waiting : t.state.waiting ≡ a.waiting
  pub submitted : after.submitted ≡ K.submitted
  pub phase : PhaseOk E S F after (term_of w) t.state t.state.initiating.phase
  pub knows : Knows S F after t.state.initiating
  pub sends : SendsDue S n w K after t.sends

-- What it answers is the end that stands in all partitions.
pub record InitiatorActs (E : Database) (S : LogState) (F : Firm) (K : Transactions) (stamp n : ℕ) (w : Membership) (a : AgentState) (t : Turn AgentState) : Type 0 where
  pub goes : InitiatorGoes E S F K stamp n w a t
  pub tells : AllTell (Replied S.logs S.words.deployment F) (Replied S.logs S.words.deployment F) t.sends

-- A turn of one that isn't.
pub record OffGoes (M R : Ending) (a : AgentState) (t : Turn AgentState) : Type 0 where
  pub phase : t.state.initiating.phase ≡ Off
  pub work : t.state.initiating.work ≡ None
  pub next : t.state.initiating.next ≡ 0
  pub replies : t.state.initiating.replies ≡ []
  pub sends : (c : ℕ) → AllByRecursion NoOrder (t.sends (Site c))
  pub tells : AllTell M R t.sends
  -- it goes on, or it has stopped
  pub kept : (t.state ≡ new_agent 0) ⊎ ((t.state.start ≡ a.start) × (t.state.decided ≡ a.decided) × (t.state.waiting ≡ a.waiting))
