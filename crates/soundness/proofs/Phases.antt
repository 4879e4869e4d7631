-- Where a run stands between two events: the calls that ended, how far the next one has come, and what is left.
use Rattle.std.proofs.Common.{◌≡◌, ℕ, ◌+◌, ◌*◌, ◌==◌, ◌<◌, ◌≤◌, false, List, [], ◌∷◌, ◌++◌, length, map, replicate, Option, Some, None}
use Rattle.volt_base.specs.Semantics.{Semantics}
use Rattle.volt_base.specs.declared.entry.Entry.{Entry}
use Rattle.volt_base.specs.declared.entry.Entry.TheVariants.{Sp}
use Rattle.one_host_model.specs.declared.message.Msg.{Msg}
use Rattle.one_host_model.specs.declared.message.Msg.TheVariants as msg
use Rattle.one_host_model.specs.Client.{may_submit}
use Rattle.one_host_model.specs.declared.state.Pending.{Pending}
use Rattle.one_host_model.specs.declared.state.Waiting.{Waiting}
use Rattle.one_host_model.specs.Site.{owes}
use Rattle.one_host_model.specs.World.{World, due}
use Rattle.soundness.specs.Meaning.{Meaning}
use Rattle.soundness.specs.Carries.{Carries, world_calls}
use Rattle.soundness.specs.Tied.{ended_line}
use Rattle.soundness.proofs.Past.{Past, calls_of, lines_from, database_of, entries_from, Timed}
use Rattle.soundness.proofs.Channels.{Channels}

-- how far a call has come, with its submission and, once it is in the log, its point
pub data Phase (A : Type 0) : Type 0 where
  Idle : Phase A
  Called : A → ℕ → Phase A
  Sent : A → ℕ → Phase A
  Logged : A → ℕ → ℕ → Phase A
  Replied : A → ℕ → ℕ → Phase A
  Answered : A → ℕ → ℕ → Phase A

module _ {A : Type 0} where
  -- the call that is under way
  abbrev pub asked_of : Phase A → List A
  asked_of Idle = []
  asked_of (Called c s) = c ∷ []
  asked_of (Sent c s) = c ∷ []
  asked_of (Logged c s p) = c ∷ []
  asked_of (Replied c s p) = c ∷ []
  asked_of (Answered c s p) = c ∷ []

  -- the number of the next call that is submitted, where n is that of the call under way
  abbrev pub next_of : ℕ → Phase A → ℕ
  next_of n Idle = n
  next_of n (Called c s) = n + 1
  next_of n (Sent c s) = n + 1
  next_of n (Logged c s p) = n + 1
  next_of n (Replied c s p) = n + 1
  next_of n (Answered c s p) = n + 1

  -- what the client waits for
  abbrev pub pending_of : ℕ → Phase A → Option (ℕ × ℕ)
  pending_of n Idle = None
  pending_of n (Called c s) = Some (n, s)
  pending_of n (Sent c s) = Some (n, s)
  pending_of n (Logged c s p) = Some (n, s)
  pending_of n (Replied c s p) = Some (n, s)
  pending_of n (Answered c s p) = Some (n, s)

  -- what the agent waits for
  abbrev pub taken_of : ℕ → Phase A → List Pending
  taken_of n Idle = []
  taken_of n (Called c s) = []
  taken_of n (Sent c s) = record { call = n; client = 1 } ∷ []
  taken_of n (Logged c s p) = record { call = n; client = 1 } ∷ []
  taken_of n (Replied c s p) = record { call = n; client = 1 } ∷ []
  taken_of n (Answered c s p) = []

  -- its entry
  abbrev pub entry_of : (A → List ℕ) → ℕ → Phase A → List Entry
  entry_of body n Idle = []
  entry_of body n (Called c s) = []
  entry_of body n (Sent c s) = []
  entry_of body n (Logged c s p) = Sp n 1 p (body c) ∷ []
  entry_of body n (Replied c s p) = Sp n 1 p (body c) ∷ []
  entry_of body n (Answered c s p) = Sp n 1 p (body c) ∷ []

  -- its entry once that is on disk
  abbrev pub firm_of : (A → List ℕ) → ℕ → Phase A → List Entry
  firm_of body n Idle = []
  firm_of body n (Called c s) = []
  firm_of body n (Sent c s) = []
  firm_of body n (Logged c s p) = []
  firm_of body n (Replied c s p) = Sp n 1 p (body c) ∷ []
  firm_of body n (Answered c s p) = Sp n 1 p (body c) ∷ []

  -- the reply that waits
  abbrev pub waiting_of : (A → List ℕ) → ℕ → Phase A → List Waiting
  waiting_of reply n Idle = []
  waiting_of reply n (Called c s) = []
  waiting_of reply n (Sent c s) = []
  waiting_of reply n (Logged c s p) = record { host = 0; start = 1; call = n; reply = reply c } ∷ []
  waiting_of reply n (Replied c s p) = []
  waiting_of reply n (Answered c s p) = []

  -- what is under way from the client to the agent
  abbrev pub calls_in : (A → List ℕ) → ℕ → Phase A → List Msg
  calls_in body n Idle = []
  calls_in body n (Called c s) = msg.Call n 1 (Some 0) (body c) ∷ []
  calls_in body n (Sent c s) = []
  calls_in body n (Logged c s p) = []
  calls_in body n (Replied c s p) = []
  calls_in body n (Answered c s p) = []

  -- from the agent to the site
  abbrev pub sps_in : (A → List ℕ) → ℕ → Phase A → List Msg
  sps_in body n Idle = []
  sps_in body n (Called c s) = []
  sps_in body n (Sent c s) = msg.SpCall n 1 1 (body c) ∷ []
  sps_in body n (Logged c s p) = []
  sps_in body n (Replied c s p) = []
  sps_in body n (Answered c s p) = []

  -- from the site to the agent
  abbrev pub replies_in : (A → List ℕ) → ℕ → Phase A → List Msg
  replies_in reply n Idle = []
  replies_in reply n (Called c s) = []
  replies_in reply n (Sent c s) = []
  replies_in reply n (Logged c s p) = []
  replies_in reply n (Replied c s p) = msg.Reply n 1 (reply c) ∷ []
  replies_in reply n (Answered c s p) = []

  -- from the agent to the client
  abbrev pub answers_in : (A → List ℕ) → ℕ → Phase A → List Msg
  answers_in reply n Idle = []
  answers_in reply n (Called c s) = []
  answers_in reply n (Sent c s) = []
  answers_in reply n (Logged c s p) = []
  answers_in reply n (Replied c s p) = []
  answers_in reply n (Answered c s p) = msg.Answer n (reply c) ∷ []

  -- how many events the call has still before it
  abbrev pub work_of : Phase A → ℕ
  work_of Idle = 0
  work_of (Called c s) = 5
  work_of (Sent c s) = 4
  work_of (Logged c s p) = 3
  work_of (Replied c s p) = 2
  work_of (Answered c s p) = 1

  -- the stamps have risen until now
  abbrev pub InTime : List (Past A) → Phase A → ℕ → Type 0
  InTime past Idle now = Timed 0 past now
  InTime past (Called c s) now = Timed 0 past s × (s ≤ now)
  InTime past (Sent c s) now = Timed 0 past s × (s ≤ now)
  InTime past (Logged c s p) now = Timed 0 past s × (s < p) × (p ≤ now)
  InTime past (Replied c s p) now = Timed 0 past s × (s < p) × (p ≤ now)
  InTime past (Answered c s p) now = Timed 0 past s × (s < p) × (p ≤ now)

-- The world after these calls ended, with call n in this phase, these calls left, and so many words to the director
-- under way.
pub record Stands (S : Semantics) (M : Meaning) (h : Carries S M) (calls : List M.Call) (w : World) (past : List (Past M.Call)) (n : ℕ) (phase : Phase M.Call) (left : List M.Call) (told : ℕ) : Type 0 where
  pub number : n ≡ length past + 1
  pub all : calls_of past ++ (asked_of phase ++ left) ≡ calls
  pub client : w.clients 1 ≡ record { left = due 1 (next_of n phase) (world_calls M h.body left); pending = pending_of n phase; ended = map (ended_line h.reply_bytes) (lines_from M 1 (M.database []) past) }
  pub agent : w.agents 0 ≡ record { start = 1; pending = taken_of n phase }
  pub site : w.sites 0 ≡ record { log = entries_from h.body 1 past ++ entry_of h.body n phase; on_disk = length (entries_from h.body 1 past ++ firm_of h.body n phase); waiting = waiting_of (λ c. h.reply_bytes (M.reply (database_of M (M.database []) past) c)) n phase }
  pub clients : (m : ℕ) → (m == 1) ≡ false → may_submit (w.clients m).left (w.clients m).pending ≡ false
  pub sites : (i : ℕ) → (i == 0) ≡ false → owes (w.sites i) ≡ false
  pub channels : Channels w.channel (replicate told msg.Told) (calls_in h.body n phase) (sps_in h.body n phase) (replies_in (λ c. h.reply_bytes (M.reply (database_of M (M.database []) past) c)) n phase) (answers_in (λ c. h.reply_bytes (M.reply (database_of M (M.database []) past) c)) n phase)
  pub timed : InTime past phase (length w.trace)
  pub counted : length w.trace + work_of phase + told + 7 * length left ≡ 7 * length calls

-- the world of some run on these calls
abbrev pub Good : (S : Semantics) (M : Meaning) → Carries S M → List M.Call → World → Type 0
Good S M h calls w = (past : List (Past M.Call)) × (n : ℕ) × (phase : Phase M.Call) × (left : List M.Call) × (told : ℕ) × Stands S M h calls w past n phase left told
