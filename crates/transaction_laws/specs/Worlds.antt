-- What the laws of transactions say of a world: which logs its sites have, how calls on all partitions end, that calls run once, and who
-- its initiator is.
use Rattle.std.specs.Prelude.{ℕ, ◌≡◌, ◌<◌, ◌⊎◌, true, nat_lt, length, List, Option, Some, None}
use Rattle.std.specs.List.{AllByRecursion}
use Rattle.volt_base.specs.declared.entry.Entry.{Entry}
use Rattle.volt_base.specs.declared.entry.Entry.TheVariants.{Sp, Frag, Done}
use Rattle.volt_base.specs.declared.entry.Outcome.{Outcome}
use Rattle.volt_base.specs.declared.entry.Outcome.TheVariants.{Dropped, Kept, Aborted, Snapshot}
use Rattle.volt_wire.specs.Word.{Membership}
use Rattle.cluster_model.specs.Client.{Ended, Submitted}
use Rattle.cluster_model.specs.Disk.{recovered}
use Rattle.cluster_model.specs.Engine.{Database}
use Rattle.cluster_model.specs.Log.{nothing_open, open_in}
use Rattle.cluster_model.specs.Recover.{shown_of}
use Rattle.cluster_model.specs.Words.{slots, parts, initiator}
use Rattle.cluster_model.specs.World.{World, Input}
use Rattle.cluster_steps.specs.Lists.{In}
use Rattle.call_laws.specs.Submissions.{Asks}
use Rattle.transaction_laws.specs.Calls.{NoTwice, call_of, calls_of}
use Rattle.transaction_laws.specs.Machine.{WellFormed, RiseWithin, first_stage, points}

abbrev pub IsSlotOf : World → ℕ → Type 0
IsSlotOf w i = nat_lt i (slots w.deployment) ≡ true

abbrev pub IsPartOf : World → ℕ → Type 0
IsPartOf w p = nat_lt p (parts w.deployment) ≡ true

-- The agent of a host runs, and is the initiator of the word that it has decided.
pub record IsInitiator (w : World) (h : ℕ) : Type 0 where
  pub runs : 0 < (w.agents h).start
  pub word : Membership
  pub decided : (w.agents h).decided ≡ Some word
  pub initiates : initiator word ≡ Some (h, (w.agents h).start)

-- The log with which a recovery would go on in a partition, did the disks show these contents: each entry fits behind those before it, its
-- points never fall, and no transaction is open.
pub record GoesOnClosed (E : Database) (w : World) (shown : List ℕ) (p : ℕ) : Type 0 where
  pub formed : WellFormed (first_stage E p) (recovered E w.deployment (shown_of w shown) p)
  pub rise : RiseWithin 0 (length w.trace) (points (recovered E w.deployment (shown_of w shown) p))
  pub closed : nothing_open (recovered E w.deployment (shown_of w shown) p) ≡ true

-- ---- calls on all partitions

-- An end with this outcome applies its call: that was kept or aborted.
abbrev pub IsApplied : Outcome → Type 0
IsApplied (Kept call client point reply) = Unit {0}
IsApplied (Aborted call client point reply) = Unit {0}
IsApplied Dropped = ⊥
IsApplied Snapshot = ⊥

-- The log with which a recovery would go on in partition q, did the disks show these contents, has each end that applies a call on all
-- partitions in that of partition p.
abbrev pub GoesOnAlike : Database → World → List ℕ → ℕ → ℕ → Type 0
GoesOnAlike E w shown p q = (m : ℕ) (o : Outcome) → IsApplied o
    → In (Done m o) (recovered E w.deployment (shown_of w shown) p)
    → In (Done m o) (recovered E w.deployment (shown_of w shown) q)

-- Where an end that applies a call on all partitions stands in the log of the leader of partition p of the greatest term, it stands in that
-- of partition q too, or its transaction is open there.
abbrev pub StandsOrIsOpen : World → ℕ → ℕ → Type 0
StandsOrIsOpen w p q = (m : ℕ) (o : Outcome) → IsApplied o
    → In (Done m o) (w.authoritative p).log
    → In (Done m o) (w.authoritative q).log ⊎ (open_in (w.authoritative q).log ≡ Some m)

-- Where an end that applies a call on all partitions stands in the log of the leader of partition p of the greatest term, no other end of
-- its number stands in that of partition q.
abbrev pub EndsAlike : World → ℕ → ℕ → Type 0
EndsAlike w p q = (m : ℕ) (o a : Outcome) → IsApplied o
    → In (Done m o) (w.authoritative p).log
    → In (Done m a) (w.authoritative q).log
    → a ≡ o

-- ---- calls run once

-- The client submitted this call first at this event: it is pending, or has ended.
abbrev pub SubmittedAt : World → ℕ → ℕ → ℕ → Type 0
SubmittedAt w client call at =
    ((p : Submitted) × ((w.clients client).pending ≡ Some p) × (p.due.call ≡ call) × (p.at ≡ at))
    ⊎ ((e : Ended) × In e (w.clients client).ended × (e.call ≡ call) × (e.submitted ≡ at))

-- The input has this call, and its client submitted it before the event with this stamp.
pub record WasAskedBefore (I : Input) (w : World) (call client : ℕ) (part : Option ℕ) (body : List ℕ) (point : ℕ) : Type 0 where
  pub asked : Asks I call client part body
  pub at : ℕ
  pub submitted : SubmittedAt w client call at
  pub before : at < point

-- The call that an outcome applies is one on all partitions, and was submitted before its point.
abbrev pub EndIsAsked : Input → World → Outcome → Type 0
EndIsAsked I w (Kept call client point reply) = (body : List ℕ) × WasAskedBefore I w call client None body point
EndIsAsked I w (Aborted call client point reply) = (body : List ℕ) × WasAskedBefore I w call client None body point
EndIsAsked I w Dropped = Unit {0}
EndIsAsked I w Snapshot = Unit {0}

-- So is the one that an entry of partition p applies: a call on one partition is one on this, with its body.
abbrev pub CallIsAsked : Input → World → ℕ → Entry → Type 0
CallIsAsked I w p (Sp call client point body) = WasAskedBefore I w call client (Some p) body point
CallIsAsked I w p (Frag m round body) = Unit {0}
CallIsAsked I w p (Done m o) = EndIsAsked I w o

-- Of a log of partition p: it applies no call twice, and each as it was submitted.
pub record AppliesOnce (I : Input) (w : World) (p : ℕ) (log : List Entry) : Type 0 where
  pub once : NoTwice (calls_of log)
  pub asked : AllByRecursion (CallIsAsked I w p) log

abbrev pub IsEnd : Entry → Type 0
IsEnd (Sp call client point body) = ⊥
IsEnd (Frag m round body) = ⊥
IsEnd (Done m o) = Unit {0}

-- A call that both of these logs apply, they apply by one end.
abbrev pub ShareEnds : List Entry → List Entry → Type 0
ShareEnds xs ys = (call : ℕ) (e f : Entry) → In e xs → In f ys → In call (call_of e) → In call (call_of f) → (e ≡ f) × IsEnd e
