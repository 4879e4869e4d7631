-- What the laws of answers say of what a site replies: it is the answer to an entry that stands in a log.
use Rattle.std.proofs.Common.{◌≡◌, Bool, true, false, List, [], ◌∷◌, ◌++◌}
use Rattle.std.specs.Prelude.{ℕ, ◌+◌, ◌≤◌, ◌<◌, length, Option}
use Rattle.std.specs.List.{AllByRecursion}
use Rattle.volt_base.specs.declared.entry.Entry.{Entry}
use Rattle.volt_base.specs.declared.entry.Entry.TheVariants.{Frag, Done}
use Rattle.volt_base.specs.declared.entry.LastReply.{LastReply}
use Rattle.volt_base.specs.declared.entry.Outcome.{Outcome}
use Rattle.volt_wire.specs.declared.actor.Actor.TheVariants.{Agent}
use Rattle.volt_wire.specs.declared.end.End.{End}
use Rattle.volt_wire.specs.declared.message.Msg.{Msg}
use Rattle.volt_wire.specs.declared.message.Msg.TheVariants as msg
use Rattle.cluster_model.specs.Engine.{Database}
use Rattle.cluster_model.specs.Log.{answer_behind, applied_by, open_in, last_done}
use Rattle.cluster_model.specs.Words.{Deployment, part_of_slot}
use Rattle.cluster_model.specs.Letters.{Blocks, Letter, Turn}
use Rattle.cluster_model.specs.SiteState.{SiteState, Held, leads, site_term}
use Rattle.cluster_model.specs.Site.{standing, is_first_term, has_all_on_disk}
use Rattle.cluster_model.specs.Replies.{end_of_reply, last_replies}
use Rattle.cluster_steps.specs.Lists.{Prefix}
use Rattle.reply_laws.specs.LastReplies.{reply_at}

-- ---- what is said of an entry

-- What may be said of an entry, and of the entries before it in its log.
abbrev pub Claim : Type 1
Claim = List Entry → Entry → Type 0

-- The entry applies this call, as the call itself or as its end, and this end is that of the reply which partition p gives there.
pub record IsAnsweredCall (E : Database) (p call : ℕ) (end : End) (prefix : List Entry) (e : Entry) : Type 0 where
  pub point : ℕ
  pub is : applied_by e ≡ record { call = call; point = point } ∷ []
  pub answers : end ≡ end_of_reply (reply_at E p prefix e)

-- It is this round, and this part is what the replay answers to it.
pub record IsAnsweredRound (E : Database) (p m round : ℕ) (partial : List ℕ) (prefix : List Entry) (e : Entry) : Type 0 where
  pub body : List ℕ
  pub is : e ≡ Frag m round body
  pub answers : partial ≡ answer_behind E p prefix e

-- It is an end of this transaction.
pub record IsAnsweredEnd (m : ℕ) (prefix : List Entry) (e : Entry) : Type 0 where
  pub outcome : Outcome
  pub is : e ≡ Done m outcome

-- An entry of which this is so stands in this log.
pub record Stands (P : Claim) (log : List Entry) : Type 0 where
  pub prefix : List Entry
  pub entry : Entry
  pub stands : Prefix (prefix ++ entry ∷ []) log
  pub claim : P prefix entry

-- It stands there as the entry at this position.
pub record StandsAt (P : Claim) (log : List Entry) (position : ℕ) : Type 0 where
  pub here : Stands P log
  pub at : length here.prefix + 1 ≡ position

-- It stands there as the entry at this position or at an earlier one.
pub record StandsBy (P : Claim) (log : List Entry) (position : ℕ) : Type 0 where
  pub at : ℕ
  pub stands : StandsAt P log at
  pub waits : at ≤ position

-- ---- answers

-- A site answers a call with a Reply, a round with FragDone, and the end of a transaction with Finished.
abbrev pub is_answer : Msg Blocks → Bool
is_answer body = elim body as (λ _. Bool) [
  | msg.Reply call start end ↦ true
  | msg.FragDone m round partial ↦ true
  | msg.Finished m ↦ true
  | _ ↦ false
]

-- what an answer of a site of partition p says of the entry that it answers
abbrev pub ClaimOf : Database → ℕ → Msg Blocks → Claim
ClaimOf E p body = elim body as (λ _. Claim) [
  | msg.Reply call start end ↦ IsAnsweredCall E p call end
  | msg.FragDone m round partial ↦ IsAnsweredRound E p m round partial
  | msg.Finished m ↦ IsAnsweredEnd m
  | _ ↦ λ prefix e. Unit {0}
]

-- What each answer says of the entry that it answers, and of the entries before it.
abbrev pub Claims : Type 1
Claims = Msg Blocks → Claim

-- What is claimed of an entry is so as the answer to it is held.
pub record ClaimsFit (E : Database) (p : ℕ) (T : Claims) : Type 0 where
  pub call : (log : List Entry) (e : Entry) (call start point : ℕ) → applied_by e ≡ record { call = call; point = point } ∷ []
      → T (msg.Reply call start (end_of_reply (reply_at E p log e))) log e
  pub round : (log : List Entry) (m round : ℕ) (body : List ℕ) → T (msg.FragDone m round (answer_behind E p log (Frag m round body))) log (Frag m round body)
  pub end : (log : List Entry) (m : ℕ) (o : Outcome) → T (msg.Finished m) log (Done m o)

-- An answer to a round or an end is for one term. How a partition stands is never held.
abbrev pub OfTerm : ℕ → Letter → Type 0
OfTerm term l = elim l.body as (λ _. Type 0) [
  | msg.FragDone m round partial ↦ l.term ≡ term
  | msg.Finished m ↦ l.term ≡ term
  | msg.MpState m is_open outcome replies ↦ ⊥
  | _ ↦ Unit {0}
]

-- An answer that is held waits for the position at which its entry stands, or for a later one, in the site's term.
pub record HeldAnswer (T : Claims) (log : List Entry) (term : ℕ) (d : Held) : Type 0 where
  pub stands : is_answer d.letter.body ≡ true → StandsBy (T d.letter.body) log d.position
  pub term_is : OfTerm term d.letter

-- All that a site holds.
abbrev pub HoldsAnswers : Claims → SiteState → Type 0
HoldsAnswers T s = AllByRecursion (HeldAnswer T s.log (site_term s)) s.held

-- A site that sends an answer runs and leads after that, and the entry stands in its log at a position that it counted firm.
pub record Answered (D : Deployment) (i : ℕ) (u : SiteState) (P : Claim) : Type 0 where
  pub position : ℕ
  pub stands : StandsAt P u.log position
  pub firm : position ≤ u.firm
  pub leads : leads D i u ≡ true
  pub runs : 0 < u.start

-- It says how its partition stands, with its last replies: all copies have its whole log on disk, under the mark of the term.
pub record TellsState (E : Database) (D : Deployment) (i : ℕ) (u : SiteState) (term m : ℕ) (is_open : Bool) (outcome : Option Outcome) (replies : List LastReply) : Type 0 where
  pub leads : leads D i u ≡ true
  pub runs : 0 < u.start
  pub term_is : term ≡ site_term u
  pub later : is_first_term u.view ≡ false
  pub on_disk : has_all_on_disk D i u ≡ true
  pub told : standing (open_in u.log) (last_done E (part_of_slot D i) u.log) (last_replies E (part_of_slot D i) u.log) ≡ msg.MpState m is_open outcome replies

-- In its term, to an initiator.
abbrev pub ToInitiator : Database → Deployment → ℕ → SiteState → Letter → Type 0
ToInitiator E D i u l = elim l.body as (λ _. Type 0) [
  | msg.FragDone m round partial ↦ l.term ≡ site_term u
  | msg.Finished m ↦ l.term ≡ site_term u
  | msg.MpState m is_open outcome replies ↦ TellsState E D i u l.term m is_open outcome replies
  | _ ↦ Unit {0}
]

pub record SentAnswer (E : Database) (D : Deployment) (i : ℕ) (T : Claims) (u : SiteState) (l : Letter) : Type 0 where
  pub answered : is_answer l.body ≡ true → Answered D i u (T l.body)
  pub to_initiator : ToInitiator E D i u l

-- What a turn of the site of slot i makes of it, where it runs behind that, and sends.
pub record TurnAnswers (E : Database) (D : Deployment) (i : ℕ) (T : Claims) (t : Turn SiteState) : Type 0 where
  pub held : 0 < t.state.start → HoldsAnswers T t.state
  pub sends : (h : ℕ) → AllByRecursion (SentAnswer E D i T t.state) (t.sends (Agent h))
