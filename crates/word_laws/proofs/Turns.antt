-- What the handlers of an agent do with words.
use Rattle.std.proofs.Common.{◌≡◌, Bool, true, false, List, [], ◌∷◌, refl, sym, subst, ◌⊎◌, inl, inr, ◌==◌}
use Rattle.std.proofs.lemmas.Bool.{and_parts}
use Rattle.std.specs.Prelude.{ℕ, ◌&&◌, ◌||◌, not, if◌then◌else◌, nat_lt, Option, Some, None, is_none}
use Rattle.std.specs.List.{AllByRecursion, list_all}
use Rattle.volt_wire.specs.Word.{Membership}
use Rattle.volt_wire.specs.declared.actor.Actor.{Actor}
use Rattle.volt_wire.specs.declared.actor.Actor.TheVariants.{Director, Client, Agent, Site, Scanner}
use Rattle.volt_wire.specs.declared.message.Msg.TheVariants as msg
use Rattle.cluster_model.specs.Words.{Deployment, is_host, term_of, same_word, members, start_of, is_member, admits, is_slot_of, is_client}
use Rattle.cluster_model.specs.Letters.{same, Letter, Turn, becomes, open_letter, letter_to}
use Rattle.cluster_model.specs.AgentState.{AgentState, Pending, initiates, stops, stops_with_host}
use Rattle.cluster_model.specs.declared.initiating.Phase.TheVariants.{Off, Hears}
use Rattle.cluster_model.specs.Initiator.{with_phase}
use Rattle.cluster_model.specs.Agent.{request, asks, on_decided, is_other_word, says, goes_again, asked_again, asks_if, asks_again, decided_sends, decides_word, is_word, may_decide}
use Rattle.word_laws.specs.Histories.{IsOff, State, Gone}
use Rattle.cluster_steps.proofs.Lists.{all-append, all-if, all-mono, all-one}
use Rattle.word_laws.proofs.Algebra.{same_word-is}
use Rattle.word_laws.proofs.Moves.{ShownOk, TellsKnown}

-- ---- the handlers that bring words

-- Decided, as it comes to a joiner that took a word: it stops, or does nothing
pub on_decided-joiner : (D : Deployment) (n : ℕ) (a : AgentState) (taken w : Membership)
    → (on_decided D n a None (Some taken) w ≡ stops_with_host D n a.start) ⊎ (on_decided D n a None (Some taken) w ≡ becomes a)
on_decided-joiner D n a taken w = choice (nat_lt (term_of taken) (term_of w) && not (admits w a.start))
  where
    choice : (c : Bool) → ((if c then stops_with_host D n a.start else becomes a) ≡ stops_with_host D n a.start) ⊎ ((if c then stops_with_host D n a.start else becomes a) ≡ becomes a)
    choice true = inl refl
    choice false = inr refl

-- ---- an agent that stops

pub stops_with_host-closed : (D : Deployment) (n s g : ℕ) → (stops_with_host D n s).sends (Agent g) ≡ (stops D n s).sends (Agent g)
stops_with_host-closed D n s g = refl

-- an agent that stops says Closed to each other host, and to no one else
pub stops-sends : (D : Deployment) (n s g : ℕ) → is_host D g ≡ true → (g == n) ≡ false → (stops D n s).sends (Agent g) ≡ open_letter (msg.Closed s) ∷ []
stops-sends D n s g is other = rw (is, other) refl

pub stops-sends-none : (D : Deployment) (n s g : ℕ) → (is_host D g ≡ false) ⊎ ((g == n) ≡ true) → (stops D n s).sends (Agent g) ≡ []
stops-sends-none D n s g (inl e) = rw e refl
stops-sends-none D n s g (inr e) = choice (is_host D g) (g == n) e
  where
    choice : (c b : Bool) → b ≡ true → (if c then (if b then [] else open_letter (msg.Closed s) ∷ []) else []) ≡ []
    choice true true q = refl
    choice true false q = absurd (cc)
    choice false b q = refl

-- that it has closed, and Stop to others of its host
abbrev pub StopsSay : ℕ → Letter → Type 0
StopsSay s l = elim l.body as (λ _. Type 0) [
  | msg.Closed o ↦ o ≡ s
  | msg.Stop o ↦ Unit {0}
  | _ ↦ ⊥
]

pub stops-say : (D : Deployment) (n s : ℕ) (b : Actor) → AllByRecursion (StopsSay s) ((stops D n s).sends b)
stops-say D n s (Agent g) = all-if (StopsSay s) (is_host D g) _ [] (all-if (StopsSay s) (g == n) [] (open_letter (msg.Closed s) ∷ []) tt (refl, tt)) tt
stops-say D n s (Client c) = all-if (StopsSay s) (is_client D c) (open_letter (msg.Closed s) ∷ []) [] (refl, tt) tt
stops-say D n s Director = tt
stops-say D n s (Site c) = tt
stops-say D n s (Scanner c) = tt

pub stops_with_host-say : (D : Deployment) (n s : ℕ) (b : Actor) → AllByRecursion (StopsSay s) ((stops_with_host D n s).sends b)
stops_with_host-say D n s (Agent g) = stops-say D n s (Agent g)
stops_with_host-say D n s (Client c) = all-append (StopsSay s) ((stops D n s).sends (Client c)) [] (stops-say D n s (Client c)) tt
stops_with_host-say D n s Director = tt
stops_with_host-say D n s (Site c) = all-if (StopsSay s) (is_slot_of D n c) (open_letter (msg.Stop s) ∷ []) [] (tt, tt) tt
stops_with_host-say D n s (Scanner c) = all-if (StopsSay s) (is_slot_of D n c) (open_letter (msg.Stop s) ∷ []) [] (tt, tt) tt

-- it shows that to all once it has stopped
pub stops-shown : (T : State) (s : ℕ) → Gone T s → (b : Actor) (ls : List Letter) → AllByRecursion (StopsSay s) ls → AllByRecursion (ShownOk T b) ls
stops-shown T s gone b ls h = all-mono (StopsSay s) (ShownOk T b) (one b) ls h
  where
    told : (l : Letter) → StopsSay s l → TellsKnown T l
    told l p = elim l.body as (λ m. StopsSay s (record l { body = m }) → TellsKnown T (record l { body = m })) [
      | msg.Closed o ↦ λ k. subst (Gone T) (sym k) gone
      | msg.Word base lost admitted ↦ λ k. k
      | msg.Decided w ↦ λ k. absurd k
      | msg.View w ↦ λ k. absurd k
      | m ↦ λ k. tt
    ] p

    one : (b : Actor) (l : Letter) → StopsSay s l → ShownOk T b l
    one (Agent g) l p = tt
    one Director l p = told l p
    one (Client g) l p = told l p
    one (Site g) l p = told l p
    one (Scanner g) l p = told l p

-- ---- what follows a handler: the agent says its word, and decides it

pub says-state : (D : Deployment) (n : ℕ) (a : AgentState) (own : Option Membership) → (says D n a own).state ≡ a
says-state D n a None = refl
says-state D n a (Some w) = refl

-- if it is another than before
abbrev pub tells : Deployment → ℕ → Option Membership → AgentState → Turn AgentState
tells D n before a = if is_other_word before a.own then says D n a a.own else becomes a

-- if each member has said it
abbrev pub concludes : Deployment → ℕ → AgentState → Turn AgentState
concludes D n a = if may_decide n a a.own then decides_word D n a a.own else becomes a

-- with the same word as before it says nothing, with another one it says that
pub tells-same : (D : Deployment) (n : ℕ) (before : Option Membership) (a : AgentState) → is_other_word before a.own ≡ false → tells D n before a ≡ becomes a
tells-same D n before a e = rw e refl

pub tells-other : (D : Deployment) (n : ℕ) (before : Option Membership) (a : AgentState) → is_other_word before a.own ≡ true → tells D n before a ≡ says D n a a.own
tells-other D n before a e = rw e refl

-- it decides its word where it may, and else does nothing
pub concludes-not : (D : Deployment) (n : ℕ) (a : AgentState) → may_decide n a a.own ≡ false → concludes D n a ≡ becomes a
concludes-not D n a e = rw e refl

pub concludes-is : (D : Deployment) (n : ℕ) (a : AgentState) → may_decide n a a.own ≡ true → concludes D n a ≡ decides_word D n a a.own
concludes-is D n a e = rw e refl

pub tells-state : (D : Deployment) (n : ℕ) (before : Option Membership) (a : AgentState) → (tells D n before a).state ≡ a
tells-state D n before a = choice (is_other_word before a.own)
  where
    choice : (c : Bool) → (if c then says D n a a.own else becomes a).state ≡ a
    choice true = says-state D n a a.own
    choice false = refl

-- What an agent knows once it has decided the word w.
pub record Decides (n : ℕ) (a : AgentState) (w : Membership) (b : AgentState) : Type 0 where
  pub start : b.start ≡ a.start
  pub own : b.own ≡ a.own
  pub taken : b.taken ≡ a.taken
  pub said : b.said ≡ a.said
  pub waiting : b.waiting ≡ a.waiting
  pub queue : b.initiating.queue ≡ a.initiating.queue
  pub decided : b.decided ≡ Some w
  pub phase : IsOff b.initiating.phase ⊎ (initiates n b (Some w) ≡ true)

-- what it is then, and what it says
pub decides-state : (D : Deployment) (n : ℕ) (a : AgentState) (w : Membership) → Decides n a w (decides_word D n a (Some w)).state
decides-state D n a w = choice (initiates n a (Some w)) refl
  where
    choice : (c : Bool) → initiates n a (Some w) ≡ c
        → Decides n a w (if c then with_phase (record a { decided = Some w; pending = asked_again D w a.pending }) (Hears [])
        else with_phase (record a { decided = Some w; pending = asked_again D w a.pending }) Off)
    choice true e = record { start = refl; own = refl; taken = refl; said = refl; waiting = refl; queue = refl; decided = refl; phase = inr e }
    choice false e = record { start = refl; own = refl; taken = refl; said = refl; waiting = refl; queue = refl; decided = refl; phase = inl tt }

-- a call that is asked for, of any start
abbrev pub IsRequest : Letter → Type 0
IsRequest l = elim l.body as (λ _. Type 0) [
  | msg.SpCall call start client body ↦ Unit {0}
  | msg.MpCall call start client body ↦ Unit {0}
  | _ ↦ ⊥
]

-- what holds of calls holds of such a message
pub request-cases : (P : Letter → Type 0) → ((l : Letter) (call start client : ℕ) (body : List ℕ) → P (record l { body = msg.SpCall call start client body }))
    → ((l : Letter) (call start client : ℕ) (body : List ℕ) → P (record l { body = msg.MpCall call start client body })) → (l : Letter) → IsRequest l → P l
request-cases P sp mp l r = elim l.body as (λ m. IsRequest (record l { body = m }) → P (record l { body = m })) [
  | msg.SpCall call start client body ↦ λ k. sp l call start client body
  | msg.MpCall call start client body ↦ λ k. mp l call start client body
  | m ↦ λ k. absurd k
] r

asks-requests : (start : ℕ) (p : Pending) (to : Actor × ℕ) (b : Actor) → AllByRecursion IsRequest (asks start p to b)
asks-requests start p to b = all-one IsRequest (same to.0 b) (letter_to to.1 (request start p p.part)) (λ q. is p.part)
  where
    is : (part : Option ℕ) → IsRequest (letter_to to.1 (request start p part))
    is None = tt
    is (Some part) = tt

-- the calls that it asks again for on deciding a word
pub asks_again-requests : (D : Deployment) (start : ℕ) (w : Membership) (ps : List Pending) (b : Actor) → AllByRecursion IsRequest (asks_again D start w ps b)
asks_again-requests D start w [] b = tt
asks_again-requests D start w (p ∷ ps) b =
    all-append IsRequest (asks_if start p (goes_again D w p) b) (asks_again D start w ps b) (one (goes_again D w p)) (asks_again-requests D start w ps b)
  where
    one : (to : Option (Actor × ℕ)) → AllByRecursion IsRequest (asks_if start p to b)
    one None = tt
    one (Some to) = asks-requests start p to b

-- To an agent that says its decided word, or asks for a call.
abbrev pub DecidedOrRequest : Membership → Letter → Type 0
DecidedOrRequest w l = (l ≡ open_letter (msg.Decided w)) ⊎ IsRequest l

pub decides-sends : (D : Deployment) (n : ℕ) (a : AgentState) (w : Membership) (g : ℕ)
    → AllByRecursion (DecidedOrRequest w) ((decides_word D n a (Some w)).sends (Agent g))
decides-sends D n a w g =
    all-append (DecidedOrRequest w) (decided_sends D n a w (Agent g)) (asks_again D a.start w a.pending (Agent g))
    (all-if (DecidedOrRequest w) (is_host D g && not (g == n) && is_none (start_of w g)) (open_letter (msg.Decided w) ∷ []) [] (inl refl, tt) tt)
    (all-mono IsRequest (DecidedOrRequest w) (λ l r. inr r) (asks_again D a.start w a.pending (Agent g)) (asks_again-requests D a.start w a.pending (Agent g)))

-- where it may, it is a member, and has heard the word from all others
pub may_decide-cases : (n : ℕ) (a : AgentState) (w : Membership) → may_decide n a (Some w) ≡ true
    → (is_member w n a.start ≡ true) × (list_all (λ m. m.0 == n || is_word w (a.said m.0)) (members w) ≡ true)
may_decide-cases n a w e =
    let (prefix, all) = and_parts (is_member w n a.start && not (is_word w a.decided)) (list_all (λ m. m.0 == n || is_word w (a.said m.0)) (members w)) e in
    ((and_parts (is_member w n a.start) (not (is_word w a.decided)) prefix).0, all)

-- of two words that aren't other ones
pub is_other_word-same : (v w : Membership) → is_other_word (Some v) (Some w) ≡ false → same_word v w ≡ true
is_other_word-same v w e = choice (same_word v w) e
  where
    choice : (c : Bool) → not c ≡ false → c ≡ true
    choice true q = refl
    choice false q = absurd (cc)

-- so then two words of the same first hosts are one
pub is_other_word-equal : (v w : Membership) → v.first ≡ w.first → is_other_word (Some v) (Some w) ≡ false → v ≡ w
is_other_word-equal v w f e = same_word-is v w f (is_other_word-same v w e)
