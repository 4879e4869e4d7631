-- An agent that stops says Closed last.
use Rattle.std.proofs.Common.{◌≡◌, Bool, true, false, List, [], ◌∷◌, ◌++◌, append-nil, append_assoc, refl, sym, subst, ap, ◌∙◌, ◌⊎◌, inl, inr, ◌==◌, arith}
use Rattle.std.specs.Prelude.{ℕ, ◌&&◌, not, take, if◌then◌else◌, nat_lt, Option, Some, None}
use Rattle.volt_wire.specs.Word.{Membership}
use Rattle.volt_wire.specs.declared.actor.Actor.{Actor}
use Rattle.volt_wire.specs.declared.actor.Actor.TheVariants.{Director, Client, Agent, Site, Scanner}
use Rattle.volt_wire.specs.declared.message.Msg.TheVariants as msg
use Rattle.cluster_model.specs.Engine.{Database}
use Rattle.cluster_model.specs.Words.{Deployment, is_host, term_of, term_in, admits}
use Rattle.cluster_model.specs.Letters.{Letter, Turn, becomes, ◌▸◌, open_letter, arrival, Taken, Refused, Waits, Waiting, of_term, above_term}
use Rattle.cluster_model.specs.Laws.{EndsWith, left_by, start_in_letter, starts_in}
use Rattle.cluster_model.specs.AgentState.{AgentState, new_agent, stops, stops_with_host}
use Rattle.cluster_model.specs.Initiator.{on_decided_word}
use Rattle.cluster_model.specs.Agent.{on_closed, on_word, on_decided, is_passed_over, takes_word, asked_again, is_other_word, says, decides_word, agrees, agent_handler, handler_and_word, unless_stopped, takes_each, takes_waiting, agent_runs, agent_takes, takes_start, start_taken, start_after, agent_turn}
use Rattle.cluster_model.specs.Environment.{Environment, NoFault, DiskFails, NoMemory, DisksShow}
use Rattle.cluster_model.specs.World.{World, took, stamp_of}
use Rattle.cluster_model.specs.Events.{delivered, allows, can, is_actor, is_some_letter, step}
use Rattle.volt_wire.specs.declared.event.Event.TheVariants as event
use Rattle.std.proofs.lemmas.Bool.{and_parts}
use Rattle.std.proofs.lemmas.Bool.Decides.{nat_tests}
use Rattle.word_laws.proofs.Calm.{handler-calm}

-- ---- a choice

kept-if : (s : ℕ) (c : Bool) (x y : Turn AgentState) → x.state.start ≡ s → y.state.start ≡ s → (if c then x else y).state.start ≡ s
kept-if s true x y p q = p
kept-if s false x y p q = q

kept-state : (s : ℕ) (c : Bool) (x y : AgentState) → x.start ≡ s → y.start ≡ s → (if c then x else y).start ≡ s
kept-state s true x y p q = p
kept-state s false x y p q = q

-- ---- words

on_closed-start : (a : AgentState) (w : Option Membership) (start : ℕ) → (on_closed a w start).start ≡ a.start
on_closed-start a None start = refl
on_closed-start a (Some w) start = refl

on_word-start : (a : AgentState) (w : Option Membership) (host base : ℕ) (lost : List ℕ) (admitted : List (ℕ × ℕ)) → (on_word a w host base lost admitted).start ≡ a.start
on_word-start a None host base lost admitted = refl
on_word-start a (Some w) host base lost admitted = kept-state a.start _ _ _ refl refl

-- ---- an agent goes on, or it stops and says Closed last

-- it is as one that never ran, and what it sent to each other agent ends with Closed
pub record ClosedLast (D : Deployment) (h : ℕ) (start : ℕ) (t : Turn AgentState) : Type 0 where
  pub state : t.state ≡ new_agent 0
  pub says : (g : ℕ) → is_host D g ≡ true → (g == h) ≡ false → EndsWith (open_letter (msg.Closed start)) (t.sends (Agent g))

abbrev pub StaysOrCloses : Deployment → ℕ → ℕ → Turn AgentState → Type 0
StaysOrCloses D h start t = (t.state.start ≡ start) ⊎ ClosedLast D h start t

stops-over : (D : Deployment) (h start : ℕ) → ClosedLast D h start (stops D h start)
stops-over D h start = record {
  state = refl;
  says = λ g is other. ([], rw (is, other) refl);
}

stops_with_host-over : (D : Deployment) (h start : ℕ) → ClosedLast D h start (stops_with_host D h start)
stops_with_host-over D h start = record {
  state = refl;
  says = λ g is other. ([], rw (is, other) refl);
}

-- what follows sends nothing behind it
then-nothing : (D : Deployment) (h start : ℕ) (t : Turn AgentState) (f : AgentState → Turn AgentState)
    → ClosedLast D h start t → (f (new_agent 0)).state ≡ new_agent 0 → ((g : ℕ) → (f (new_agent 0)).sends (Agent g) ≡ [])
    → ClosedLast D h start (t ▸ f)
then-nothing D h start t f s same quiet = record {
  state = ap (λ x. (f x).state) s.state ∙ same;
  says = λ g is other. let e = s.says g is other in
      (e.0, ap (λ x. t.sends (Agent g) ++ (f x).sends (Agent g)) s.state ∙ ap (λ x. t.sends (Agent g) ++ x) (quiet g) ∙ append-nil (t.sends (Agent g)) ∙ e.1);
}

-- what came before doesn't matter
after-other : (D : Deployment) (h start : ℕ) (t : Turn AgentState) (f : AgentState → Turn AgentState)
    → ClosedLast D h start (f t.state) → ClosedLast D h start (t ▸ f)
after-other D h start t f s = record {
  state = s.state;
  says = λ g is other. let e = s.says g is other in
      (t.sends (Agent g) ++ e.0, ap (λ x. t.sends (Agent g) ++ x) e.1 ∙ sym (append_assoc (t.sends (Agent g)) e.0 _));
}

-- Decided is the one handler in which an agent may stop
over-if : (D : Deployment) (h : ℕ) (a : AgentState) (t : Turn AgentState) (c : Bool) → t.state.start ≡ a.start → StaysOrCloses D h a.start (if c then stops_with_host D h a.start else t)
over-if D h a t true same = inr (stops_with_host-over D h a.start)
over-if D h a t false same = inl same

on_decided-over : (D : Deployment) (h : ℕ) (a : AgentState) (decided taken : Option Membership) (w : Membership) → StaysOrCloses D h a.start (on_decided D h a decided taken w)
on_decided-over D h a (Some decided) taken w = inl refl
on_decided-over D h a None None w = over-if D h a (takes_word D h a w) (is_passed_over a.start w) refl
on_decided-over D h a None (Some taken) w = over-if D h a (becomes a) (nat_lt (term_of taken) (term_of w) && not (admits w a.start)) refl

handler-over : (E : Database) (D : Deployment) (h stamp : ℕ) (a : AgentState) (from : Actor) (l : Letter) → StaysOrCloses D h a.start (agent_handler E D h stamp a from l)
handler-over E D h stamp a (Agent g) l = elim l.body as (λ m. StaysOrCloses D h a.start (agent_handler E D h stamp a (Agent g) (record l { body = m }))) [
  | msg.Closed start ↦ inl (on_closed-start a a.own start)
  | msg.Word base lost admitted ↦ inl (on_word-start a a.own g base lost admitted)
  | msg.Decided w ↦ on_decided-over D h a a.decided a.taken w
  | m ↦ inl (handler-calm E D h stamp a (Agent g) (record l { body = m }) (λ k. k)).start
]
handler-over E D h stamp a Director l = inl (handler-calm E D h stamp a Director l (λ k. k)).start
handler-over E D h stamp a (Client n) l = inl (handler-calm E D h stamp a (Client n) l (λ k. k)).start
handler-over E D h stamp a (Site s) l = inl (handler-calm E D h stamp a (Site s) l (λ k. k)).start
handler-over E D h stamp a (Scanner x) l = inl refl

-- ---- what follows a handler

says-start : (D : Deployment) (h : ℕ) (a : AgentState) (own : Option Membership) → (says D h a own).state.start ≡ a.start
says-start D h a None = refl
says-start D h a (Some w) = refl

on_decided_word-start : (h : ℕ) (a : AgentState) → (on_decided_word h a).start ≡ a.start
on_decided_word-start h a = kept-state a.start _ _ _ refl refl

decides_word-start : (D : Deployment) (h : ℕ) (a : AgentState) (own : Option Membership) → (decides_word D h a own).state.start ≡ a.start
decides_word-start D h a None = refl
decides_word-start D h a (Some w) =
    on_decided_word-start h (record a { decided = Some w; pending = asked_again D w a.pending })

agrees-start : (D : Deployment) (h : ℕ) (before : Option Membership) (a : AgentState) → (agrees D h before a).state.start ≡ a.start
agrees-start D h before a =
    let said = if is_other_word before a.own then says D h a a.own else becomes a in
    kept-if said.state.start _ _ _ (decides_word-start D h said.state said.state.own) refl
    ∙ kept-if a.start (is_other_word before a.own) (says D h a a.own) (becomes a) (says-start D h a a.own) refl

-- one that has stopped has no word to agree on
agrees-nothing : (D : Deployment) (h : ℕ) (before : Option Membership)
    → ((agrees D h before (new_agent 0)).state ≡ new_agent 0) × ((g : ℕ) → (agrees D h before (new_agent 0)).sends (Agent g) ≡ [])
agrees-nothing D h None = (refl, λ g. refl)
agrees-nothing D h (Some w) = (refl, λ g. refl)

pub handler_and_word-over : (E : Database) (D : Deployment) (h stamp : ℕ) (a : AgentState) (from : Actor) (l : Letter) → StaysOrCloses D h a.start (handler_and_word E D h stamp a from l)
handler_and_word-over E D h stamp a from l = elim (handler-over E D h stamp a from l) [
  | inl q ↦ inl (agrees-start D h a.own (agent_handler E D h stamp a from l).state ∙ q)
  | inr s ↦ let n = agrees-nothing D h a.own in inr (then-nothing D h a.start (agent_handler E D h stamp a from l) (agrees D h a.own) s n.0 n.1)
]

-- ---- what waited

-- of a stopped agent nothing waits, and it takes nothing
takes_each-nothing : (E : Database) (D : Deployment) (h stamp : ℕ) (ws : List Waiting)
    → ((takes_each E D h stamp ws (new_agent 0)).state ≡ new_agent 0) × ((g : ℕ) → (takes_each E D h stamp ws (new_agent 0)).sends (Agent g) ≡ [])
takes_each-nothing E D h stamp [] = (refl, λ g. refl)
takes_each-nothing E D h stamp (w ∷ ws) = takes_each-nothing E D h stamp ws

over-start : (D : Deployment) (h s r : ℕ) (t : Turn AgentState) → r ≡ s → StaysOrCloses D h r t → StaysOrCloses D h s t
over-start D h s r t e o = subst (λ k. StaysOrCloses D h k t) e o

takes_each-over : (E : Database) (D : Deployment) (h stamp : ℕ) (ws : List Waiting) (a : AgentState) → StaysOrCloses D h a.start (takes_each E D h stamp ws a)
takes_each-over E D h stamp [] a = inl refl
takes_each-over E D h stamp (w ∷ ws) a = elim (unless-over (a.start == 0)) [
  | inl q ↦ elim (takes_each-over E D h stamp ws (unless_stopped E D h stamp a w.from w.letter).state) [
    | inl p ↦ inl (p ∙ q)
    | inr s ↦ inr (after-other D h a.start (unless_stopped E D h stamp a w.from w.letter) (takes_each E D h stamp ws)
        (subst (λ k. ClosedLast D h k (takes_each E D h stamp ws (unless_stopped E D h stamp a w.from w.letter).state)) q s))
  ]
  | inr s ↦ let n = takes_each-nothing E D h stamp ws in
      inr (then-nothing D h a.start (unless_stopped E D h stamp a w.from w.letter) (takes_each E D h stamp ws) s n.0 n.1)
]
  where
    unless-over : (c : Bool) → StaysOrCloses D h a.start (if c then becomes a else handler_and_word E D h stamp a w.from w.letter)
    unless-over true = inl refl
    unless-over false = handler_and_word-over E D h stamp a w.from w.letter

takes_waiting-over : (E : Database) (D : Deployment) (h stamp : ℕ) (a : AgentState) → StaysOrCloses D h a.start (takes_waiting E D h stamp a)
takes_waiting-over E D h stamp a = takes_each-over E D h stamp (of_term (term_in a.decided) a.waiting) (record a { waiting = above_term (term_in a.decided) a.waiting })

takes_waiting-nothing : (E : Database) (D : Deployment) (h stamp : ℕ)
    → ((takes_waiting E D h stamp (new_agent 0)).state ≡ new_agent 0) × ((g : ℕ) → (takes_waiting E D h stamp (new_agent 0)).sends (Agent g) ≡ [])
takes_waiting-nothing E D h stamp = (refl, λ g. refl)

-- ---- the whole of a message

taken-over : (E : Database) (D : Deployment) (h stamp : ℕ) (a : AgentState) (from : Actor) (l : Letter) → StaysOrCloses D h a.start (handler_and_word E D h stamp a from l ▸ takes_waiting E D h stamp)
taken-over E D h stamp a from l = elim (handler_and_word-over E D h stamp a from l) [
  | inl q ↦ elim (takes_waiting-over E D h stamp (handler_and_word E D h stamp a from l).state) [
    | inl p ↦ inl (p ∙ q)
    | inr s ↦ inr (after-other D h a.start (handler_and_word E D h stamp a from l) (takes_waiting E D h stamp)
        (subst (λ k. ClosedLast D h k (takes_waiting E D h stamp (handler_and_word E D h stamp a from l).state)) q s))
  ]
  | inr s ↦ let n = takes_waiting-nothing E D h stamp in
      inr (then-nothing D h a.start (handler_and_word E D h stamp a from l) (takes_waiting E D h stamp) s n.0 n.1)
]

runs-over : (E : Database) (D : Deployment) (h stamp : ℕ) (a : AgentState) (from : Actor) (l : Letter) → StaysOrCloses D h a.start (agent_runs E D h stamp a from l)
runs-over E D h stamp a from l = elim (arrival a.start (term_in a.decided) l) as (λ x. StaysOrCloses D h a.start (elim x as (λ _. Turn AgentState) [
  | Taken ↦ handler_and_word E D h stamp a from l ▸ takes_waiting E D h stamp
  | Waits ↦ becomes (record a { waiting = a.waiting ++ record { from = from; letter = record l { past = [] } } ∷ [] })
  | Refused ↦ becomes a
])) [
  | Taken ↦ taken-over E D h stamp a from l
  | Waits ↦ inl refl
  | Refused ↦ inl refl
]

over-choice : (D : Deployment) (h s : ℕ) (c : Bool) (x y : Turn AgentState) → StaysOrCloses D h s x → StaysOrCloses D h s y → StaysOrCloses D h s (if c then x else y)
over-choice D h s true x y p q = p
over-choice D h s false x y p q = q

start-over : (D : Deployment) (h : ℕ) (a : AgentState) (from : Actor) (start : ℕ) → (a.start == 0) ≡ false → StaysOrCloses D h a.start (takes_start D h a from start)
start-over D h a Director start runs = rw runs (inl refl)
start-over D h a (Client n) start runs = inl refl
start-over D h a (Agent g) start runs = inl refl
start-over D h a (Site s) start runs = inl refl
start-over D h a (Scanner x) start runs = inl refl

-- of a running agent
pub takes-over : (E : Database) (D : Deployment) (h stamp : ℕ) (a : AgentState) (from : Actor) (l : Letter) → (a.start == 0) ≡ false → StaysOrCloses D h a.start (agent_takes E D h stamp a from l)
takes-over E D h stamp a from l runs = elim l.body as (λ m. StaysOrCloses D h a.start (agent_takes E D h stamp a from (record l { body = m }))) [
  | msg.Start start ↦ start-over D h a from start runs
  | msg.Stop start ↦ rw runs (over-choice D h a.start _ _ _ (inr (stops-over D h a.start)) (inl refl))
  | m ↦ rw runs (runs-over E D h stamp a from (record l { body = m }))
]

-- of a running agent, whatever the environment does
start_taken-same : (a : AgentState) (from : Actor) (start : ℕ) → (a.start == 0) ≡ false → start_taken a from start ≡ a.start
start_taken-same a Director start runs = rw runs refl
start_taken-same a (Client n) start runs = refl
start_taken-same a (Agent g) start runs = refl
start_taken-same a (Site s) start runs = refl
start_taken-same a (Scanner x) start runs = refl

pub start_after-same : (a : AgentState) (from : Actor) (l : Letter) → (a.start == 0) ≡ false → start_after a from l ≡ a.start
start_after-same a from l runs = elim l.body as (λ m. start_after a from (record l { body = m }) ≡ a.start) [
  | msg.Start start ↦ start_taken-same a from start runs
  | _ ↦ refl
]

pub turn-over : (E : Database) (D : Deployment) (h stamp : ℕ) (a : AgentState) (from : Actor) (l : Letter) (o : Environment) → (a.start == 0) ≡ false → StaysOrCloses D h a.start (agent_turn E D h stamp a from l o)
turn-over E D h stamp a from l NoFault runs = takes-over E D h stamp a from l runs
turn-over E D h stamp a from l (DiskFails answered) runs = takes-over E D h stamp a from l runs
turn-over E D h stamp a from l (NoMemory answered) runs =
    over-start D h a.start a.start (agent_turn E D h stamp a from l (NoMemory answered)) refl
    (inr (subst (λ k. ClosedLast D h a.start (stops_with_host D h k)) (sym (start_after-same a from l runs)) (stops_with_host-over D h a.start)))
turn-over E D h stamp a from l (DisksShow shown failed) runs = takes-over E D h stamp a from l runs

-- ---- in the world

delivered-closes : (E : Database) (w : World) (h g : ℕ) (from : Actor) (ls : List Letter) (o : Environment)
    → ((w.agents h).start == 0) ≡ false → ((delivered E w (Agent h) from ls o).agents h).start ≡ 0
    → is_host w.deployment g ≡ true → (g == h) ≡ false
    → EndsWith (open_letter (msg.Closed (w.agents h).start)) ((delivered E w (Agent h) from ls o).channel (Agent h) (Agent g))
delivered-closes E w h g from [] o runs stopped is other = let z = rw stopped at runs in absurd (cc)
delivered-closes E w h g from (l ∷ ls) o runs stopped is other =
    let self : (h == h) ≡ true = grind (arith, nat_tests) in
    let z = rw self at stopped in
    let t = agent_turn E w.deployment h (stamp_of w) (w.agents h) from l o in
    elim (turn-over E w.deployment h (stamp_of w) (w.agents h) from l o runs) [
      | inl q ↦ let y = rw (sym q ∙ z) at runs in absurd (cc)
      | inr s ↦ let e = s.says g is other in
          let before = took w.channel from (Agent h) (Agent h) (Agent g) in
          (before ++ e.0, sent-own self before (t.sends (Agent g)) ∙ ap (λ x. before ++ x) e.1 ∙ sym (append_assoc before e.0 _))
    ]
  where
    sent-own : (h == h) ≡ true → (before sends : List Letter) → (if h == h then before ++ sends else before) ≡ before ++ sends
    sent-own self before sends = rw self refl

pub closes-last : (E : Database) (w : World) (h g : ℕ) (from : Actor) (o : Environment)
    → nat_lt 0 (w.agents h).start ≡ true → ((step E w (event.Deliver (Agent h) from, o)).agents h).start ≡ 0
    → is_host w.deployment g ≡ true → (g == h) ≡ false
    → EndsWith (open_letter (msg.Closed (w.agents h).start)) ((step E w (event.Deliver (Agent h) from, o)).channel (Agent h) (Agent g))
closes-last E w h g from o runs stopped is other =
    let up : ((w.agents h).start == 0) ≡ false = grind (arith, nat_tests, runs) in
    delivered-closes E w h g from (w.channel from (Agent h)) o up stopped is other

-- ---- a stopped agent says nothing

silent-takes : (E : Database) (D : Deployment) (h stamp : ℕ) (a : AgentState) (from b : Actor) (l : Letter) → (a.start == 0) ≡ true → start_in_letter l ≡ []
    → (agent_takes E D h stamp a from l).sends b ≡ []
silent-takes E D h stamp a from b l stopped none = elim l.body as (λ m. start_in_letter (record l { body = m }) ≡ [] → (agent_takes E D h stamp a from (record l { body = m })).sends b ≡ []) [
  | msg.Start start ↦ λ e. absurd (cc)
  | msg.Stop start ↦ λ e. rw stopped refl
  | m ↦ λ e. rw stopped refl
] none

after-none : (a : AgentState) (from : Actor) (l : Letter) → start_in_letter l ≡ [] → start_after a from l ≡ a.start
after-none a from l none = elim l.body as (λ m. start_in_letter (record l { body = m }) ≡ [] → start_after a from (record l { body = m }) ≡ a.start) [
  | msg.Start start ↦ λ e. absurd (cc)
  | m ↦ λ e. refl
] none

silent-turn : (E : Database) (w : World) (h : ℕ) (from b : Actor) (l : Letter) (ls : List Letter) (o : Environment) → (w.agents h).start ≡ 0 → start_in_letter l ≡ []
    → w.channel from (Agent h) ≡ l ∷ ls → allows w (event.Deliver (Agent h) from) o ≡ true
    → (agent_turn E w.deployment h (stamp_of w) (w.agents h) from l o).sends b ≡ []
silent-turn E w h from b l ls NoFault stopped none is may = silent-takes E w.deployment h (stamp_of w) (w.agents h) from b l (rw stopped refl) none
silent-turn E w h from b l ls (DiskFails answered) stopped none is may = silent-takes E w.deployment h (stamp_of w) (w.agents h) from b l (rw stopped refl) none
silent-turn E w h from b l ls (NoMemory answered) stopped none is may =
    let z = rw (is, after-none (w.agents h) from l none, stopped) at may in absurd (cc)
silent-turn E w h from b l ls (DisksShow shown failed) stopped none is may = silent-takes E w.deployment h (stamp_of w) (w.agents h) from b l (rw stopped refl) none

silent-delivered : (E : Database) (w : World) (h : ℕ) (from b : Actor) (ls : List Letter) (o : Environment) → w.channel from (Agent h) ≡ ls → is_some_letter ls ≡ true
    → allows w (event.Deliver (Agent h) from) o ≡ true → (w.agents h).start ≡ 0 → starts_in (take 1 ls) ≡ []
    → (delivered E w (Agent h) from ls o).channel (Agent h) b ≡ took w.channel from (Agent h) (Agent h) b
silent-delivered E w h from b [] o is some may stopped none = absurd (cc)
silent-delivered E w h from b (l ∷ ls) o is some may stopped none =
    let self : (h == h) ≡ true = grind (arith, nat_tests) in
    let quiet = silent-turn E w h from b l ls o stopped (sym (append-nil (start_in_letter l)) ∙ none) is may in
    rw (self, quiet) (append-nil (took w.channel from (Agent h) (Agent h) b))

pub stays-silent : (E : Database) (w : World) (h : ℕ) (from b : Actor) (o : Environment)
    → can w (event.Deliver (Agent h) from) ≡ true → allows w (event.Deliver (Agent h) from) o ≡ true
    → (w.agents h).start ≡ 0 → starts_in (take 1 (w.channel from (Agent h))) ≡ []
    → (step E w (event.Deliver (Agent h) from, o)).channel (Agent h) b ≡ left_by w (event.Deliver (Agent h) from) (Agent h) b
stays-silent E w h from b o can_be may stopped none =
    let some = (and_parts (is_some_letter (w.channel from (Agent h))) (is_actor w.deployment (Agent h)) can_be).0 in
    silent-delivered E w h from b (w.channel from (Agent h)) o refl some may stopped none
