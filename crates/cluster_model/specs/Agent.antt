-- The agent of a host: it agrees with the others on who is a member, and hands the calls of clients on and the answers back.
use Rattle.std.specs.Prelude.{ℕ, ◌==◌, ◌&&◌, ◌||◌, not, nat_lt, nat_le, Bool, true, false, if◌then◌else◌, List, [], ◌∷◌, ◌++◌, map, flat_map, Option, Some, None, is_none, option_map}
use Rattle.std.specs.List.{list_any, list_all}
use Rattle.volt_wire.specs.Word.{Membership}
use Rattle.volt_wire.specs.declared.actor.Actor.{Actor}
use Rattle.volt_wire.specs.declared.actor.Actor.TheVariants.{Director, Client, Agent, Site, Scanner}
use Rattle.volt_wire.specs.declared.end.End.TheVariants as end
use Rattle.volt_wire.specs.declared.message.Msg.{Msg}
use Rattle.volt_wire.specs.declared.message.Msg.TheVariants as msg
use Rattle.cluster_model.specs.Environment.{Environment, NoMemory}
use Rattle.cluster_model.specs.Engine.{Database}
use Rattle.cluster_model.specs.Words.{Deployment, part_of_slot, is_host, is_client, is_slot_of, slots_of_host, is_in, with_number, term_of, term_in, same_word, union, with_lost, members, start_of, is_member, admits, initiator, leader, start_of_slot, part_down, is_down}
use Rattle.cluster_model.specs.Letters.{Blocks, no_sends, Letter, Sends, Turn, becomes, sending, ◌▸◌, open_letter, letter_to, letter_in, only, arrival, Taken, Refused, Waits, Waiting, of_term, above_term}
use Rattle.cluster_model.specs.AgentState.{AgentState, Pending, with_pending, ToRun, RunCall, TakeSnapshot, Admission, new_agent, initiates, on_reply, stops, stops_with_host}
use Rattle.cluster_model.specs.Initiator.{queues, on_frag_done, on_finished, on_mp_state, on_decided_word}

-- ---- calls

-- Who runs a call by a word, and the start of its host: the leader of its partition, or the initiator for a call on all.
abbrev pub with_start : Deployment → Membership → Option ℕ → Option (Actor × ℕ)
with_start D w None = None
with_start D w (Some slot) = option_map (λ start. (Site slot, start)) (start_of_slot D w slot)

abbrev pub runner : Deployment → Membership → Option ℕ → Option (Actor × ℕ)
runner D w (Some part) = with_start D w (leader D w part)
runner D w None = option_map (λ first. (Agent first.0, first.1)) (initiator w)

-- a call as an agent of this start asks for it
abbrev pub request : ℕ → Pending → Option ℕ → Msg Blocks
request start p (Some part) = msg.SpCall p.call start p.client p.body
request start p None = msg.MpCall p.call start p.client p.body

abbrev pub asks : ℕ → Pending → Actor × ℕ → Sends
asks start p to = only to.0 (letter_to to.1 (request start p p.part))

-- the call is pending, and goes to who runs it
abbrev pub to_runner : AgentState → Pending → Option (Actor × ℕ) → Turn AgentState
to_runner a p None = becomes a
to_runner a p (Some to) =
    sending (record a { pending = with_pending (record p { target = to.1 }) a.pending }) (asks a.start p to)

abbrev pub hands_on : Deployment → AgentState → Membership → ℕ → ℕ → Option ℕ → List ℕ → Turn AgentState
hands_on D a w n call part body =
    to_runner a (record { call = call; client = n; part = part; body = body; target = 0 }) (runner D w part)

abbrev pub unless_down : Deployment → AgentState → Membership → ℕ → ℕ → Option ℕ → List ℕ → Option ℕ → Turn AgentState
unless_down D a w n call part body (Some down) = sending a (only (Client n) (open_letter (msg.Answer call (end.Down down))))
unless_down D a w n call part body None = hands_on D a w n call part body

-- Call: if the start isn't its own, nothing. An agent whose word leaves a partition without a copy answers that. Else the
-- call is pending, and is handed on by the decided word.
abbrev pub on_call : Deployment → AgentState → Option Membership → ℕ → ℕ → ℕ → Option ℕ → List ℕ → Turn AgentState
on_call D a None n call start part body = becomes a
on_call D a (Some w) n call start part body =
    if start == a.start then unless_down D a w n call part body (part_down D w) else becomes a

-- ---- words

-- Closed: the start is lost. An agent without a word does nothing.
abbrev pub on_closed : AgentState → Option Membership → ℕ → AgentState
on_closed a None start = a
on_closed a (Some w) start = record a { own = Some (with_lost start w) }

-- Word: of another base, nothing; else the agent's own word becomes the union with it.
abbrev pub on_word : AgentState → Option Membership → ℕ → ℕ → List ℕ → List (ℕ × ℕ) → AgentState
on_word a None host base lost admitted = a
on_word a (Some w) host base lost admitted =
    let heard = record w { lost = lost; admitted = admitted } in
    if w.base == base
    then record a { own = Some (union heard w); said = λ h. if h == host then Some heard else a.said h }
    else a

-- Hello: a member with a decided word answers Decided.
abbrev pub on_hello : ℕ → AgentState → Option Membership → ℕ → ℕ → Turn AgentState
on_hello h a None host start = becomes a
on_hello h a (Some w) host start =
    if is_member w h a.start then sending a (only (Agent host) (letter_to start (msg.Decided w))) else becomes a

-- a joiner takes its first word, and sends Start and then View to its sites
abbrev pub takes_word : Deployment → ℕ → AgentState → Membership → Turn AgentState
takes_word D h a w =
    sending (record a { own = Some w; taken = Some w }) (λ b. elim b as (λ _. List Letter) [
      | Site s ↦ if is_slot_of D h s then open_letter (msg.Start a.start) ∷ letter_to a.start (msg.View w) ∷ [] else []
      | _ ↦ []
    ])

-- whether the word has a member of a greater start
abbrev pub is_passed_over : ℕ → Membership → Bool
is_passed_over start w = list_any (λ m. nat_lt start m.1) (members w)

-- Decided: a joiner without a word takes it, unless it has a member of a greater start; then it would never be admitted, and
-- it stops its host. So does a joiner with a word, if this one is of a higher term than the one that it took and doesn't
-- admit it.
abbrev pub on_decided : Deployment → ℕ → AgentState → Option Membership → Option Membership → Membership → Turn AgentState
on_decided D h a (Some decided) taken w = becomes a
on_decided D h a None None w = if is_passed_over a.start w then stops_with_host D h a.start else takes_word D h a w
on_decided D h a None (Some taken) w =
    if nat_lt (term_of taken) (term_of w) && not (admits w a.start) then stops_with_host D h a.start else becomes a

-- Loaded: with all its sites the agent asks the initiator of the word that it took to be admitted. An earlier start of its own
-- host isn't asked.
abbrev pub asks_initiator : ℕ → AgentState → Membership → Option (ℕ × ℕ) → Turn AgentState
asks_initiator h a w None = becomes a
asks_initiator h a w (Some first) =
    if first.0 == h then becomes a
    else sending a (only (Agent first.0) (letter_in (term_of w) first.1 (msg.Admit a.start)))

abbrev pub has_loaded : Deployment → ℕ → AgentState → Option Membership → Turn AgentState
has_loaded D h a None = becomes a
has_loaded D h a (Some w) =
    if list_all (λ s. is_in s a.loaded) (slots_of_host D h) then asks_initiator h a w (initiator w) else becomes a

abbrev pub on_loaded : Deployment → ℕ → AgentState → ℕ → ℕ → Turn AgentState
on_loaded D h a slot start =
    if start == a.start then has_loaded D h (record a { loaded = with_number slot a.loaded }) a.taken else becomes a

-- ---- at each change of its word

abbrev pub is_other_word : Option Membership → Option Membership → Bool
is_other_word None None = false
is_other_word (Some v) (Some w) = not (same_word v w)
is_other_word _ _ = true

-- Word to a member, of the start by which it is one
abbrev pub word_to : Membership → Option ℕ → List Letter
word_to w None = []
word_to w (Some start) = letter_to start (msg.Word w.base w.lost w.admitted) ∷ []

-- The agent says its word to the other members, where the word counts it as a member.
abbrev pub says : Deployment → ℕ → AgentState → Option Membership → Turn AgentState
says D h a None = becomes a
says D h a (Some w) =
    sending a (λ b. elim b as (λ _. List Letter) [
      | Agent g ↦ if is_member w h a.start && is_host D g && not (g == h) then word_to w (start_of w g) else []
      | _ ↦ []
    ])

-- Each member has said exactly this word: the agent itself, and the others as it has heard.
abbrev pub is_word : Membership → Option Membership → Bool
is_word w None = false
is_word w (Some v) = same_word v w

abbrev pub may_decide : ℕ → AgentState → Option Membership → Bool
may_decide h a None = false
may_decide h a (Some w) =
    is_member w h a.start && not (is_word w a.decided) && list_all (λ m. m.0 == h || is_word w (a.said m.0)) (members w)

-- A pending call whose target's start is lost goes again, to who runs it by this word. Where that leaves a partition without
-- a copy, none does.
abbrev pub goes_again : Deployment → Membership → Pending → Option (Actor × ℕ)
goes_again D w p = if is_in p.target w.lost && not (is_down D w) then runner D w p.part else None

abbrev pub with_target : Pending → Option (Actor × ℕ) → Pending
with_target p None = p
with_target p (Some to) = record p { target = to.1 }

abbrev pub asked_again : Deployment → Membership → List Pending → List Pending
asked_again D w ps = map (λ p. with_target p (goes_again D w p)) ps

abbrev pub asks_if : ℕ → Pending → Option (Actor × ℕ) → Sends
asks_if start p None = no_sends
asks_if start p (Some to) = asks start p to

-- by rising call
abbrev pub asks_again : Deployment → ℕ → Membership → List Pending → Sends
asks_again D start w ps b = flat_map (λ p. asks_if start p (goes_again D w p) b) ps

-- On deciding a word it sends View to its sites, Decided to the agents that are no members, and Opened to all clients if it
-- is newly admitted. Where the word leaves a partition without a copy no View is sent.
abbrev pub decided_sends : Deployment → ℕ → AgentState → Membership → Sends
decided_sends D h a w (Site s) = if is_slot_of D h s && not (is_down D w) then letter_to a.start (msg.View w) ∷ [] else []
decided_sends D h a w (Agent g) =
    if is_host D g && not (g == h) && is_none (start_of w g) then open_letter (msg.Decided w) ∷ [] else []
decided_sends D h a w (Client n) =
    if is_client D n && is_none a.decided then open_letter (msg.Opened a.start) ∷ [] else []
decided_sends D h a w b = []

abbrev pub decides_word : Deployment → ℕ → AgentState → Option Membership → Turn AgentState
decides_word D h a None = becomes a
decides_word D h a (Some w) =
    sending
    (on_decided_word h (record a { decided = Some w; pending = asked_again D w a.pending }))
    (λ b. decided_sends D h a w b ++ asks_again D a.start w a.pending b)

-- what follows the handler of a message, given the word that the agent had before
abbrev pub agrees : Deployment → ℕ → Option Membership → AgentState → Turn AgentState
agrees D h before a =
    (if is_other_word before a.own then says D h a a.own else becomes a)
    ▸ (λ b. if may_decide h b b.own then decides_word D h b b.own else becomes b)

-- ---- what it does with each message

abbrev pub from_agent : Database → Deployment → ℕ → ℕ → AgentState → ℕ → Letter → Turn AgentState
from_agent E D h stamp a g l = elim l.body as (λ _. Turn AgentState) [
  | msg.Closed start ↦ becomes (on_closed a a.own start)
  | msg.Word base lost admitted ↦ becomes (on_word a a.own g base lost admitted)
  | msg.Hello start ↦ on_hello h a a.decided g start
  | msg.Decided w ↦ on_decided D h a a.decided a.taken w
  | msg.MpCall call start client body ↦ queues E D h a (ToRun (RunCall call client g start body))
  | msg.MpReply call e ↦ on_reply D a call e
  | msg.Admit start ↦ queues E D h a (Admission start g l.term)
  | _ ↦ becomes a
]

abbrev pub from_site : Database → Deployment → ℕ → ℕ → AgentState → ℕ → Letter → Turn AgentState
from_site E D h stamp a s l = elim l.body as (λ _. Turn AgentState) [
  | msg.Reply call start e ↦ on_reply D a call e
  | msg.FragDone m round partial ↦
      on_frag_done E D stamp a a.initiating.phase a.initiating.work (part_of_slot D s) m round partial
  | msg.Finished m ↦ on_finished E D h a a.initiating.phase a.initiating.work (part_of_slot D s) m
  | msg.MpState m is_open outcome replies ↦
      on_mp_state E D h a a.initiating.phase
      (record { part = part_of_slot D s; transaction = m; is_open = is_open; outcome = outcome; replies = replies })
  | msg.Loaded start ↦ on_loaded D h a s start
  | _ ↦ becomes a
]

-- Snap: the initiator queues a snapshot; others do nothing.
abbrev pub from_director : Database → Deployment → ℕ → AgentState → Letter → Turn AgentState
from_director E D h a l = elim l.body as (λ _. Turn AgentState) [
  | msg.Snap ↦ if initiates h a a.decided then queues E D h a (ToRun TakeSnapshot) else becomes a
  | _ ↦ becomes a
]

abbrev pub from_client : Deployment → AgentState → ℕ → Letter → Turn AgentState
from_client D a n l = elim l.body as (λ _. Turn AgentState) [
  | msg.Call call start part body ↦ on_call D a a.decided n call start part body
  | _ ↦ becomes a
]

-- the handler of a message that it takes
abbrev pub agent_handler : Database → Deployment → ℕ → ℕ → AgentState → Actor → Letter → Turn AgentState
agent_handler E D h stamp a Director l = from_director E D h a l
agent_handler E D h stamp a (Client n) l = from_client D a n l
agent_handler E D h stamp a (Agent g) l = from_agent E D h stamp a g l
agent_handler E D h stamp a (Site s) l = from_site E D h stamp a s l
agent_handler E D h stamp a (Scanner x) l = becomes a

abbrev pub handler_and_word : Database → Deployment → ℕ → ℕ → AgentState → Actor → Letter → Turn AgentState
handler_and_word E D h stamp a from l = agent_handler E D h stamp a from l ▸ agrees D h a.own

-- an agent that has stopped drops what waited
abbrev pub unless_stopped : Database → Deployment → ℕ → ℕ → AgentState → Actor → Letter → Turn AgentState
unless_stopped E D h stamp a from l = if a.start == 0 then becomes a else handler_and_word E D h stamp a from l

-- The messages that waited for its term are taken after all else, in order of coming. None of them brings another word to
-- decide.
abbrev pub takes_each : Database → Deployment → ℕ → ℕ → List Waiting → AgentState → Turn AgentState
takes_each E D h stamp [] a = becomes a
takes_each E D h stamp (w ∷ ws) a = unless_stopped E D h stamp a w.from w.letter ▸ takes_each E D h stamp ws

abbrev pub takes_waiting : Database → Deployment → ℕ → ℕ → AgentState → Turn AgentState
takes_waiting E D h stamp a =
    let term = term_in a.decided in
    takes_each E D h stamp (of_term term a.waiting) (record a { waiting = above_term term a.waiting })

-- Start: an agent that runs ignores it, else it joins: Hello goes to all other agents.
abbrev pub on_start : Deployment → ℕ → ℕ → Turn AgentState
on_start D h start =
    sending (new_agent start) (λ b. elim b as (λ _. List Letter) [
      | Agent g ↦ if is_host D g && not (g == h) then open_letter (msg.Hello start) ∷ [] else []
      | _ ↦ []
    ])

-- Only the director sends it to an agent.
abbrev pub takes_start : Deployment → ℕ → AgentState → Actor → ℕ → Turn AgentState
takes_start D h a Director start = if a.start == 0 then on_start D h start else becomes a
takes_start D h a from start = becomes a

-- Stop: an agent of a start not above it stops.
abbrev pub on_stop : Deployment → ℕ → AgentState → ℕ → Turn AgentState
on_stop D h a start = if nat_le a.start start then stops D h a.start else becomes a

abbrev pub agent_runs : Database → Deployment → ℕ → ℕ → AgentState → Actor → Letter → Turn AgentState
agent_runs E D h stamp a from l = elim (arrival a.start (term_in a.decided) l) as (λ _. Turn AgentState) [
  | Taken ↦ handler_and_word E D h stamp a from l ▸ takes_waiting E D h stamp
  | Waits ↦ becomes (record a { waiting = a.waiting ++ record { from = from; letter = record l { past = [] } } ∷ [] })
  | Refused ↦ becomes a
]

-- The agent of host h after a message, and what it sends. One that is stopped takes Start alone.
abbrev pub agent_takes : Database → Deployment → ℕ → ℕ → AgentState → Actor → Letter → Turn AgentState
agent_takes E D h stamp a from l = elim l.body as (λ _. Turn AgentState) [
  | msg.Start start ↦ takes_start D h a from start
  | msg.Stop start ↦ if a.start == 0 then becomes a else on_stop D h a start
  | _ ↦ if a.start == 0 then becomes a else agent_runs E D h stamp a from l
]

-- ---- the environment's share

-- the start with which it goes on once it has taken a message, before anything else
abbrev pub start_taken : AgentState → Actor → ℕ → ℕ
start_taken a Director start = if a.start == 0 then start else a.start
start_taken a from start = a.start

abbrev pub start_after : AgentState → Actor → Letter → ℕ
start_after a from l = elim l.body as (λ _. ℕ) [
  | msg.Start start ↦ start_taken a from start
  | _ ↦ a.start
]

-- An agent that finds no memory stops with its host.
abbrev pub agent_turn : Database → Deployment → ℕ → ℕ → AgentState → Actor → Letter → Environment → Turn AgentState
agent_turn E D h stamp a from l (NoMemory answered) = stops_with_host D h (start_after a from l)
agent_turn E D h stamp a from l o = agent_takes E D h stamp a from l
