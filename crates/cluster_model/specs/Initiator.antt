-- The initiator runs calls on all partitions, one after another, and admits hosts that have joined.
use Rattle.std.specs.Prelude.{ℕ, ◌+◌, ◌==◌, ◌&&◌, not, nat_lt, Bool, true, false, if◌then◌else◌, List, [], ◌∷◌, ◌++◌, map, filter, max, Option, Some, None, is_none, option_map}
use Rattle.std.specs.List.{list_any, list_all}
use Rattle.volt_base.specs.declared.entry.LastReply.{LastReply}
use Rattle.volt_base.specs.declared.entry.Outcome.{Outcome}
use Rattle.volt_base.specs.declared.entry.Outcome.TheVariants as outcome
use Rattle.volt_wire.specs.Word.{Membership}
use Rattle.volt_wire.specs.declared.actor.Actor.TheVariants.{Agent, Site}
use Rattle.volt_wire.specs.declared.end.End.{End}
use Rattle.volt_wire.specs.declared.message.Msg.{Msg}
use Rattle.volt_wire.specs.declared.message.Msg.TheVariants as msg
use Rattle.cluster_model.specs.Engine.{Database, CoordStep, Round, Finish}
use Rattle.cluster_model.specs.Log.{first_outcome, greater}
use Rattle.cluster_model.specs.Replies.{with_replies, last_reply_to, replied_by, end_of_reply, known_by}
use Rattle.cluster_model.specs.declared.known.Known.{Known}
use Rattle.cluster_model.specs.declared.known.Known.TheVariants.{IsNew, IsAnswered, IsPast}
use Rattle.cluster_model.specs.Words.{Deployment, parts, all_parts, part_of_slot, members, start_of_slot, leader, is_some_of, is_in, term_of, same_word, with_admitted}
use Rattle.cluster_model.specs.Letters.{Blocks, Letter, Sends, Turn, becomes, sending, ◌▸◌, letter_to, letter_in, only}
use Rattle.cluster_model.specs.AgentState.{AgentState, Phase, Off, Hears, Closes, Idle, Works, Work, Job, RunCall, TakeSnapshot, Queued, ToRun, Admission, Heard, initiates, on_reply}

-- ---- what goes to the leaders of the partitions

abbrev pub to_leader : Deployment → Membership → Msg Blocks → ℕ → Option ℕ → List Letter
to_leader D w m s None = []
to_leader D w m s (Some start) = letter_in (term_of w) start m ∷ []

-- a message in the term of a word, to the leaders of these partitions
abbrev pub to_leaders : Deployment → Membership → (ℕ → Bool) → Msg Blocks → Sends
to_leaders D w parts m (Site s) =
    if parts (part_of_slot D s) && is_some_of (leader D w (part_of_slot D s)) s
    then to_leader D w m s (start_of_slot D w s)
    else []
to_leaders D w parts m b = []

abbrev pub to_all_leaders : Deployment → Option Membership → Msg Blocks → Sends
to_all_leaders D None m b = []
to_all_leaders D (Some w) m b = to_leaders D w (λ p. nat_lt p (parts D)) m b

-- ---- beginning a job

abbrev pub with_phase : AgentState → Phase → AgentState
with_phase a phase = record a { initiating = record a.initiating { phase = phase } }

abbrev pub with_work : AgentState → Work → AgentState
with_work a w = record a { initiating = record a.initiating { phase = Works; work = Some w } }

abbrev pub no_work : AgentState → AgentState
no_work a = record a { initiating = record a.initiating { phase = Idle; work = None } }

-- the job at hand in its first round, with the next number
abbrev pub new_work : Job → ℕ → Work
new_work job m =
    record { job = job; transaction = m; round = 1; fed = []; gathered = []; decision = None; finished = [] }

-- the body of a round; where the call ends at its start one round with an empty body goes out first
abbrev pub body_of_round : CoordStep → List ℕ
body_of_round (Round body) = body
body_of_round (Finish keep reply) = []

abbrev pub numbered : AgentState → AgentState
numbered a = record a { initiating = record a.initiating { next = a.initiating.next + 1 } }

-- A call begins with its first round, a snapshot with its end.
abbrev pub begins : Database → Deployment → AgentState → Job → Turn AgentState
begins E D a (RunCall call client host start body) =
    sending (with_work (numbered a) (new_work (RunCall call client host start body) a.initiating.next))
    (to_all_leaders D a.decided (msg.Frag a.initiating.next 1 (body_of_round (E.asks body []))))
begins E D a TakeSnapshot =
    sending
    (with_work (numbered a) (record (new_work TakeSnapshot a.initiating.next) { decision = Some outcome.Snapshot }))
    (to_all_leaders D a.decided (msg.Done a.initiating.next outcome.Snapshot))

-- ---- answers

-- what a call is answered that was decided so
abbrev pub end_of : Outcome → Option End
end_of (outcome.Kept call client point reply) = Some (end_of_reply reply)
end_of (outcome.Aborted call client point reply) = Some (end_of_reply reply)
end_of _ = None

-- The agent that asked gets the answer; the initiator itself hands it to the client.
abbrev pub answers : Deployment → ℕ → AgentState → Job → Option End → Turn AgentState
answers D h a job None = becomes a
answers D h a TakeSnapshot e = becomes a
answers D h a (RunCall call client host start body) (Some e) =
    if host == h && start == a.start then on_reply D a call e
    else sending a (only (Agent host) (letter_to start (msg.MpReply call e)))

-- what the last replies say of a job
abbrev pub known_of : Job → List LastReply → Known
known_of (RunCall call client host start body) replies = known_by call (last_reply_to client replies)
known_of TakeSnapshot replies = IsNew

-- ---- its queue

-- Admit, when it is idle: the start is admitted if its own word is then the one that it has decided, and of the term
-- of the word that the joiner took. No member is passed over: a start below that of a member isn't admitted.
abbrev pub admitting : AgentState → Option Membership → Option Membership → ℕ → ℕ → ℕ → AgentState
admitting a (Some own) (Some decided) start host term =
    if same_word own decided && term_of own == term && list_all (λ m. nat_lt m.1 start) (members own)
    then record a { own = Some (with_admitted start host own) }
    else a
admitting a own decided start host term = a

abbrev pub with_queue : AgentState → List Queued → AgentState
with_queue a queue = record a { initiating = record a.initiating { queue = queue } }

-- A job that is new is at hand. A call that was run already is answered by its last reply, or dropped; then it goes on.
abbrev pub works_known : Database → Deployment → ℕ → AgentState → Job → List Queued → Known → (AgentState → Turn AgentState) → Turn AgentState
works_known E D h a job later IsNew goes_on = begins E D (with_queue a later) job
works_known E D h a job later (IsAnswered e) goes_on = answers D h a job (Some e) ▸ goes_on
works_known E D h a job later IsPast goes_on = goes_on a

-- The initiator that is idle works its queue in order of coming, until it has a job at hand.
abbrev pub works_queue : Database → Deployment → ℕ → AgentState → List Queued → Turn AgentState
works_queue E D h a [] = becomes (with_queue a [])
works_queue E D h a (ToRun job ∷ later) =
    works_known E D h a job later (known_of job a.initiating.replies) (λ b. works_queue E D h b later)
works_queue E D h a (Admission start host term ∷ later) =
    works_queue E D h (admitting a a.own a.decided start host term) later

abbrev pub if_idle : Database → Deployment → ℕ → AgentState → Phase → Turn AgentState
if_idle E D h a Idle = works_queue E D h a a.initiating.queue
if_idle E D h a _ = becomes a

-- MpCall, Snap and Admit are queued; they are worked when the agent is the initiator and idle.
abbrev pub queues : Database → Deployment → ℕ → AgentState → Queued → Turn AgentState
queues E D h a q = let b = with_queue a (a.initiating.queue ++ q ∷ []) in if_idle E D h b b.initiating.phase

-- ---- a job ends

-- with no job at hand it is idle and works its queue
abbrev pub rests : Database → Deployment → ℕ → AgentState → Turn AgentState
rests E D h a = works_queue E D h (no_work a) a.initiating.queue

abbrev pub ends_job : Database → Deployment → ℕ → AgentState → Job → Option End → Turn AgentState
ends_job E D h a job e = answers D h a job e ▸ rests E D h

-- ---- rounds

abbrev pub part_in : List (ℕ × List ℕ) → ℕ → List ℕ
part_in [] p = []
part_in (x ∷ xs) p = if x.0 == p then x.1 else part_in xs p

abbrev pub has_part : List (ℕ × List ℕ) → ℕ → Bool
has_part xs p = list_any (λ x. x.0 == p) xs

-- what all partitions answered, in their order
abbrev pub in_order : Deployment → List (ℕ × List ℕ) → List (List ℕ)
in_order D gathered = map (part_in gathered) (all_parts D)

abbrev pub outcome_of : Bool → Job → ℕ → List ℕ → Outcome
outcome_of true (RunCall call client host start body) point reply = outcome.Kept call client point reply
outcome_of false (RunCall call client host start body) point reply = outcome.Aborted call client point reply
outcome_of keep TakeSnapshot point reply = outcome.Snapshot

abbrev pub with_known : AgentState → List LastReply → AgentState
with_known a replies = record a { initiating = record a.initiating { replies = replies } }

-- The decision: its stamp is the point of the call, and Done goes to all leaders. It is the last reply to the client.
abbrev pub decides : Deployment → ℕ → AgentState → Work → Bool → List ℕ → Turn AgentState
decides D stamp a w keep reply =
    let outcome = outcome_of keep w.job stamp reply in
    sending (with_known (with_work a (record w { decision = Some outcome })) (replied_by outcome a.initiating.replies))
    (to_all_leaders D a.decided (msg.Done w.transaction outcome))

-- the next round, or the decision
abbrev pub goes_on : Deployment → ℕ → AgentState → Work → CoordStep → Turn AgentState
goes_on D stamp a w (Round body) =
    sending (with_work a (record w { round = w.round + 1; gathered = [] }))
    (to_all_leaders D a.decided (msg.Frag w.transaction (w.round + 1) body))
goes_on D stamp a w (Finish keep reply) = decides D stamp a w keep reply

-- all parts of the round are there; those of a round that the call didn't ask for aren't fed
abbrev pub feeds : Database → Deployment → ℕ → AgentState → Work → List ℕ → CoordStep → Turn AgentState
feeds E D stamp a w body (Finish keep reply) = decides D stamp a w keep reply
feeds E D stamp a w body (Round asked) =
    let fed = w.fed ++ in_order D w.gathered ∷ [] in
    goes_on D stamp a (record w { fed = fed }) (E.asks body fed)

abbrev pub ends_round : Database → Deployment → ℕ → AgentState → Work → Job → Turn AgentState
ends_round E D stamp a w (RunCall call client host start body) = feeds E D stamp a w body (E.asks body w.fed)
ends_round E D stamp a w TakeSnapshot = becomes a

abbrev pub gathers : Database → Deployment → ℕ → AgentState → Work → Turn AgentState
gathers E D stamp a w =
    if list_all (has_part w.gathered) (all_parts D) then ends_round E D stamp a w w.job else becomes (with_work a w)

-- FragDone: with all partitions' parts it feeds the call, and then the next round goes out, or the decision.
abbrev pub on_frag_done : Database → Deployment → ℕ → AgentState → Phase → Option Work → ℕ → ℕ → ℕ → List ℕ → Turn AgentState
on_frag_done E D stamp a Works (Some w) p m round partial =
    if w.transaction == m && w.round == round && is_none w.decision && not (has_part w.gathered p)
    then gathers E D stamp a (record w { gathered = w.gathered ++ (p, partial) ∷ [] })
    else becomes a
on_frag_done E D stamp a phase work p m round partial = becomes a

-- ---- a new term

-- A job that it hasn't decided runs again with the next number, unless its call was run already.
abbrev pub runs_again : Database → Deployment → ℕ → AgentState → Job → Known → Turn AgentState
runs_again E D h a job IsNew = begins E D a job
runs_again E D h a job (IsAnswered e) = ends_job E D h a job (Some e)
runs_again E D h a job IsPast = ends_job E D h a job None

-- Once no partition has its transaction open: a job that it has decided is answered, one that it hasn't runs again. A
-- snapshot whose Done it has sent is over.
abbrev pub settles : Database → Deployment → ℕ → AgentState → Option Work → Turn AgentState
settles E D h a None = rests E D h a
settles E D h a (Some w) = elim w.decision as (λ _. Turn AgentState) [
  | None ↦ runs_again E D h a w.job (known_of w.job a.initiating.replies)
  | Some o ↦ ends_job E D h a w.job (end_of o)
]

abbrev pub all_finished : List ℕ → List ℕ → Bool
all_finished parts finished = list_all (λ p. is_in p finished) parts

-- Finished: with all, the answer, and then it is idle. Where it closes a transaction of an earlier term, that is settled.
abbrev pub on_finished : Database → Deployment → ℕ → AgentState → Phase → Option Work → ℕ → ℕ → Turn AgentState
on_finished E D h a Works (Some w) p m =
    let done = record w { finished = p ∷ w.finished } in
    elim w.decision as (λ _. Turn AgentState) [
      | None ↦ becomes a
      | Some o ↦
          if w.transaction == m
          then (if all_finished (all_parts D) done.finished then ends_job E D h (with_work a done) w.job (end_of o) else becomes (with_work a done))
          else becomes a
    ]
on_finished E D h a (Closes closing parts finished) work p m =
    if closing == m
    then (if all_finished parts (p ∷ finished) then settles E D h a work else becomes (with_phase a (Closes closing parts (p ∷ finished))))
    else becomes a
on_finished E D h a phase work p m = becomes a

-- the greatest number of those told, and the greatest of those that are open, if one is
abbrev pub greatest_told : List Heard → ℕ
greatest_told [] = 0
greatest_told (t ∷ ts) = max t.transaction (greatest_told ts)

abbrev pub open_told : List Heard → Option ℕ
open_told [] = None
open_told (t ∷ ts) = if t.is_open then greater (Some t.transaction) (open_told ts) else open_told ts

-- the last transaction that a partition told, if none is open there
abbrev pub last_told : Heard → Option (ℕ × Outcome)
last_told t = if t.is_open then None else option_map (λ o. (t.transaction, o)) t.outcome

-- its own decision is the outcome, if it has one of this transaction
abbrev pub own_decision : ℕ → Option Work → Option Outcome
own_decision m None = None
own_decision m (Some w) = if w.transaction == m then w.decision else None

-- else the first outcome that a partition told of it
abbrev pub closing_outcome : ℕ → List Heard → Option Outcome → Outcome
closing_outcome m told None = first_outcome m (map last_told told)
closing_outcome m told (Some o) = o

-- the partitions in which it is open
abbrev pub open_parts : ℕ → List Heard → List ℕ
open_parts m told = map (λ t. t.part) (filter (λ t. t.is_open && t.transaction == m) told)

abbrev pub done_to : Deployment → Option Membership → List ℕ → ℕ → Outcome → Sends
done_to D None parts m o b = []
done_to D (Some w) parts m o b = to_leaders D w (λ p. is_in p parts) (msg.Done m o) b

abbrev pub closes_open : Database → Deployment → ℕ → AgentState → List Heard → Option ℕ → Turn AgentState
closes_open E D h a told None = settles E D h a a.initiating.work
closes_open E D h a told (Some m) =
    sending (with_phase a (Closes m (open_parts m told) []))
    (done_to D a.decided (open_parts m told) m (closing_outcome m told (own_decision m a.initiating.work)))

-- a new initiator's first number is one above the greatest that was told
abbrev pub first_number : AgentState → List Heard → AgentState
first_number a told =
    if a.initiating.next == 0 then record a { initiating = record a.initiating { next = greatest_told told + 1 } } else a

-- of each client's calls that were told it takes the greatest
abbrev pub replies_told : List Heard → List LastReply → List LastReply
replies_told [] replies = replies
replies_told (t ∷ ts) replies = replies_told ts (with_replies t.replies replies)

abbrev pub knows_told : AgentState → List Heard → AgentState
knows_told a told = with_known a (replies_told told a.initiating.replies)

abbrev pub has_told : List Heard → ℕ → Bool
has_told told p = list_any (λ t. t.part == p) told

abbrev pub hears : Database → Deployment → ℕ → AgentState → List Heard → Turn AgentState
hears E D h a told =
    if list_all (has_told told) (all_parts D)
    then closes_open E D h (knows_told (first_number a told) told) told (open_told told)
    else becomes (with_phase a (Hears told))

-- MpState: with those of all partitions it closes the transaction that is open, and then goes on.
abbrev pub on_mp_state : Database → Deployment → ℕ → AgentState → Phase → Heard → Turn AgentState
on_mp_state E D h a (Hears told) t = if has_told told t.part then becomes a else hears E D h a (told ++ t ∷ [])
on_mp_state E D h a phase t = becomes a

-- On deciding a word the initiator waits for what the partitions tell. Another agent is none.
abbrev pub on_decided_word : ℕ → AgentState → AgentState
on_decided_word h a = if initiates h a a.decided then with_phase a (Hears []) else with_phase a Off
