-- Whether an agent takes a message, and what it makes of it.
use Rattle.std.proofs.Common.{◌≡◌, Bool, true, false, [], ◌∷◌, ◌++◌, refl, sym, ap, ◌∙◌, ◌⊎◌, inl, inr, ◌==◌, arith}
use Rattle.std.proofs.lemmas.Bool.{eqb-true}
use Rattle.std.proofs.lemmas.Bool.Decides.{nat_tests}
use Rattle.std.specs.Prelude.{ℕ, ◌||◌, if◌then◌else◌, nat_lt, nat_le}
use Rattle.volt_wire.specs.declared.actor.Actor.{Actor}
use Rattle.volt_wire.specs.declared.actor.Actor.TheVariants.{Director, Client, Agent, Site, Scanner}
use Rattle.volt_wire.specs.declared.message.Msg.{Msg}
use Rattle.volt_wire.specs.declared.message.Msg.TheVariants as msg
use Rattle.cluster_model.specs.Environment.{Environment, NoFault, DiskFails, NoMemory, DisksShow}
use Rattle.cluster_model.specs.Engine.{Database}
use Rattle.cluster_model.specs.Words.{Deployment, term_in}
use Rattle.cluster_model.specs.Letters.{Blocks, Letter, becomes, ◌▸◌, in_term, arrival, Taken, Refused, Waits}
use Rattle.cluster_model.specs.AgentState.{AgentState, stops, stops_with_host}
use Rattle.cluster_model.specs.Agent.{handler_and_word, unless_stopped, takes_waiting, on_start, agent_runs, agent_takes, takes_start, agent_turn}
use Rattle.word_laws.proofs.Closing.{start_after-same}
use Rattle.word_laws.specs.Histories.{State, AgentWaitingFrom}
use Rattle.word_laws.proofs.Calm.{BringsWord}

-- ---- whether a message is taken

-- one that waits is of a higher term
pub arrival-waits : (start here : ℕ) (l : Letter) → arrival start here l ≡ Waits → (l.term == 0) ≡ false
arrival-waits start here l e = meant (l.start == 0 || l.start == start) e
  where
    timed : (none like low : Bool) → (if none || like then Taken else if low then Refused else Waits) ≡ Waits → none ≡ false
    timed true like low q = absurd (cc)
    timed false like low q = refl

    meant : (c : Bool) → (if c then in_term here l.term else Refused) ≡ Waits → (l.term == 0) ≡ false
    meant true q = timed (l.term == 0) (l.term == here) (nat_lt l.term here) q
    meant false q = absurd (cc)

-- one that is taken is meant for this start
pub arrival-taken : (start here : ℕ) (l : Letter) → arrival start here l ≡ Taken → (l.start ≡ 0) ⊎ (l.start ≡ start)
arrival-taken start here l e = meant (l.start == 0) (l.start == start) refl refl e
  where
    meant : (none like : Bool) → (l.start == 0) ≡ none → (l.start == start) ≡ like → (if none || like then in_term here l.term else Refused) ≡ Taken → (l.start ≡ 0) ⊎ (l.start ≡ start)
    meant true like f g q = inl (eqb-true l.start 0 f)
    meant false true f g q = inr (eqb-true l.start start g)
    meant false false f g q = absurd (cc)

-- a message for no start and no term is taken
pub arrival-open : (start here : ℕ) (l : Letter) → (l.start == 0) ≡ true → (l.term == 0) ≡ true → arrival start here l ≡ Taken
arrival-open start here l none untimed = rw (none, untimed) refl

-- so is one for this start and no term
pub arrival-own : (start here : ℕ) (l : Letter) → l.term ≡ 0 → l.start ≡ start → arrival start here l ≡ Taken
arrival-own start here l untimed is =
    let z : (l.term == 0) ≡ true = grind (arith, nat_tests, untimed) in
    let s : (l.start == start) ≡ true = grind (arith, nat_tests, is) in
    choice (l.start == 0) (l.start == start) (l.term == 0) s z
  where
    choice : (none like untimed : Bool) → like ≡ true → untimed ≡ true
        → (if none || like then (if untimed || (l.term == here) then Taken else if nat_lt l.term here then Refused else Waits) else Refused) ≡ Taken
    choice true true true p q = refl
    choice false true true p q = refl
    choice none false untimed p q = absurd (cc)
    choice none true false p q = absurd (cc)

-- Of a message without a term only one for another start is dropped.
pub arrival-dropped : (start here : ℕ) (l : Letter) → l.term ≡ 0 → arrival start here l ≡ Refused → (l.start ≡ start → ⊥)
arrival-dropped start here l untimed e is = let q : Taken ≡ Refused = sym (arrival-own start here l untimed is) ∙ e in absurd (cc)

-- ---- what a running agent makes of a message

-- the messages that start and stop it
abbrev pub Commands : Letter → Type 0
Commands l = elim l.body as (λ _. Type 0) [
  | msg.Start start ↦ Unit {0}
  | msg.Stop start ↦ Unit {0}
  | _ ↦ ⊥
]

-- Stop of this start or a later one stops it, and Start is ignored
pub takes-stop : (E : Database) (D : Deployment) (n stamp : ℕ) (a : AgentState) (from : Actor) (l : Letter) (s : ℕ) → (a.start == 0) ≡ false → l.body ≡ msg.Stop s
    → (agent_takes E D n stamp a from l ≡ stops D n a.start) ⊎ (agent_takes E D n stamp a from l ≡ becomes a)
takes-stop E D n stamp a from l s runs is = rw (is, runs) (choice (nat_le a.start s))
  where
    choice : (c : Bool) → ((if c then stops D n a.start else becomes a) ≡ stops D n a.start) ⊎ ((if c then stops D n a.start else becomes a) ≡ becomes a)
    choice true = inl refl
    choice false = inr refl

pub takes-start : (E : Database) (D : Deployment) (n stamp : ℕ) (a : AgentState) (from : Actor) (l : Letter) (s : ℕ) → (a.start == 0) ≡ false → l.body ≡ msg.Start s
    → agent_takes E D n stamp a from l ≡ becomes a
takes-start E D n stamp a from l s runs is = rw is (ignored from)
  where
    ignored : (from : Actor) → takes_start D n a from s ≡ becomes a
    ignored Director = rw runs refl
    ignored (Client c) = refl
    ignored (Agent g) = refl
    ignored (Site x) = refl
    ignored (Scanner x) = refl

-- The one or the other, whatever the message.
pub data AgentTakes (E : Database) (D : Deployment) (n stamp : ℕ) (a : AgentState) (from : Actor) (l : Letter) : Type 0 where
  Stops_ : agent_takes E D n stamp a from l ≡ stops D n a.start → AgentTakes E D n stamp a from l
  Ignores : agent_takes E D n stamp a from l ≡ becomes a → Commands l → AgentTakes E D n stamp a from l
  Runs_ : agent_takes E D n stamp a from l ≡ agent_runs E D n stamp a from l → (Commands l → ⊥) → AgentTakes E D n stamp a from l

-- one of the three holds of each message
pub takes-cases : (E : Database) (D : Deployment) (n stamp : ℕ) (a : AgentState) (from : Actor) (l : Letter) → (a.start == 0) ≡ false → AgentTakes E D n stamp a from l
takes-cases E D n stamp a from l runs = elim l.body as (λ m. AgentTakes E D n stamp a from (record l { body = m })) [
  | msg.Start start ↦ Ignores (takes-start E D n stamp a from (record l { body = msg.Start start }) start runs refl) tt
  | msg.Stop start ↦ elim (takes-stop E D n stamp a from (record l { body = msg.Stop start }) start runs refl) [
    | inl e ↦ Stops_ e
    | inr e ↦ Ignores e tt
  ]
  | m ↦ Runs_ (rw runs refl) (λ k. k)
]

-- the three things that it makes of others
pub runs-taken : (E : Database) (D : Deployment) (n stamp : ℕ) (a : AgentState) (from : Actor) (l : Letter) → arrival a.start (term_in a.decided) l ≡ Taken
    → agent_runs E D n stamp a from l ≡ (handler_and_word E D n stamp a from l ▸ takes_waiting E D n stamp)
runs-taken E D n stamp a from l e = rw (e, agent_runs) refl

pub runs-waits : (E : Database) (D : Deployment) (n stamp : ℕ) (a : AgentState) (from : Actor) (l : Letter) → arrival a.start (term_in a.decided) l ≡ Waits
    → agent_runs E D n stamp a from l ≡ becomes (record a { waiting = a.waiting ++ record { from = from; letter = record l { past = [] } } ∷ [] })
runs-waits E D n stamp a from l e = rw (e, agent_runs) refl

pub runs-refused : (E : Database) (D : Deployment) (n stamp : ℕ) (a : AgentState) (from : Actor) (l : Letter) → arrival a.start (term_in a.decided) l ≡ Refused
    → agent_runs E D n stamp a from l ≡ becomes a
runs-refused E D n stamp a from l e = rw (e, agent_runs) refl

-- with the environment's share: without memory it stops with its host
pub turn-cases : (E : Database) (D : Deployment) (n stamp : ℕ) (a : AgentState) (from : Actor) (l : Letter) (o : Environment) → (a.start == 0) ≡ false
    → (agent_turn E D n stamp a from l o ≡ stops_with_host D n a.start) ⊎ (agent_turn E D n stamp a from l o ≡ agent_takes E D n stamp a from l)
turn-cases E D n stamp a from l NoFault runs = inr refl
turn-cases E D n stamp a from l (DiskFails answered) runs = inr refl
turn-cases E D n stamp a from l (NoMemory answered) runs = inl (ap (λ s. stops_with_host D n s) (start_after-same a from l runs))
turn-cases E D n stamp a from l (DisksShow shown failed) runs = inr refl

-- ---- what a stopped agent makes of a message: it takes Start from the director alone

pub stopped-cases : (E : Database) (D : Deployment) (n stamp : ℕ) (a : AgentState) (from : Actor) (l : Letter) → (a.start == 0) ≡ true
    → (agent_takes E D n stamp a from l ≡ becomes a) ⊎ ((from ≡ Director) × ((s : ℕ) × (l.body ≡ msg.Start s) × (agent_takes E D n stamp a from l ≡ on_start D n s)))
stopped-cases E D n stamp a from l stopped =
    elim l.body as (λ m. (agent_takes E D n stamp a from (record l { body = m }) ≡ becomes a)
    ⊎ ((from ≡ Director) × ((s : ℕ) × (m ≡ msg.Start s) × (agent_takes E D n stamp a from (record l { body = m }) ≡ on_start D n s)))) [
      | msg.Start start ↦ begun from start (msg.Start start) refl
      | msg.Stop start ↦ inl (rw stopped refl)
      | m ↦ inl (rw stopped refl)
    ]
  where
    begun : (from : Actor) (start : ℕ) (m : Msg Blocks) → m ≡ msg.Start start
        → (takes_start D n a from start ≡ becomes a) ⊎ ((from ≡ Director) × ((s : ℕ) × (m ≡ msg.Start s) × (takes_start D n a from start ≡ on_start D n s)))
    begun Director start m is = inr (refl, (start, is, rw stopped refl))
    begun (Client c) start m is = inl refl
    begun (Agent g) start m is = inl refl
    begun (Site x) start m is = inl refl
    begun (Scanner x) start m is = inl refl

-- ---- choices

-- the handler of a message, for one that runs
pub unless-running : (E : Database) (D : Deployment) (n stamp : ℕ) (a : AgentState) (from : Actor) (l : Letter) → (a.start == 0) ≡ false
    → unless_stopped E D n stamp a from l ≡ handler_and_word E D n stamp a from l
unless-running E D n stamp a from l runs = rw runs refl

-- what waits brings none
pub waiting-brings : (S : State) (n : ℕ) (from : Actor) (l : Letter) → AgentWaitingFrom S n from l → BringsWord from l → ⊥
waiting-brings S n Director l w = λ k. k
waiting-brings S n (Client c) l w = λ k. k
waiting-brings S n (Agent g) l w = elim l.body as (λ m. AgentWaitingFrom S n (Agent g) (record l { body = m }) → BringsWord (Agent g) (record l { body = m }) → ⊥) [
  | msg.Word base lost admitted ↦ λ v k. v
  | msg.Decided x ↦ λ v k. v
  | msg.Closed o ↦ λ v k. v
  | m ↦ λ v k. k
] w
waiting-brings S n (Site s) l w = λ k. k
waiting-brings S n (Scanner x) l w = λ k. k
