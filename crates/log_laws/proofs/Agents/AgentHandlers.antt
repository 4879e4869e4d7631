-- The handler of a message that an agent takes, and what it says of a new word: what holds besides that of words, holds after it.
use Rattle.cluster_model.specs.Agent.{takes_word, is_passed_over}
use Rattle.cluster_model.specs.AgentState.{stops_with_host}
use Rattle.log_laws.proofs.Names.{◌≡◌, ◌<◌, Bool, true, false, List, [], ◌++◌, refl, sym, subst, inl, inr, ◌==◌, eqb-true, ℕ, if◌then◌else◌, Option, Some, None, AllByRecursion, Membership, Actor, Agent, Site, Database, Deployment, is_in, union, with_lost, with_number, Letter, Turn, becomes, ◌▸◌, AgentState, Queued, ToRun, Admission, new_agent, agent_handler, on_closed, on_word, on_decided, In, all-mono, all-append, all-at, all-from, in-left, in-cases, in-with_number, Calm, SaysNoWord, asked_by, loaded_by, handler-calm, stops_with_host-say, tells-state, on_decided-joiner, WordsTurn, cond_both, LogState, LoadedOk, AskedOk, QueuedLoadedOk, AllLoaded}
use Rattle.volt_wire.specs.declared.message.Msg.TheVariants as msg
use Rattle.word_laws.specs.Histories as word
use Rattle.word_laws.proofs.Turns.{tells}
use Rattle.log_laws.proofs.Agents.AgentSends.{NoView, NoAdmit, Tells, tells-says, stops-plain, stops-none}
use Rattle.log_laws.proofs.Agents.Admits.{asked-admission, all-slots}
use Rattle.log_laws.proofs.Agents.AgentTurns.{Rest, MayJoin, AgentHandler, plain-agent, stay-plain, tells-plain, stopped-agent}
use Rattle.log_laws.proofs.Agents.AgentWords.{takes-agent}

-- the messages that bring a joiner its word
abbrev pub BringsDecided : Actor → Letter → Type 0
BringsDecided (Agent g) l = elim l.body as (λ _. Type 0) [ msg.Decided w ↦ Unit {0} | _ ↦ ⊥ ]
BringsDecided from l = ⊥

-- ---- what a handler leaves and says

-- of the turn of a handler upon a message: the start, the words that count, what waits, who asks and who has loaded, and what is said
record Handled (S : LogState) (n : ℕ) (from : Actor) (l : Letter) (t : Turn AgentState) : Type 0 where
  pub start : t.state.start ≡ (S.words.agents n).start
  pub decided : t.state.decided ≡ (S.words.agents n).decided
  pub taken : t.state.taken ≡ (S.words.agents n).taken
  pub waiting : t.state.waiting ≡ (S.words.agents n).waiting
  pub queue : (j h term : ℕ) → In (Admission j h term) t.state.initiating.queue → In (Admission j h term) ((S.words.agents n).initiating.queue ++ asked_by from l)
  pub heard : (c : ℕ) → is_in c t.state.loaded ≡ true → LoadedOk S c (S.words.agents n).start
  pub sites : (c : ℕ) → AllByRecursion NoView (t.sends (Site c))
  pub asked : (g : ℕ) → AllByRecursion (AskedOk S (Agent n)) (t.sends (Agent g))

-- what a handler that brings no word says to a site
no-view : (D : Deployment) (n : ℕ) (a : AgentState) (loaded : List ℕ) (c : ℕ) (l : Letter) → SaysNoWord D n a loaded (Site c) l → NoView l
no-view D n a loaded c l p = elim l.body as (λ m. SaysNoWord D n a loaded (Site c) (record l { body = m }) → NoView (record l { body = m })) [
  | msg.Start s ↦ λ k. k
  | msg.View w ↦ λ k. k
  | msg.StreamStart head ↦ λ k. k
  | m ↦ λ k. tt
] p

module _ (S : LogState) (n : ℕ) (r : Rest S) (up : 0 < word.agent_start S.words n) where
  abbrev D : Deployment
  D = S.words.deployment

  abbrev a : AgentState
  a = S.words.agents n

  -- a site that has loaded, with the one that says so now
  loaded-ok : (from : Actor) (l : Letter) → AskedOk S from l → (c : ℕ) → is_in c (loaded_by a from l) ≡ true → LoadedOk S c a.start
  loaded-ok (Site s) l asked c i =
      elim l.body as (λ m. AskedOk S (Site s) (record l { body = m }) → is_in c (loaded_by a (Site s) (record l { body = m })) ≡ true → LoadedOk S c a.start) [
        | msg.Loaded start ↦ λ k. choice start (start == a.start) refl k
        | m ↦ λ k. r.loads.heard n c up
      ] asked i
    where
      choice : (start : ℕ) (b : Bool) → (start == a.start) ≡ b → LoadedOk S s start → is_in c (if b then with_number s a.loaded else a.loaded) ≡ true → LoadedOk S c a.start
      choice start true e k i = elim (in-with_number s c a.loaded i) [
        | inl q ↦ subst (λ x. LoadedOk S x a.start) q (subst (LoadedOk S s) (eqb-true start a.start e) k)
        | inr q ↦ r.loads.heard n c up q
      ]
      choice start false e k i = r.loads.heard n c up i
  loaded-ok from l asked c i = r.loads.heard n c up i

  -- it asks to be admitted once all its sites have loaded
  asks-ok : (loaded : List ℕ) → ((c : ℕ) → is_in c loaded ≡ true → LoadedOk S c a.start) → (g : ℕ) (l : Letter) → SaysNoWord D n a loaded (Agent g) l → AskedOk S (Agent n) l
  asks-ok loaded ok g l p = elim l.body as (λ m. SaysNoWord D n a loaded (Agent g) (record l { body = m }) → AskedOk S (Agent n) (record l { body = m })) [
    | msg.Admit j ↦ λ k. subst (AllLoaded S n) (sym k.0) (λ c s. ok c (all-slots D n c (λ x. is_in x loaded) k.3 s))
    | m ↦ λ k. tt
  ] p

  calm-handled : (from : Actor) (l : Letter) (t : Turn AgentState) → AskedOk S from l → Calm D n a (asked_by from l) (loaded_by a from l) t → Handled S n from l t
  calm-handled from l t asked k = record {
    start = k.start;
    decided = k.decided;
    taken = k.taken;
    waiting = k.waiting;
    queue = k.queue;
    heard = λ c i. loaded-ok from l asked c (subst (λ x. is_in c x ≡ true) k.loads i);
    sites = λ c. all-mono (SaysNoWord D n a (loaded_by a from l) (Site c)) NoView (no-view D n a (loaded_by a from l) c) (t.sends (Site c)) (k.sends (Site c));
    asked = λ g. all-mono (SaysNoWord D n a (loaded_by a from l) (Agent g)) (AskedOk S (Agent n)) (asks-ok (loaded_by a from l) (loaded-ok from l asked) g)
        (t.sends (Agent g)) (k.sends (Agent g));
  }

  -- an agent whose own word, or what it heard, is another
  spoken-handled : (from : Actor) (l : Letter) (own : Option Membership) (said : ℕ → Option Membership) → Handled S n from l (becomes (record a { own = own; said = said }))
  spoken-handled from l own said = record {
    start = refl;
    decided = refl;
    taken = refl;
    waiting = refl;
    queue = λ j h term i. in-left (Admission j h term) a.initiating.queue (asked_by from l) i;
    heard = λ c i. r.loads.heard n c up i;
    sites = λ c. tt;
    asked = λ g. tt;
  }

  closed-handled : (from : Actor) (l : Letter) (own : Option Membership) (start : ℕ) → Handled S n from l (becomes (on_closed a own start))
  closed-handled from l None start = spoken-handled from l a.own a.said
  closed-handled from l (Some w) start = spoken-handled from l (Some (with_lost start w)) a.said

  word-handled : (from : Actor) (l : Letter) (own : Option Membership) (host base : ℕ) (lost : List ℕ) (admitted : List (ℕ × ℕ))
      → Handled S n from l (becomes (on_word a own host base lost admitted))
  word-handled from l None host base lost admitted = spoken-handled from l a.own a.said
  word-handled from l (Some w) host base lost admitted = cond_both (w.base == base) _ _ (λ z. Handled S n from l (becomes z))
      (λ _. spoken-handled from l (Some (union read w)) (λ h. if h == host then Some read else a.said h)) (λ _. spoken-handled from l a.own a.said)
    where
      read : Membership
      read = record w { lost = lost; admitted = admitted }

  handled : (E : Database) (stamp : ℕ) (from : Actor) (l : Letter) → (BringsDecided from l → ⊥) → AskedOk S from l → Handled S n from l (agent_handler E D n stamp a from l)
  handled E stamp (Agent g) l none asked =
      elim l.body as (λ m. (BringsDecided (Agent g) (record l { body = m }) → ⊥) → AskedOk S (Agent g) (record l { body = m })
      → Handled S n (Agent g) (record l { body = m }) (agent_handler E D n stamp a (Agent g) (record l { body = m }))) [
        | msg.Closed o ↦ λ k p. closed-handled (Agent g) (record l { body = msg.Closed o }) a.own o
        | msg.Word base lost admitted ↦ λ k p. word-handled (Agent g) (record l { body = msg.Word base lost admitted }) a.own g base lost admitted
        | msg.Decided w ↦ λ k p. absurd (k tt)
        | m ↦ λ k p. calm-handled (Agent g) (record l { body = m }) (agent_handler E D n stamp a (Agent g) (record l { body = m })) p
            (handler-calm E D n stamp a (Agent g) (record l { body = m }) (λ b. b))
      ] none asked
  handled E stamp from l none asked = calm-handled from l _ asked (handler-calm E D n stamp a from l (λ b. b))

  -- who may be admitted
  pub may-join : (from : Actor) (l : Letter) → AskedOk S from l → (j h term : ℕ) → In (Admission j h term) ((S.words.agents n).initiating.queue ++ asked_by from l) → MayJoin S j h
  may-join from l asked j h term i = elim (in-cases (Admission j h term) (S.words.agents n).initiating.queue (asked_by from l) i) [
    | inl k ↦ all-at (QueuedLoadedOk S) (S.words.agents n).initiating.queue (r.loads.queued n) (Admission j h term) k
    | inr k ↦ asked-admission S from l asked j h term k
  ]

  -- ---- a handler that brings a joiner no word

  handler-agent : (E : Database) (stamp : ℕ) (from : Actor) (l : Letter) → (BringsDecided from l → ⊥) → AskedOk S from l
      → WordsTurn (MayJoin S) S.words n (agent_handler E S.words.deployment n stamp (S.words.agents n) from l ▸ tells S.words.deployment n (S.words.agents n).own)
      → AgentHandler S n (agent_handler E S.words.deployment n stamp (S.words.agents n) from l ▸ tells S.words.deployment n (S.words.agents n).own)
  handler-agent E stamp from l none asked handler =
      plain-agent S n (t ▸ tells S.words.deployment n (S.words.agents n).own) r handler (tells-plain S n t (S.words.agents n).own (record {
        start = k.start;
        decided = k.decided;
        taken = k.taken;
        sites = k.sites;
        asked = k.asked;
        heard = λ u. k.heard;
        waiting = rw k.waiting (r.loads.waiting n);
        queued = all-from (QueuedLoadedOk S) t.state.initiating.queue waits;
      }))
    where
      t : Turn AgentState
      t = agent_handler E S.words.deployment n stamp (S.words.agents n) from l

      k : Handled S n from l t
      k = handled E stamp from l none asked

      waits : (q : Queued) → In q t.state.initiating.queue → QueuedLoadedOk S q
      waits (ToRun job) i = tt
      waits (Admission j h term) i = may-join from l asked j h term (k.queue j h term i)

  -- ---- Decided

  -- what follows a turn
  abbrev pub told : Turn AgentState → Turn AgentState
  told t = t ▸ tells S.words.deployment n (S.words.agents n).own

  unchanged : WordsTurn (MayJoin S) S.words n (told (becomes (S.words.agents n))) → AgentHandler S n (told (becomes (S.words.agents n)))
  unchanged handler = plain-agent S n (told (becomes (S.words.agents n))) r handler (tells-plain S n (becomes (S.words.agents n)) (S.words.agents n).own (stay-plain S n r))

  stops-then : WordsTurn (MayJoin S) S.words n (told (stops_with_host S.words.deployment n (word.agent_start S.words n)))
      → AgentHandler S n (told (stops_with_host S.words.deployment n (word.agent_start S.words n)))
  stops-then handler = stopped-agent S n (told (stops_with_host S.words.deployment n (word.agent_start S.words n))) r handler (tells-state S.words.deployment n (S.words.agents n).own (new_agent 0))
      (λ c. all-append NoView _ _ (stops-plain (word.agent_start S.words n) _ (stops_with_host-say S.words.deployment n (word.agent_start S.words n) (Site c))) (says.sites c))
      (λ g. all-append NoAdmit _ _ (stops-none (word.agent_start S.words n) _ (stops_with_host-say S.words.deployment n (word.agent_start S.words n) (Agent g))) (says.agents g))
    where
      says : Tells [] (tells S.words.deployment n (S.words.agents n).own (new_agent 0))
      says = tells-says S.words.deployment n (S.words.agents n).own (new_agent 0)

  decided-agent : (w : Membership) → word.WordsHold S.words
      → WordsTurn (MayJoin S) S.words n (told (on_decided S.words.deployment n (S.words.agents n) (S.words.agents n).decided (S.words.agents n).taken w))
      → AgentHandler S n (told (on_decided S.words.deployment n (S.words.agents n) (S.words.agents n).decided (S.words.agents n).taken w))
  decided-agent w h = go (S.words.agents n).decided (S.words.agents n).taken refl refl
    where
      go : (d t : Option Membership) → (S.words.agents n).decided ≡ d → (S.words.agents n).taken ≡ t
          → WordsTurn (MayJoin S) S.words n (told (on_decided S.words.deployment n (S.words.agents n) d t w))
          → AgentHandler S n (told (on_decided S.words.deployment n (S.words.agents n) d t w))
      go (Some d) t e f = unchanged
      go None None e f = passed (is_passed_over (word.agent_start S.words n) w)
        where
          passed : (c : Bool) → WordsTurn (MayJoin S) S.words n (told (if c then stops_with_host S.words.deployment n (word.agent_start S.words n) else takes_word S.words.deployment n (S.words.agents n) w))
              → AgentHandler S n (told (if c then stops_with_host S.words.deployment n (word.agent_start S.words n) else takes_word S.words.deployment n (S.words.agents n) w))
          passed true = stops-then
          passed false = takes-agent S n w h r up e f
      go None (Some t) e f = elim (on_decided-joiner S.words.deployment n (S.words.agents n) t w) [
        | inl s ↦ subst (λ z. WordsTurn (MayJoin S) S.words n (told z) → AgentHandler S n (told z)) (sym s) stops-then
        | inr s ↦ subst (λ z. WordsTurn (MayJoin S) S.words n (told z) → AgentHandler S n (told z)) (sym s) unchanged
      ]

  -- ---- the handler of any message

  pub first-agent : (E : Database) (stamp : ℕ) (from : Actor) (l : Letter) → AskedOk S from l → (BringsDecided from l → word.WordsHold S.words)
      → WordsTurn (MayJoin S) S.words n (told (agent_handler E S.words.deployment n stamp (S.words.agents n) from l))
      → AgentHandler S n (told (agent_handler E S.words.deployment n stamp (S.words.agents n) from l))
  first-agent E stamp (Agent g) l asked holds handler =
      elim l.body as (λ m. AskedOk S (Agent g) (record l { body = m }) → (BringsDecided (Agent g) (record l { body = m }) → word.WordsHold S.words)
      → WordsTurn (MayJoin S) S.words n (told (agent_handler E S.words.deployment n stamp (S.words.agents n) (Agent g) (record l { body = m })))
      → AgentHandler S n (told (agent_handler E S.words.deployment n stamp (S.words.agents n) (Agent g) (record l { body = m })))) [
        | msg.Decided w ↦ λ p h. decided-agent w (h tt)
        | m ↦ λ p h. handler-agent E stamp (Agent g) (record l { body = m }) (λ b. b) p
      ] asked holds handler
  first-agent E stamp from l asked holds handler = handler-agent E stamp from l (λ b. b) asked handler
