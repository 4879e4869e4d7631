-- Who asks to be admitted has loaded all, and has it on disk: what holds of that, holds after an agent's turns.
use Rattle.log_laws.proofs.Names.{◌≡◌, ◌+◌, ◌<◌, Bool, true, List, subst, inl, inr, ◌==◌, arith, and_parts, nat_tests, ℕ, nat_lt, AllByRecursion, list_all, range_with_len, Actor, Agent, Site, Deployment, slots, host_of_slot, is_slot_of, slots_of_host, is_in, Letter, Sends, AgentState, Queued, ToRun, Admission, took, In, History, Admitted, all-mono, all-append, list_all-at, filter-in, set-both, sent-both, took-all, asked_by, LogState, LoadedOk, AllLoaded, ToldOk, AskedOk, QueuedLoadedOk, LoadsOk}
use Rattle.volt_wire.specs.declared.message.Msg.TheVariants as msg
use Rattle.word_laws.proofs.Moves as word
use Rattle.log_laws.proofs.Agents.AgentSends.{NoAdmit}
use Rattle.log_laws.proofs.Agents.Views.{worded, agent_turned}
use Rattle.log_laws.proofs.Plain.{range-in}

-- ---- what is asked, in another state of words

module _ (S : LogState) (agents : ℕ → AgentState) (channel : Actor → Actor → List Letter) (G : History) where
  pub asked-worded : (from : Actor) (l : Letter) → AskedOk S from l → AskedOk (worded S agents channel G) from l
  asked-worded (Agent h) l k = k
  asked-worded (Site c) l k = k
  asked-worded from l k = tt

  pub queued-worded : (q : Queued) → QueuedLoadedOk S q → QueuedLoadedOk (worded S agents channel G) q
  queued-worded (ToRun job) k = tt
  queued-worded (Admission a h term) k = k

-- a message that doesn't ask
pub none-asked : (S : LogState) (n : ℕ) (l : Letter) → NoAdmit l → AskedOk S (Agent n) l
none-asked S n l p = elim l.body as (λ m. NoAdmit (record l { body = m }) → AskedOk S (Agent n) (record l { body = m })) [
  | msg.Admit j ↦ λ k. absurd k
  | m ↦ λ k. tt
] p

-- whom a message asks to be admitted
pub asked-admission : (S : LogState) (from : Actor) (l : Letter) → AskedOk S from l → (j h term : ℕ) → In (Admission j h term) (asked_by from l) → AllLoaded S h j
asked-admission S (Agent g) l p j h term i = (elim l.body as
    (λ m. AskedOk S (Agent g) (record l { body = m }) → In (Admission j h term) (asked_by (Agent g) (record l { body = m })) → AllLoaded S h j) [
      | msg.Admit s ↦ λ k q. elim q [ inl e ↦ subst (QueuedLoadedOk S) e k | inr e ↦ absurd e ]
      | m ↦ λ k q. absurd q
    ]) p i
asked-admission S from l p j h term i = absurd i

-- ---- a host's slots

-- of which all pass a test
pub all-slots : (D : Deployment) (n c : ℕ) (test : ℕ → Bool) → list_all test (slots_of_host D n) ≡ true → is_slot_of D n c ≡ true → test c ≡ true
all-slots D n c test all s = list_all-at test (slots_of_host D n) c all (filter-in (is_slot_of D n) c (range_with_len 0 (slots D)) (range-in c 0 (slots D) (omega arith) below) s)
  where
    below : c < 0 + slots D
    below = grind (arith, nat_tests, (and_parts (nat_lt c (slots D)) (host_of_slot D c == n) s).0)

-- ---- the whole of it

-- a message to an agent is taken
pub loads-popped : (S : LogState) (from : Actor) (n : ℕ) → LoadsOk S → LoadsOk (record S { words = word.agent_popped S.words from n })
loads-popped S from n k = let channel = took S.words.channel from (Agent n) in record {
  told = λ c h. took-all (ToldOk S c) S.words.channel from (Agent n) (Site c) (Agent h) (k.told c h);
  heard = k.heard;
  asked = λ h g. took-all (AskedOk S (Agent h)) S.words.channel from (Agent n) (Agent h) (Agent g) (k.asked h g);
  waiting = λ h. all-mono _ _ (λ x p. asked-worded S S.words.agents channel S.words.history x.from x.letter p) (S.words.agents h).waiting (k.waiting h);
  queued = λ h. all-mono _ _ (λ q p. queued-worded S S.words.agents channel S.words.history q p) (S.words.agents h).initiating.queue (k.queued h);
  admitted = k.admitted;
}

-- What an agent has after its turn, and what it asks.
pub record LoadsTurn (S : LogState) (n : ℕ) (a : AgentState) (out : Sends) (G : History) : Type 0 where
  pub heard : 0 < a.start → (c : ℕ) → is_in c a.loaded ≡ true → LoadedOk S c a.start
  pub asked : (g : ℕ) → AllByRecursion (AskedOk S (Agent n)) (out (Agent g))
  pub waiting : AllByRecursion (λ x. AskedOk S x.from x.letter) a.waiting
  pub queued : AllByRecursion (QueuedLoadedOk S) a.initiating.queue
  pub admitted : (x : Admitted) → In x G.admitted → AllLoaded S (S.words.owner x.start) x.start

pub loads-turned : (S : LogState) (n : ℕ) (a : AgentState) (out : Sends) (G : History) → LoadsOk S → LoadsTurn S n a out G → LoadsOk (agent_turned S n a out G)
loads-turned S n a out G k t = let T = agent_turned S n a out G in record {
  told = k.told;
  heard = λ h c. set-both (λ h x. 0 < x.start → is_in c x.loaded ≡ true → LoadedOk S c x.start) S.words.agents n a (λ u i. t.heard u c i) (λ h d u i. k.heard h c u i) h;
  asked = λ h g. sent-both (AllByRecursion (AskedOk S (Agent h))) S.words.channel n out h (Agent g)
      (λ e. all-append (AskedOk S (Agent h)) (S.words.channel (Agent h) (Agent g)) (out (Agent g)) (k.asked h g)
      (subst (λ z. AllByRecursion (AskedOk S (Agent z)) (out (Agent g))) e (t.asked g)))
      (λ d. k.asked h g);
  waiting = λ h. all-mono _ _ (λ x p. asked-worded S T.words.agents T.words.channel G x.from x.letter p) (T.words.agents h).waiting
      (set-both (λ h x. AllByRecursion (λ y. AskedOk S y.from y.letter) x.waiting) S.words.agents n a t.waiting (λ h d. k.waiting h) h);
  queued = λ h. all-mono _ _ (λ q p. queued-worded S T.words.agents T.words.channel G q p) (T.words.agents h).initiating.queue
      (set-both (λ h x. AllByRecursion (QueuedLoadedOk S) x.initiating.queue) S.words.agents n a t.queued (λ h d. k.queued h) h);
  admitted = t.admitted;
}
