-- Turns of an agent: what holds besides that of words, holds after them.
use Rattle.log_laws.proofs.Names.{◌≡◌, ◌<◌, true, List, ◌++◌, refl, sym, subst, ap, ◌∙◌, inl, inr, arith, ℕ, Option, Some, None, AllByRecursion, Membership, Actor, Director, Agent, Site, host_of_slot, is_in, term_of, term_in, Letter, Sends, Turn, becomes, ◌▸◌, AgentState, new_agent, In, History, Admitted, all-mono, all-append, sent-both, Grows, grows-same, tells-state, WordsTurn, handler-grows, stay-handler, agent-there, after-handler, then-inert, LogState, LoadedOk, AllLoaded, AskedOk, QueuedLoadedOk, ForeignOk, LoadsOk, ViewsOk, LogsHold, sent_term, agent_to_site}
use Rattle.volt_wire.specs.declared.message.Msg.TheVariants as msg
use Rattle.word_laws.specs.Histories as word
use Rattle.word_laws.proofs.Moves as word_moves
use Rattle.word_laws.proofs.Turns.{tells}
use Rattle.word_laws.proofs.Steps.{after-after}
use Rattle.log_laws.proofs.Agents.Words.{SitesHold, sites-hold, sites-kept}
use Rattle.log_laws.proofs.Agents.AgentSends.{NoView, NoAdmit, tells-says}
use Rattle.log_laws.proofs.Agents.Views.{worded, agent_turned, Unsent, SentUpTo, ViewsIn, views-in, views-of, views-later, views-turned, views-plainly}
use Rattle.log_laws.proofs.Agents.Admits.{none-asked, LoadsTurn, loads-popped, loads-turned}

-- What holds besides that of words.
pub record Rest (S : LogState) : Type 0 where
  pub sites : SitesHold S
  pub views : (c : ℕ) → ViewsOk S c
  pub foreign : (from : Actor) (c : ℕ) → AllByRecursion (ForeignOk S c from) (S.words.channel from (Site c))
  pub loads : LoadsOk S

pub rest-of : (S : LogState) → LogsHold S → Rest S
rest-of S h = record { sites = sites-hold S h; views = h.views; foreign = h.foreign; loads = h.loads }

pub holds-of : (S : LogState) → word.WordsHold S.words → Rest S → LogsHold S
holds-of S w r = search r.sites

-- ---- another state of words

foreign-worded : (S : LogState) (agents : ℕ → AgentState) (channel : Actor → Actor → List Letter) (G : History) (c : ℕ) (from : Actor) (l : Letter) → ForeignOk S c from l
    → ForeignOk (worded S agents channel G) c from l
foreign-worded S agents channel G c Director l k = k
foreign-worded S agents channel G c from l k = k

-- the agent of host n has taken the first message from this actor
abbrev pub agent_heard : LogState → Actor → ℕ → LogState
agent_heard S from n = record S { words = word_moves.agent_popped S.words from n }

pub rest-heard : (S : LogState) (from : Actor) (n : ℕ) → Rest S → Rest (agent_heard S from n)
rest-heard S from n r = let W = word_moves.agent_popped S.words from n in record {
  sites = sites-kept S W (λ c. (S.sites c).contents) (record { deployment = refl; between = λ i c. refl; grows = grows-same S.words.history }) r.sites;
  views = λ c. let h = host_of_slot S.words.deployment c in let i = views-in S c h refl (r.views c) in
      views-of (agent_heard S from n) c h (S.words.agents h) (agent_to_site S c) refl refl refl
      (views-later S S.words.agents W.channel S.words.history (grows-same S.words.history) c h (S.words.agents h) (S.words.agents h) (agent_to_site S c) i i.wordless i.below);
  foreign = λ a c. all-mono _ _ (λ l k. foreign-worded S S.words.agents W.channel S.words.history c a l k) (S.words.channel a (Site c)) (r.foreign a c);
  loads = loads-popped S from n r.loads;
}

-- What an agent has after its turn, and what it says.
pub record AgentTurn (S : LogState) (n : ℕ) (a : AgentState) (out : Sends) (G : History) : Type 0 where
  pub grows : Grows S.words.history G
  pub views : (c : ℕ) → host_of_slot S.words.deployment c ≡ n → ViewsIn (agent_turned S n a out G) c n a (S.words.channel (Agent n) (Site c) ++ out (Site c))
  pub foreign : (c : ℕ) → AllByRecursion (ForeignOk S c (Agent n)) (out (Site c))
  pub loads : LoadsTurn S n a out G

pub rest-turned : (S : LogState) (n : ℕ) (a : AgentState) (out : Sends) (G : History) → Rest S → AgentTurn S n a out G → Rest (agent_turned S n a out G)
rest-turned S n a out G r t = record {
  sites = sites-kept S T.words (λ c. (S.sites c).contents) (record { deployment = refl; between = λ i c. refl; grows = t.grows }) r.sites;
  views = λ c. views-turned S n a out G t.grows c (r.views c) (t.views c);
  foreign = λ from c. all-mono _ _ (λ l k. foreign-worded S T.words.agents T.words.channel G c from l k) (T.words.channel from (Site c)) (sent-by from c);
  loads = loads-turned S n a out G r.loads t.loads;
}
  where
    T : LogState
    T = agent_turned S n a out G

    sent-by : (from : Actor) (c : ℕ) → AllByRecursion (ForeignOk S c from) (T.words.channel from (Site c))
    sent-by (Agent g) c = sent-both (AllByRecursion (ForeignOk S c (Agent g))) S.words.channel n out g (Site c)
        (λ e. all-append (ForeignOk S c (Agent g)) (S.words.channel (Agent g) (Site c)) (out (Site c)) (r.foreign (Agent g) c)
        (subst (λ z. AllByRecursion (ForeignOk S c (Agent z)) (out (Site c))) e (t.foreign c)))
        (λ d. r.foreign (Agent g) c)
    sent-by from c = r.foreign from c

-- ---- turns

-- those who may be admitted
abbrev pub MayJoin : LogState → ℕ → ℕ → Type 0
MayJoin S j h = AllLoaded S h j

-- A turn of an agent that goes on or has stopped: what holds of words, and the rest.
pub record AgentHandler (S : LogState) (n : ℕ) (t : Turn AgentState) : Type 0 where
  pub handler : WordsTurn (MayJoin S) S.words n t
  pub rest : Rest (agent_turned S n t.state t.sends handler.history)

-- who is admitted in it
pub handler-admits : (S : LogState) (n : ℕ) (t : Turn AgentState) → Rest S → (r : WordsTurn (MayJoin S) S.words n t) → (x : Admitted) → In x r.history.admitted
    → AllLoaded S (S.words.owner x.start) x.start
handler-admits S n t r handler x i = elim (handler.admits x i) [ inl k ↦ r.loads.admitted x k | inr k ↦ k ]

-- neither a start nor a word
pub plain-foreign : (S : LogState) (c n : ℕ) (ls : List Letter) → AllByRecursion NoView ls → AllByRecursion (ForeignOk S c (Agent n)) ls
plain-foreign S c n ls k = all-mono NoView (ForeignOk S c (Agent n)) one ls k
  where
    one : (l : Letter) → NoView l → ForeignOk S c (Agent n) l
    one l p = elim l.body as (λ m. NoView (record l { body = m }) → ForeignOk S c (Agent n) (record l { body = m })) [
      | msg.Start s ↦ λ k. absurd k
      | msg.View w ↦ λ k. absurd k
      | msg.StreamStart head ↦ λ k. absurd k
      | m ↦ λ k. tt
    ] p

-- ---- one that says no word to a site

pub record PlainTurn (S : LogState) (n : ℕ) (t : Turn AgentState) : Type 0 where
  pub start : t.state.start ≡ (S.words.agents n).start
  pub decided : t.state.decided ≡ (S.words.agents n).decided
  pub taken : t.state.taken ≡ (S.words.agents n).taken
  pub sites : (c : ℕ) → AllByRecursion NoView (t.sends (Site c))
  pub asked : (g : ℕ) → AllByRecursion (AskedOk S (Agent n)) (t.sends (Agent g))
  pub heard : 0 < (S.words.agents n).start → (c : ℕ) → is_in c t.state.loaded ≡ true → LoadedOk S c (S.words.agents n).start
  pub waiting : AllByRecursion (λ x. AskedOk S x.from x.letter) t.state.waiting
  pub queued : AllByRecursion (QueuedLoadedOk S) t.state.initiating.queue

sent_term-same : (a b : AgentState) → b.decided ≡ a.decided → b.taken ≡ a.taken → sent_term b ≡ sent_term a
sent_term-same a b d t = ap (λ x. top x b.taken) d ∙ ap (top a.decided) t
  where
    top : Option Membership → Option Membership → ℕ
    top d t = elim d as (λ _. ℕ) [ Some w ↦ term_of w | None ↦ term_in t ]

pub plain-rest : (S : LogState) (n : ℕ) (t : Turn AgentState) (G : History) → Rest S → Grows S.words.history G
    → ((x : Admitted) → In x G.admitted → AllLoaded S (S.words.owner x.start) x.start)
    → PlainTurn S n t → Rest (agent_turned S n t.state t.sends G)
plain-rest S n t G r g admitted p = let T = agent_turned S n t.state t.sends G in rest-turned S n t.state t.sends G r (record {
  grows = g;
  views = λ c e. views-plainly T c n t.state (S.words.channel (Agent n) (Site c))
      (views-later S T.words.agents T.words.channel G g c n (S.words.agents n) t.state (S.words.channel (Agent n) (Site c)) (was c e) (unsent c e) (sent c e))
      (t.sends (Site c)) (p.sites c);
  foreign = λ c. plain-foreign S c n (t.sends (Site c)) (p.sites c);
  loads = record {
    heard = λ u c i. subst (LoadedOk S c) (sym p.start) (p.heard (subst (λ s. 0 < s) p.start u) c i);
    asked = p.asked;
    waiting = p.waiting;
    queued = p.queued;
    admitted = admitted;
  };
})
  where
    was : (c : ℕ) → host_of_slot S.words.deployment c ≡ n → ViewsIn S c n (S.words.agents n) (S.words.channel (Agent n) (Site c))
    was c e = views-in S c n e (r.views c)

    unsent : (c : ℕ) → host_of_slot S.words.deployment c ≡ n → 0 < t.state.start → t.state.taken ≡ None → t.state.decided ≡ None
        → Unsent S c t.state.start (S.words.channel (Agent n) (Site c))
    unsent c e u x d = subst (λ s. Unsent S c s (S.words.channel (Agent n) (Site c))) (sym p.start)
        ((was c e).wordless (subst (λ s. 0 < s) p.start u) (sym p.taken ∙ x) (sym p.decided ∙ d))

    sent : (c : ℕ) → host_of_slot S.words.deployment c ≡ n → 0 < t.state.start → SentUpTo S c t.state.start (sent_term t.state) (S.words.channel (Agent n) (Site c))
    sent c e u = rw (p.start, sent_term-same (S.words.agents n) t.state p.decided p.taken) ((was c e).below (subst (λ s. 0 < s) p.start u))

pub plain-agent : (S : LogState) (n : ℕ) (t : Turn AgentState) → Rest S → WordsTurn (MayJoin S) S.words n t → PlainTurn S n t → AgentHandler S n t
plain-agent S n t r handler p = record { handler = handler; rest = plain-rest S n t handler.history r (handler-grows handler) (handler-admits S n t r handler) p }

-- ---- one in which it stops

pub stopped-agent : (S : LogState) (n : ℕ) (t : Turn AgentState) → Rest S → WordsTurn (MayJoin S) S.words n t → t.state ≡ new_agent 0
    → ((c : ℕ) → AllByRecursion NoView (t.sends (Site c))) → ((g : ℕ) → AllByRecursion NoAdmit (t.sends (Agent g))) → AgentHandler S n t
stopped-agent S n t r handler z sites agents = let T = agent_turned S n t.state t.sends handler.history in record {
  handler = handler;
  rest = rest-turned S n t.state t.sends handler.history r (record {
    grows = handler-grows handler;
    views = λ c e. views-plainly T c n t.state (S.words.channel (Agent n) (Site c))
        (views-later S T.words.agents T.words.channel handler.history (handler-grows handler) c n (S.words.agents n) t.state (S.words.channel (Agent n) (Site c)) (views-in S c n e (r.views c))
        (λ u. absurd (off u)) (λ u. absurd (off u)))
        (t.sends (Site c)) (sites c);
    foreign = λ c. plain-foreign S c n (t.sends (Site c)) (sites c);
    loads = record {
      heard = λ u. absurd (off u);
      asked = λ g. all-mono NoAdmit (AskedOk S (Agent n)) (none-asked S n) (t.sends (Agent g)) (agents g);
      waiting = rw z tt;
      queued = rw z tt;
      admitted = handler-admits S n t r handler;
    };
  });
}
  where
    off : 0 < t.state.start → ⊥
    off u = let e : t.state.start ≡ 0 = ap (λ a. a.start) z in absurd (omega (arith, u, e))

-- ---- what follows a handler

-- the agent stays as it is
pub stay-plain : (S : LogState) (n : ℕ) → Rest S → PlainTurn S n (becomes (S.words.agents n))
stay-plain S n r = record {
  start = refl;
  decided = refl;
  taken = refl;
  sites = λ c. tt;
  asked = λ g. tt;
  heard = λ u c i. r.loads.heard n c u i;
  waiting = r.loads.waiting n;
  queued = r.loads.queued n;
}

pub stay-agent : (S : LogState) (n : ℕ) → word.WordsHold S.words → Rest S → 0 < word.agent_start S.words n → AgentHandler S n (becomes (S.words.agents n))
stay-agent S n h r up = plain-agent S n (becomes (S.words.agents n)) r (stay-handler S.words n (inl (refl, up)) h) (stay-plain S n r)

-- it says its word to the others
pub tells-plain : (S : LogState) (n : ℕ) (t : Turn AgentState) (before : Option Membership) → PlainTurn S n t → PlainTurn S n (t ▸ tells S.words.deployment n before)
tells-plain S n t before p = let calls = tells-says S.words.deployment n before t.state in let same = tells-state S.words.deployment n before t.state in record {
  start = ap (λ x. x.start) same ∙ p.start;
  decided = ap (λ x. x.decided) same ∙ p.decided;
  taken = ap (λ x. x.taken) same ∙ p.taken;
  sites = λ c. all-append NoView (t.sends (Site c)) ((tells S.words.deployment n before t.state).sends (Site c)) (p.sites c) (calls.sites c);
  asked = λ g. all-append (AskedOk S (Agent n)) (t.sends (Agent g)) ((tells S.words.deployment n before t.state).sends (Agent g)) (p.asked g)
      (all-mono NoAdmit (AskedOk S (Agent n)) (none-asked S n) ((tells S.words.deployment n before t.state).sends (Agent g)) (calls.agents g));
  heard = λ u c i. p.heard u c (subst (λ x. is_in c x ≡ true) calls.same i);
  waiting = rw same p.waiting;
  queued = rw same p.queued;
}

-- One turn, and then another one of an agent that goes on. One that has stopped does nothing then.
pub then-agent : (S : LogState) (n : ℕ) (t : Turn AgentState) (f : AgentState → Turn AgentState) (r : AgentHandler S n t) → f (new_agent 0) ≡ becomes (new_agent 0)
    → (let T = agent_turned S n t.state t.sends r.handler.history in word.WordsHold T.words → Rest T → 0 < word.agent_start T.words n → AgentHandler T n (f (T.words.agents n))) → AgentHandler S n (t ▸ f)
then-agent S n t f r silent g = let here = agent-there S.words n t.state t.sends r.handler.history in elim r.handler.goes [
  | inl q ↦ both (subst (λ z. AgentHandler T n (f z)) here (g r.handler.holds r.rest (subst (λ x. 0 < x) (sym (ap (λ x. x.start) here ∙ q.0)) q.1)))
  | inr z ↦ subst (AgentHandler S n) (sym (then-inert t f (ap f z ∙ silent ∙ ap becomes (sym z)))) r
]
  where
    T : LogState
    T = agent_turned S n t.state t.sends r.handler.history

    both : AgentHandler T n (f t.state) → AgentHandler S n (t ▸ f)
    both q = let k = after-handler S.words n t f r.handler q.handler in record {
      handler = k.0;
      rest = subst (λ G. Rest (agent_turned S n (f t.state).state (λ b. t.sends b ++ (f t.state).sends b) G)) (sym k.1)
          (subst (λ w. Rest (record S { words = w })) (after-after S.words n t.state (f t.state).state t.sends (f t.state).sends r.handler.history q.handler.history) q.rest);
    }
