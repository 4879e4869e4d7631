-- An agent starts, takes its first word as a joiner, or decides a word: what holds besides that of words, holds after it.
use Rattle.log_laws.proofs.Names.{◌≡◌, ◌<◌, ◌≤◌, Bool, true, false, List, [], ◌∷◌, ◌++◌, append_assoc, append-nil, refl, sym, subst, ap, ◌∙◌, ◌⊎◌, inl, inr, ◌==◌, arith, true≢false, and_parts, cases_Bool, eqb-true, ℕ, ◌&&◌, not, if◌then◌else◌, nat_lt, Some, None, AllByRecursion, Membership, Actor, Agent, Site, slots, host_of_slot, start_of, is_slot_of, is_in, is_down, term_of, Letter, Sends, Turn, becomes, ◌▸◌, open_letter, letter_to, AgentState, new_agent, initiates, takes_word, decides_word, may_decide, In, names, all-mono, all-append, some-here, none-and-some, in-none, is_member-start, WordsTurn, handler-grows, agent-there, decides-handler, with_began, start-grows, Decides, decides-state, decides-sends, may_decide-cases, tells-state, concludes, concludes-not, concludes-is, cond_both, LogState, LoadedOk, AskedOk, ForeignOk, sent_term, site_start, views}
use Rattle.volt_wire.specs.declared.message.Msg.TheVariants as msg
use Rattle.cluster_model.specs.Agent.{asks_again, asked_again}
use Rattle.word_laws.proofs.Turns.{IsRequest, request-cases, asks_again-requests, DecidedOrRequest}
use Rattle.word_laws.specs.Histories as word
use Rattle.word_laws.proofs.Turns.{tells}
use Rattle.log_laws.proofs.Agents.AgentSends.{NoView, NoAdmit, Tells, tells-says}
use Rattle.log_laws.proofs.Agents.Decided.{decides-above}
use Rattle.log_laws.proofs.Agents.Views.{agent_turned, Unsent, SentUpTo, ViewsIn, views-in, views-later, views-plainly, views-start, views-next}
use Rattle.log_laws.proofs.Agents.Admits.{none-asked}
use Rattle.log_laws.proofs.Agents.AgentTurns.{Rest, MayJoin, AgentHandler, rest-turned, plain-foreign, handler-admits, stay-agent}
use Rattle.log_laws.proofs.Plain.{none-or-some}

-- a slot of a host
slot-host : (S : LogState) (n c : ℕ) → is_slot_of S.words.deployment n c ≡ true → host_of_slot S.words.deployment c ≡ n
slot-host S n c e = eqb-true (host_of_slot S.words.deployment c) n (and_parts (nat_lt c (slots S.words.deployment)) (host_of_slot S.words.deployment c == n) e).1

-- a site that runs with a start has run with it
ran-with : (S : LogState) (c s : ℕ) → Rest S → 0 < s → site_start S c ≡ s → In s (S.logs.ran c)
ran-with S c s r up e = let k = (r.sites.sites c).ran (subst (λ x. 0 < x) (sym e) up) in subst (In s) (sym k.1) (inl e)

-- the start that runs has begun
has-begun : (S : LogState) (n : ℕ) → word.WordsHold S.words → 0 < word.agent_start S.words n → In (word.agent_start S.words n) (S.words.history.began n)
has-begun S n h up = let k = (h.hosts n).last up in subst (In (word.agent_start S.words n)) (sym k.1) (inl refl)

-- what is known of the agent after its turn
agent-ok : (S : LogState) (n : ℕ) (t : Turn AgentState) (handler : WordsTurn (MayJoin S) S.words n t) → word.AgentOk (agent_turned S n t.state t.sends handler.history).words n t.state
agent-ok S n t handler = subst (word.AgentOk (agent_turned S n t.state t.sends handler.history).words n) (agent-there S.words n t.state t.sends handler.history) (handler.holds.agents n)

-- ---- a joiner takes its first word

module _ (S : LogState) (n : ℕ) (w : Membership) (h : word.WordsHold S.words) (r : Rest S) (up : 0 < word.agent_start S.words n)
    (decided : (S.words.agents n).decided ≡ None) (taken : (S.words.agents n).taken ≡ None) where
  abbrev a : AgentState
  a = S.words.agents n

  abbrev joiner : AgentState
  joiner = record a { own = Some w; taken = Some w }

  -- it says no other word to its sites behind that
  abbrev takes : Turn AgentState
  takes = record { state = joiner; sends = λ b. (takes_word S.words.deployment n a w).sends b ++ (tells S.words.deployment n a.own joiner).sends b }

  takes-is : takes_word S.words.deployment n a w ▸ tells S.words.deployment n a.own ≡ takes
  takes-is = ap {A = AgentState} {B = Turn AgentState} (λ x. record { state = x; sends = takes.sends }) (tells-state S.words.deployment n a.own joiner)

  calls : Tells a.loaded (tells S.words.deployment n a.own joiner)
  calls = tells-says S.words.deployment n a.own joiner

  abbrev ls : ℕ → List Letter
  ls c = S.words.channel (Agent n) (Site c)

  -- what goes to a site of its own
  abbrev first : List Letter
  first = open_letter (msg.Start a.start) ∷ letter_to a.start (msg.View w) ∷ []

  foreign : (c : ℕ) (b : Bool) → is_slot_of S.words.deployment n c ≡ b → AllByRecursion (ForeignOk S c (Agent n)) (if b then first else [])
  foreign c true e = let q = sym (slot-host S n c e) in (q, (q, tt))
  foreign c false e = tt

  none : (c : ℕ) → host_of_slot S.words.deployment c ≡ n → Unsent S c a.start (ls c)
  none c e = (views-in S c n e (r.views c)).wordless up taken decided

  other : (c : ℕ) → host_of_slot S.words.deployment c ≡ n → site_start S c ≡ a.start → ⊥
  other c e q = (none c e).1 (ran-with S c a.start r up q)

  module _ (handler : WordsTurn (MayJoin S) S.words n takes) where
    abbrev T : LogState
    T = agent_turned S n joiner takes.sends handler.history

    before : (c : ℕ) → host_of_slot S.words.deployment c ≡ n → ViewsIn T c n joiner (ls c)
    before c e = views-later S T.words.agents T.words.channel handler.history (handler-grows handler) c n a joiner (ls c) (views-in S c n e (r.views c))
        (λ u t d. absurd (none-and-some t refl))
        (λ u. (subst (AllByRecursion (λ v. term_of v ≤ sent_term joiner)) (sym (none c e).2) tt, λ q. absurd (other c e q)))

    started : (c : ℕ) → host_of_slot S.words.deployment c ≡ n → (b : Bool) → ViewsIn T c n joiner (ls c ++ ((if b then first else []) ++ (tells S.words.deployment n a.own joiner).sends (Site c)))
    started c e false = views-plainly T c n joiner (ls c) (before c e) ((tells S.words.deployment n a.own joiner).sends (Site c)) (calls.sites c)
    started c e true = subst (ViewsIn T c n joiner) (append_assoc (ls c) first ((tells S.words.deployment n a.own joiner).sends (Site c)))
        (views-plainly T c n joiner (ls c ++ first)
        (views-start T c n joiner (ls c) (before c e) w up (none c e) ((handler-grows handler).began n a.start (has-begun S n h up)) (agent-ok S n takes handler).taken.0 refl
        (rw decided refl) (other c e))
        ((tells S.words.deployment n a.own joiner).sends (Site c)) (calls.sites c))

    rest : Rest T
    rest = rest-turned S n joiner takes.sends handler.history r (record {
      grows = handler-grows handler;
      views = λ c e. started c e (is_slot_of S.words.deployment n c);
      foreign = λ c. all-append (ForeignOk S c (Agent n)) (if is_slot_of S.words.deployment n c then first else []) ((tells S.words.deployment n a.own joiner).sends (Site c))
          (foreign c (is_slot_of S.words.deployment n c) refl) (plain-foreign S c n ((tells S.words.deployment n a.own joiner).sends (Site c)) (calls.sites c));
      loads = record {
        heard = λ u c i. r.loads.heard n c up i;
        asked = λ g. all-mono NoAdmit (AskedOk S (Agent n)) (none-asked S n) ((tells S.words.deployment n a.own joiner).sends (Agent g)) (calls.agents g);
        waiting = r.loads.waiting n;
        queued = r.loads.queued n;
        admitted = handler-admits S n takes r handler;
      };
    })

  pub takes-agent : WordsTurn (MayJoin S) S.words n (takes_word S.words.deployment n a w ▸ tells S.words.deployment n a.own) → AgentHandler S n (takes_word S.words.deployment n a w ▸ tells S.words.deployment n a.own)
  takes-agent handler = let k = subst (WordsTurn (MayJoin S) S.words n) takes-is handler in subst (AgentHandler S n) (sym takes-is) (record { handler = k; rest = rest k })

-- ---- a member decides its word

module _ (S : LogState) (n : ℕ) (v : Membership) (h : word.WordsHold S.words) (r : Rest S) (up : 0 < word.agent_start S.words n)
    (own : (S.words.agents n).own ≡ Some v) (may : may_decide n (S.words.agents n) (Some v) ≡ true) where
  abbrev was : AgentState
  was = S.words.agents n

  abbrev decides : Turn AgentState
  decides = decides_word S.words.deployment n was (Some v)

  state : Decides n was v decides.state
  state = decides-state S.words.deployment n was v

  -- its sites that have loaded stay
  same-loaded : decides.state.loaded ≡ was.loaded
  same-loaded = cond_both (initiates n was (Some v)) _ _ (λ (z : AgentState). z.loaded ≡ was.loaded) (λ _. refl) (λ _. refl)
    where
      decided : AgentState
      decided = record was { decided = Some v; pending = asked_again S.words.deployment v was.pending }

  abbrev channel-to : ℕ → List Letter
  channel-to c = S.words.channel (Agent n) (Site c)

  -- the calls that it asks again for
  abbrev again : Actor → List Letter
  again b = asks_again S.words.deployment was.start v was.pending b

  again-all : (P : Letter → Type 0) (b : Actor) → ((l : Letter) (call start client : ℕ) (body : List ℕ) → P (record l { body = msg.SpCall call start client body }))
      → ((l : Letter) (call start client : ℕ) (body : List ℕ) → P (record l { body = msg.MpCall call start client body })) → AllByRecursion P (again b)
  again-all P b sp mp = all-mono IsRequest P (request-cases P sp mp) (again b) (asks_again-requests S.words.deployment was.start v was.pending b)

  abbrev viewed : ℕ → List Letter
  viewed c = if is_slot_of S.words.deployment n c && not (is_down S.words.deployment v) then letter_to was.start (msg.View v) ∷ [] else []

  to-site : (c : ℕ) (b : Bool) → (is_slot_of S.words.deployment n c && not (is_down S.words.deployment v)) ≡ b
      → AllByRecursion (ForeignOk S c (Agent n)) (if b then letter_to was.start (msg.View v) ∷ [] else [])
  to-site c true e = (sym (slot-host S n c (and_parts (is_slot_of S.words.deployment n c) (not (is_down S.words.deployment v)) e).0), tt)
  to-site c false e = tt

  module _ (handler : WordsTurn (MayJoin S) S.words n decides) where
    abbrev U : LogState
    U = agent_turned S n decides.state decides.sends handler.history

    is : In v U.words.history.decided
    is = (some-here (λ x. In x U.words.history.decided × (names x decides.state.start ≡ true)) decides.state.decided v state.decided (agent-ok S n decides handler).decided).0

    above : sent_term was < term_of v
    above = decides-above S.words U.words h handler.holds n v up own may is handler.decided handler.took_word

    top : sent_term decides.state ≡ term_of v
    top = rw (state.decided, sent_term) refl

    sent : (c : ℕ) → host_of_slot S.words.deployment c ≡ n → SentUpTo S c was.start (sent_term was) (channel-to c)
    sent c e = (views-in S c n e (r.views c)).below up

    higher : (c : ℕ) → host_of_slot S.words.deployment c ≡ n → SentUpTo S c was.start (sent_term decides.state) (channel-to c)
    higher c e = let k = sent c e in (
      all-mono (λ w. term_of w ≤ sent_term was) (λ w. term_of w ≤ sent_term decides.state) (λ w l. omega (arith, l, above, top)) _ k.0,
      λ q. omega (arith, k.1 q, above, top),
    )

    kept : (c : ℕ) → host_of_slot S.words.deployment c ≡ n → ViewsIn U c n decides.state (channel-to c)
    kept c e = views-later S U.words.agents U.words.channel handler.history (handler-grows handler) c n was decides.state (channel-to c) (views-in S c n e (r.views c))
        (λ u t d. absurd (none-and-some d state.decided))
        (λ u. subst (λ s. SentUpTo S c s (sent_term decides.state) (channel-to c)) (sym state.start) (higher c e))

    seen : (c : ℕ) → host_of_slot S.words.deployment c ≡ n → (b : Bool) → ViewsIn U c n decides.state (channel-to c ++ (if b then letter_to was.start (msg.View v) ∷ [] else []))
    seen c e false = subst (ViewsIn U c n decides.state) (sym (append-nil (channel-to c))) (kept c e)
    seen c e true = subst (λ s. ViewsIn U c n decides.state (channel-to c ++ letter_to s (msg.View v) ∷ [])) state.start
        (views-next U c n decides.state (channel-to c) (kept c e) v (sent_term was) (rw state.start up) is
        (rw state.start (ap (start_of v) e ∙ is_member-start v n was.start (may_decide-cases n was v may).0))
        (rw state.start ((handler-grows handler).began n was.start (has-begun S n h up))) state.decided
        (subst (λ s. SentUpTo S c s (sent_term was) (channel-to c)) (sym state.start) (sent c e)) above)

    pub decides-rest : Rest U
    decides-rest = rest-turned S n decides.state decides.sends handler.history r (record {
      grows = handler-grows handler;
      views = λ c e. subst (ViewsIn U c n decides.state) (append_assoc (channel-to c) (viewed c) (again (Site c)))
          (views-plainly U c n decides.state (channel-to c ++ viewed c) (seen c e (is_slot_of S.words.deployment n c && not (is_down S.words.deployment v))) (again (Site c))
          (again-all NoView (Site c) (λ l call start client body. tt) (λ l call start client body. tt)));
      foreign = λ c. all-append (ForeignOk S c (Agent n)) (viewed c) (again (Site c)) (to-site c (is_slot_of S.words.deployment n c && not (is_down S.words.deployment v)) refl)
          (again-all (ForeignOk S c (Agent n)) (Site c) (λ l call start client body. tt) (λ l call start client body. tt));
      loads = record {
        heard = λ u c i. subst (LoadedOk S c) (sym state.start) (r.loads.heard n c up (subst (λ x. is_in c x ≡ true) same-loaded i));
        asked = λ g. all-mono (DecidedOrRequest v) (AskedOk S (Agent n)) (λ l e. elim e [
          | inl i ↦ subst (AskedOk S (Agent n)) (sym i) tt
          | inr r ↦ request-cases (AskedOk S (Agent n)) (λ l call start client body. tt) (λ l call start client body. tt) l r
        ]) (decides.sends (Agent g)) (decides-sends S.words.deployment n was v g);
        waiting = rw state.waiting (r.loads.waiting n);
        queued = rw state.queue (r.loads.queued n);
        admitted = handler-admits S n decides r handler;
      };
    })

-- It decides its word, or goes on as it was.
pub concludes-agent : (S : LogState) (n : ℕ) → word.WordsHold S.words → Rest S → 0 < word.agent_start S.words n → AgentHandler S n (concludes S.words.deployment n (S.words.agents n))
concludes-agent S n h r up = elim (none-or-some (S.words.agents n).own) [
  | inl e ↦ stays (concludes-not S.words.deployment n (S.words.agents n) (ap (λ z. may_decide n (S.words.agents n) z) e))
  | inr (v, e) ↦ elim (cases_Bool (may_decide n (S.words.agents n) (Some v))) [
    | inl m ↦
        let handler = decides-handler S.words h n S.words.deployment up v e m in
        subst (AgentHandler S n)
        (sym (concludes-is S.words.deployment n (S.words.agents n) (ap (λ z. may_decide n (S.words.agents n) z) e ∙ m) ∙ ap
        (decides_word S.words.deployment n (S.words.agents n)) e))
        (record { handler = handler; rest = decides-rest S n v h r up e m handler })
    | inr m ↦ stays (concludes-not S.words.deployment n (S.words.agents n) (ap (λ z. may_decide n (S.words.agents n) z) e ∙ m))
  ]
]
  where
    stays : concludes S.words.deployment n (S.words.agents n) ≡ becomes (S.words.agents n) → AgentHandler S n (concludes S.words.deployment n (S.words.agents n))
    stays e = subst (AgentHandler S n) (sym e) (stay-agent S n h r up)

-- ---- an agent starts

-- The stopped agent of host n takes a start that hasn't begun. It runs with it, or stops at once.
module _ (S : LogState) (n s k : ℕ) (out : Sends) (r : Rest S) (some : 0 < s) (fresh : In s (S.words.history.began n) → ⊥) (goes : (k ≡ s) ⊎ (k ≡ 0))
    (sites : (c : ℕ) → AllByRecursion NoView (out (Site c))) (agents : (g : ℕ) → AllByRecursion NoAdmit (out (Agent g))) where
  -- the state after it
  abbrev V : LogState
  V = agent_turned S n (new_agent k) out (with_began S.words.history n s)

  goes-on : 0 < k → k ≡ s
  goes-on u = elim goes [ inl e ↦ e | inr z ↦ absurd (omega (arith, u, z)) ]

  -- nothing was sent by it
  unsent : (c : ℕ) → host_of_slot S.words.deployment c ≡ n → Unsent S c s (S.words.channel (Agent n) (Site c))
  unsent c e = let v = views-in S c n e (r.views c) in (
    λ i. fresh (v.began s (inl i)),
    λ i. fresh (v.began s (inr (inl i))),
    in-none (views s (S.words.channel (Agent n) (Site c))) (λ w i. fresh (v.began s (inr (inr (w, i))))),
  )

  pub begins-rest : Rest V
  begins-rest = rest-turned S n (new_agent k) out (with_began S.words.history n s) r (record {
    grows = start-grows S.words.history n s;
    views = λ c e. views-plainly V c n (new_agent k) (S.words.channel (Agent n) (Site c))
        (views-later S V.words.agents V.words.channel V.words.history (start-grows S.words.history n s) c n (S.words.agents n) (new_agent k) (S.words.channel (Agent n) (Site c))
        (views-in S c n e (r.views c))
        (λ u t d. subst (λ x. Unsent S c x (S.words.channel (Agent n) (Site c))) (sym (goes-on u)) (unsent c e))
        (λ u. subst (λ x. SentUpTo S c x 0 (S.words.channel (Agent n) (Site c))) (sym (goes-on u))
        (subst (AllByRecursion (λ w. term_of w ≤ 0)) (sym (unsent c e).2) tt, λ q. absurd ((unsent c e).1 (ran-with S c s r some q)))))
        (out (Site c)) (sites c);
    foreign = λ c. plain-foreign S c n (out (Site c)) (sites c);
    loads = record {
      heard = λ u c i. absurd (true≢false (sym i));
      asked = λ g. all-mono NoAdmit (AskedOk S (Agent n)) (none-asked S n) (out (Agent g)) (agents g);
      waiting = tt;
      queued = tt;
      admitted = r.loads.admitted;
    };
  })
