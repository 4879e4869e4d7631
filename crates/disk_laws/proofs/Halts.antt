-- After a recovery that was stopped nobody serves until one works: no agent has decided a word, and no site leads.
use Rattle.disk_laws.proofs.Names.{◌≡◌, ◌<◌, Bool, true, false, List, refl, sym, subst, ap, ◌∙◌, ◌⊎◌, inl, inr, ◌==◌, arith, and_from, eq-eqb, ℕ, ◌||◌, Option, Some, None, AllByRecursion, list_any, Membership, Actor, Site, Deployment, host_of_slot, start_of_slot, is_slot_of, admits, Letter, Sends, Turn, AgentState, SiteState, Joining, Streamed, leads, In, Admitted, Unnamed, names, all-at, all-from, all-append, some-here, same-some, none-and-some, not-both, set-here, set-both, unnamed-not, agent-there, at-good, initiator-named, member-is, LogState, Logs, LogsHold, JoinerOk, StreamIn, ViewIn, RunViews, SiteLetterOk, IsSlot, site_start, between, agent_to_site, views, after_site, sent-either, AgentGoes, leader-view, leads-parts, took-not-named, leads-runs, Halted}
use Rattle.volt_wire.specs.declared.message.Msg.TheVariants as msg
use Rattle.word_laws.specs.Histories as word
use Rattle.word_laws.proofs.Moves as word_moves

-- ---- a joiner that has no stream

-- no stream for this start begins with a message
abbrev pub NoStreamFor : ℕ → Letter → Type 0
NoStreamFor start l = elim l.body as (λ _. Type 0) [ msg.StreamStart head ↦ l.start ≡ start → ⊥ | _ ↦ Unit {0} ]

-- It has loaded nothing.
unloaded : (S : LogState) (c : ℕ) (j : Joining) → JoinerOk S c j → j.stream ≡ None → j.is_loaded ≡ false
unloaded S c j k none = seen (S.sites c).view k.view
  where
    streamed : (w : Membership) (o : Option Streamed) → o ≡ None → StreamIn S c w j o → j.is_loaded ≡ false
    streamed w None e k = k.loads
    streamed w (Some st) e k = absurd (none-and-some e refl)

    seen : (o : Option Membership) → ViewIn S c j o → j.is_loaded ≡ false
    seen None k = k.loads
    seen (Some w) k = streamed w j.stream none k.stream

module _ (S : LogState) (H : LogsHold S) (c : ℕ) (slot : IsSlot S c) (up : 0 < site_start S c) (j : Joining) (joins : (S.sites c).joining ≡ Some j) (none : j.stream ≡ None) where
  abbrev a : ℕ
  a = site_start S c

  joiner : JoinerOk S c j
  joiner = (H.sites c).joiner j joins

  -- its start took a word
  took : (w : Membership) × (S.words.history.took a ≡ Some w)
  took = seen (S.sites c).view joiner.view ((H.views c).running up)
    where
      seen : (o : Option Membership) → ViewIn S c j o → RunViews S c o (views a (agent_to_site S c)) → (w : Membership) × (S.words.history.took a ≡ Some w)
      seen None k r = (r.first, r.took)
      seen (Some w) k r = (w, k.took)

  -- it is of its host
  owned : S.words.owner a ≡ host_of_slot S.words.deployment c
  owned =
      let ran = (H.sites c).ran up in
      let began = (H.views c).began a (inr (inl (subst (In a) (sym ran.1) (inl refl)))) in
      (all-at (λ x. (S.words.owner x ≡ host_of_slot S.words.deployment c) × (0 < x) × (x < S.words.next)) (S.words.history.began (host_of_slot S.words.deployment c))
      (H.words.hosts (host_of_slot S.words.deployment c)).began a began).0

  -- So no word names it.
  pub joiner-unnamed : Unnamed S.words a
  joiner-unnamed = record {
    not_first = first (list_any (λ m. m.1 == a) S.words.history.first.first) refl;
    not_admitted = λ x i e. not-both j.is_loaded (joiner.based (based x i e)) (unloaded S c j joiner none);
  }
    where
      first : (b : Bool) → list_any (λ m. m.1 == a) S.words.history.first.first ≡ b → b ≡ false
      first false e = refl
      first true e =
          let good = H.words.history.decided_good took.0 (H.words.history.took_ok a took.0 took.1).0 in
          let named : names took.0 a ≡ true = ap (λ F. list_any (λ m. m.1 == a) F || admits took.0 a) good.first ∙ ap (λ b. b || admits took.0 a) e in
          absurd (took-not-named S H a took.0 took.1 named)

      based : (x : Admitted) → In x S.words.history.admitted → x.start ≡ a → j.is_based ≡ true
      based x i e =
          let here : is_slot_of S.words.deployment (S.words.owner x.start) c ≡ true =
          and_from _ (host_of_slot S.words.deployment c == S.words.owner x.start) slot (eq-eqb _ _ (sym (ap S.words.owner e ∙ owned))) in
          (H.loads.admitted x i c here).1 up (sym e) j joins

-- ---- a turn of an agent

module _ (S : LogState) (K : Halted S) (n : ℕ) (from : Actor) (t : Turn AgentState) (r : AgentGoes S n from t) where
  -- the state after it
  abbrev pub T : LogState
  T = record S { words = word_moves.after_agent (word_moves.agent_popped S.words from n) n t.state t.sends r.history }

  -- its start is named by no word still: none but itself could have admitted it
  own-unnamed : 0 < word.agent_start S.words n → Unnamed T.words (word.agent_start S.words n)
  own-unnamed up = record {
    not_first = ap (λ F. list_any (λ m. m.1 == word.agent_start S.words n) F.first) r.grows.first ∙ (K.unnamed n up).0;
    not_admitted = λ x i e. elim (r.by x i) [
      | inl old ↦ (K.unnamed n up).1 x old e
      | inr new ↦ not-both (names x.at x.start) (subst (λ s. names x.at s ≡ true) (new.0 ∙ sym e) (initiator-named T.words r.holds.words.history x i))
          (r.holds.words.history.admitted_ok x i).fresh
    ];
  }

  -- so it admits nobody
  none-admitted : (x : Admitted) → In x r.history.admitted → In x S.words.history.admitted
  none-admitted x i = elim (r.by x i) [
    | inl old ↦ old
    | inr new ↦ absurd (unnamed-not T.words (word.agent_start S.words n) x.at (at-good T.words r.holds.words.history x i)
        (subst (λ s. names x.at s ≡ true) new.0 (initiator-named T.words r.holds.words.history x i)) (own-unnamed new.1))
  ]

  still-unnamed : (h : ℕ) → 0 < (T.words.agents h).start → Unnamed T.words (T.words.agents h).start
  still-unnamed = set-both (λ h a. 0 < a.start → Unnamed T.words a.start) S.words.agents n t.state own (λ h other up. record {
    not_first = ap (λ F. list_any (λ m. m.1 == (S.words.agents h).start) F.first) r.grows.first ∙ (K.unnamed h up).0;
    not_admitted = λ x i e. (K.unnamed h up).1 x (none-admitted x i) e;
  })
    where
      here : T.words.agents n ≡ t.state
      here = agent-there (word_moves.agent_popped S.words from n) n t.state t.sends r.history

      own : 0 < t.state.start → Unnamed T.words t.state.start
      own up = elim r.goes [
        | inl same ↦ subst (Unnamed T.words) (sym same) (own-unnamed (subst (λ s. 0 < s) same up))
        | inr none ↦ subst (λ a. Unnamed T.words a.start) here
            ((r.holds.words.agents n).alone (subst (λ a. 0 < a.start) (sym here) up) (ap (λ a. a.own) here ∙ none)).0
      ]

  still-undecided : (h : ℕ) → (T.words.agents h).decided ≡ None
  still-undecided h = go (T.words.agents h).decided refl
    where
      go : (o : Option Membership) → (T.words.agents h).decided ≡ o → o ≡ None
      go None e = refl
      go (Some w) e =
          let s = (T.words.agents h).start in
          let k = some-here (λ w. In w r.history.decided × (names w s ≡ true)) (T.words.agents h).decided w e (r.holds.words.agents h).decided in
          let good = r.holds.words.history.decided_good w k.0 in
          absurd (unnamed-not T.words s w good k.1 (still-unnamed h (good.named_begun s k.1).some))

  pub halted-agent : Halted T
  halted-agent = record {
    decided = still-undecided;
    unnamed = λ h up. let u = still-unnamed h up in (u.not_first, u.not_admitted);
    joiners = K.joiners;
    streams = K.streams;
  }

-- ---- a turn of a site

-- The site of slot i has stopped; or it goes on, with a stream only if it had one; or it begins as a joiner.
abbrev pub SiteGoes : LogState → ℕ → SiteState → Type 0
SiteGoes S i s =
    (s.start ≡ 0)
    ⊎ ((s.start ≡ site_start S i) × ((k : Joining) → s.joining ≡ Some k → (j : Joining) × ((S.sites i).joining ≡ Some j) × (k.stream ≡ j.stream)))
    ⊎ (((j : Joining) × (s.joining ≡ Some j) × (j.stream ≡ None)) × (In s.start (S.logs.ran i) → ⊥))

-- Only one that leads begins a stream.
abbrev pub LeadersBegin : Deployment → ℕ → SiteState → Letter → Type 0
LeadersBegin D i s l = elim l.body as (λ _. Type 0) [ msg.StreamStart head ↦ leads D i s ≡ true | _ ↦ Unit {0} ]

module _ (S : LogState) (H : LogsHold S) (K : Halted S) (ch : Actor → Actor → List Letter)
    (fewer : (a b : Actor) (l : Letter) → In l (ch a b) → In l (S.words.channel a b)) (i : ℕ) (slot : IsSlot S i) (s : SiteState) (out : Sends) (G : Logs) where
  -- with fewer messages under way
  abbrev less : LogState
  less = record S { words = record S.words { channel = ch } }

  abbrev later : LogState
  later = after_site less i s out G

  module _ (L : LogsHold later) (goes : SiteGoes S i s) (begins : (c : ℕ) → AllByRecursion (LeadersBegin S.words.deployment i s) (out (Site c))) where
    site : later.sites i ≡ s
    site = set-here S.sites i s

    -- one that goes on as a member would be named by a word
    not-member : 0 < s.start → s.start ≡ site_start S i → s.joining ≡ None → ⊥
    not-member up same none =
        let j = K.joiners i (subst (λ n. 0 < n) same up) in
        let m = (L.sites i).member (subst (λ x. 0 < x.start) (sym site) up) (ap (λ x. x.joining) site ∙ none) in
        let good = H.words.history.decided_good m.0 m.2.decided in
        let start : start_of_slot S.words.deployment m.0 i ≡ Some (site_start S i) = m.2.start_is ∙ ap Some (ap (λ x. x.start) site ∙ same) in
        unnamed-not S.words (site_start S i) m.0 good (member-is S.words H.words.history m.0 (host_of_slot S.words.deployment i) (site_start S i) good start).0
        (joiner-unnamed S H i slot (subst (λ n. 0 < n) same up) j.0 j.1 j.2)

    goes-joins : 0 < s.start → (j : Joining) × (s.joining ≡ Some j) × (j.stream ≡ None)
    goes-joins up = elim goes [ inl z ↦ absurd (omega (arith, up, z)) | inr (inl k) ↦ on s.joining refl k.0 k.1 | inr (inr k) ↦ k.0 ]
      where
        on : (o : Option Joining) → s.joining ≡ o → s.start ≡ site_start S i
            → ((k : Joining) → s.joining ≡ Some k → (j : Joining) × ((S.sites i).joining ≡ Some j) × (k.stream ≡ j.stream))
            → (j : Joining) × (s.joining ≡ Some j) × (j.stream ≡ None)
        on None e same k = absurd (not-member up same e)
        on (Some j) e same k =
            let was = K.joiners i (subst (λ n. 0 < n) same up) in
            let m = k j e in
            (j, e, m.2 ∙ ap (λ x. x.stream) (same-some (sym m.1 ∙ was.1)) ∙ was.2)

    -- So it doesn't lead.
    none-leads : leads S.words.deployment i s ≡ true → ⊥
    none-leads e =
        let up = leads-runs later L i (subst (λ x. leads S.words.deployment i x ≡ true) (sym site) e) in
        let j = goes-joins (subst (λ x. 0 < x.start) site up) in
        none-and-some (leader-view S.words.deployment i s (leads-parts S.words.deployment i s e).0).0 j.1

    -- what was under way
    old-streams : (c m : ℕ) → 0 < site_start later c → AllByRecursion (NoStreamFor (site_start later c)) (ch (Site m) (Site c))
    old-streams c m up = set-both (λ c x. 0 < x.start → AllByRecursion (NoStreamFor x.start) (ch (Site m) (Site c))) S.sites i s own
        (λ c other up. still c (site_start S c) (K.streams c m up))
        c up
      where
        -- of fewer messages
        still : (c start : ℕ) → AllByRecursion (NoStreamFor start) (between S m c) → AllByRecursion (NoStreamFor start) (ch (Site m) (Site c))
        still c start k = all-from (NoStreamFor start) (ch (Site m) (Site c)) (λ l q. all-at (NoStreamFor start) (between S m c) k l (fewer (Site m) (Site c) l q))

        unran : (l : Letter) → (In s.start (S.logs.ran i) → ⊥) → SiteLetterOk S m i l → NoStreamFor s.start l
        unran l fresh k = elim l.body as (λ b. SiteLetterOk S m i (record l { body = b }) → NoStreamFor s.start (record l { body = b })) [
          | msg.StreamStart head ↦ λ k e. fresh (subst (λ n. In n (S.logs.ran i)) e k.1)
          | b ↦ λ k. tt
        ] k

        own : 0 < s.start → AllByRecursion (NoStreamFor s.start) (ch (Site m) (Site i))
        own up = elim goes [
          | inl z ↦ absurd (omega (arith, up, z))
          | inr (inl k) ↦ still i s.start (subst (λ n. AllByRecursion (NoStreamFor n) (between S m i)) (sym k.0) (K.streams i m (subst (λ n. 0 < n) k.0 up)))
          | inr (inr k) ↦ all-from (NoStreamFor s.start) (ch (Site m) (Site i)) (λ l q.
              unran l k.1 (all-at (SiteLetterOk S m i) (between S m i) (H.letters m i slot) l (fewer (Site m) (Site i) l q)))
        ]

    -- what it sends
    new-streams : (c start : ℕ) → AllByRecursion (NoStreamFor start) (out (Site c))
    new-streams c start = all-from (NoStreamFor start) (out (Site c)) (λ l k. none l (all-at (LeadersBegin S.words.deployment i s) (out (Site c)) (begins c) l k))
      where
        none : (l : Letter) → LeadersBegin S.words.deployment i s l → NoStreamFor start l
        none l k = elim l.body as (λ b. LeadersBegin S.words.deployment i s (record l { body = b }) → NoStreamFor start (record l { body = b })) [
          | msg.StreamStart head ↦ λ k. absurd (none-leads k)
          | b ↦ λ k. tt
        ] k

    -- All stays stopped in a turn of a site.
    pub halted-site : Halted later
    halted-site = record {
      decided = K.decided;
      unnamed = K.unnamed;
      joiners = set-both (λ c x. 0 < x.start → (j : Joining) × (x.joining ≡ Some j) × (j.stream ≡ None)) S.sites i s goes-joins (λ c other up. K.joiners c up);
      streams = λ c m up. sent-either less i s out G (λ j ls. AllByRecursion (NoStreamFor (site_start later c)) ls) (Site c)
          (all-append (NoStreamFor (site_start later c)) (ch (Site i) (Site c)) (out (Site c)) (old-streams c i up) (new-streams c (site_start later c)))
          (λ j other. old-streams c j up) m;
    }
