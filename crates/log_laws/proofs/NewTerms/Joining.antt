-- A joiner takes its word, which doesn't count it: it asks its partition's leader to join.
use Rattle.log_laws.proofs.Names.{◌≡◌, ◌<◌, Bool, true, false, List, [], ◌∷◌, ◌++◌, append-nil, refl, sym, subst, ap, ◌∙◌, ◌⊎◌, inl, inr, ◌==◌, arith, cases_eq, eqb-true, eqb-false, ℕ, ◌≤◌, filter, if◌then◌else◌, Option, Some, None, length, AllByRecursion, Membership, Actor, Agent, Site, Deployment, term_of, term_in, leader, same, Letter, Sends, Waiting, letter_in, sending, SiteState, Joining, Joiner, site_term, start_in_view, in_new_term, asks_to_join, sent, In, none-and-some, same-some, not-both, all-at, all-filter, in-cases, in-none, in-map-from, in-filter, only-one, set-here, set-there, set-both, same-true, leader-view, flat_map-append, cond_both, LogState, LogsHold, IsSlot, Inert, Untaken, Wordless, InWord, StreamIn, JoinerOk, SiteOk, ViewIn, SiteLetterOk, SiteWaitingFrom, SiteWaitingOk, AsksToJoin, HeldOk, CountedOk, ForeignOk, line_of, flow_of, end_of, part, site_start, term_at, between, line, flow, stream_ends_in, ask_in, ask_of, asks_in, wait_of, asks_waiting, asks_kept, asks_of_term, asked, follows, log_at}
use Rattle.volt_wire.specs.declared.message.Msg.TheVariants as msg
use Rattle.log_laws.proofs.Kept.{after_site, site_popped, LogsLater, Turns, NoStreamStart, grown-same, enters-same, ask-later, same-leaderships, leaderships-later, unleds-later, AtMost, at-most-same, at-most-none, running-slot, took-decided, some-term, some-start, still-same, member-keeps, words-after, words-popped, site_turned, turned-later, turned-holds, fresh-keeps, said-same, entereds-later, asked_of, asks-moved, keeps-less}
use Rattle.log_laws.proofs.Kept.Turned.{Turned}
use Rattle.log_laws.proofs.Plain.{flat-in, asks-here, if-none, follows-leader, leader-follows, leader-copy, start-in-view, flat-none, flat-same, if-empty, none-or-some}
use Rattle.log_laws.proofs.NewTerms.Entering.{running-ran}
use Rattle.log_laws.proofs.NewTerms.Taking.{no-line, no-flow, no-end, first-word, popped-other, mine-taken, theirs-taken, tells-taken, foreign-taken, views-taken}

-- ---- who asks, wherever it is known

module _ (S : LogState) (H : LogsHold S) (a c t x : ℕ) (slot : IsSlot S c) where
  -- by a message
  asked-by : (l : Letter) → SiteLetterOk S a c l → In x (ask_of t l) → AsksToJoin S (part S c) a t x
  asked-by l k is = elim l.body as (λ m. SiteLetterOk S a c (record l { body = m }) → In x (if l.term == t then ask_in m else []) → AsksToJoin S (part S c) a t x) [
    | msg.JoinAsk y slot-of ↦ λ p q. let o = only-one (l.term == t) y x q in
        subst (AsksToJoin S (part S c) a t) o.1 (subst (λ z. AsksToJoin S (part S c) a z y) (eqb-true l.term t o.0) p.2)
    | m ↦ λ p q. absurd (cond_both (l.term == t) _ _ (λ z. In x z → ⊥) (λ _ q. q) (λ _ q. q) q)
  ] k is

  waited-by : (y : Waiting) → SiteWaitingOk S c y → In x (wait_of a t y) → AsksToJoin S (part S c) a t x
  waited-by y k is = cond_both (same y.from (Site a)) _ _ (λ z. In x z → AsksToJoin S (part S c) a t x)
      (λ e q. site (subst (λ z. SiteWaitingFrom S c z y.letter) (same-true y.from (Site a) e) k.1) q) (λ e q. absurd q) is
    where
      site : SiteWaitingFrom S c (Site a) y.letter → In x (ask_of t y.letter) → AsksToJoin S (part S c) a t x
      site p q = elim y.letter.body as (λ m. (SiteLetterOk S a c (record y.letter { body = m }) → In x (ask_of t (record y.letter { body = m })) → AsksToJoin S (part S c) a t x)
          → SiteWaitingFrom S c (Site a) (record y.letter { body = m }) → In x (ask_of t (record y.letter { body = m })) → AsksToJoin S (part S c) a t x) [
            | msg.Put position e floor ↦ λ _ p. absurd p
            | msg.Repair from entries ↦ λ _ p. absurd p
            | msg.Task position e ↦ λ _ p. absurd p
            | msg.StreamStart head ↦ λ _ p. absurd p
            | msg.StreamEnd count ↦ λ _ p. absurd p
            | m ↦ λ f. f
          ] (asked-by y.letter) p q

  -- all that was asked and not answered is so
  pub asked-ok : In x (asked S a c t) → AsksToJoin S (part S c) a t x
  asked-ok is = elim (in-cases x (asks_in t (between S a c) ++ asks_waiting a t (S.sites c).waiting ++ asks_waiting a t (S.pending c)) (asks_of_term a t (S.sites c)) is) [
    | inr k ↦ kept k
    | inl k ↦ elim (in-cases x (asks_in t (between S a c) ++ asks_waiting a t (S.sites c).waiting) (asks_waiting a t (S.pending c)) k) [
      | inr p ↦ let r = flat-in (wait_of a t) x (S.pending c) p in waited-by r.0 (elim runs [
        | inl up ↦ all-at (SiteWaitingOk S c) (S.pending c) ((H.sites c).keeps up).pending r.0 r.1
        | inr z ↦ absurd (subst (In r.0) ((H.sites c).stopped z).3 r.1)
      ]) r.2
      | inl p ↦ elim (in-cases x (asks_in t (between S a c)) (asks_waiting a t (S.sites c).waiting) p) [
        | inr q ↦ let r = flat-in (wait_of a t) x (S.sites c).waiting q in waited-by r.0 (elim runs [
          | inl up ↦ all-at (SiteWaitingOk S c) (S.sites c).waiting ((H.sites c).keeps up).waiting r.0 r.1
          | inr z ↦ absurd (subst (In r.0) ((H.sites c).stopped z).0 r.1)
        ]) r.2
        | inl q ↦ let r = flat-in (ask_of t) x (between S a c) q in asked-by r.0 (all-at (SiteLetterOk S a c) (between S a c) (H.letters a c slot) r.0 r.1) r.2
      ]
    ]
  ]
    where
      runs : (0 < site_start S c) ⊎ (site_start S c ≡ 0)
      runs = elim (cases_eq (site_start S c) 0) [ inl z ↦ inr z | inr n ↦ inl (omega (arith, n)) ]

      of-term : (b : Bool) → (site_term (S.sites c) == t) ≡ b → In x (if b then asks_kept a (S.sites c).asks else []) → AsksToJoin S (part S c) a t x
      of-term true e q =
          let r = in-map-from (λ z. z.start) x (filter (λ z. z.slot == a) (S.sites c).asks) q in
          let f = in-filter (λ z. z.slot == a) r.0 (S.sites c).asks r.1 in
          elim runs [
            | inl up ↦
                let k = all-at (λ z. AsksToJoin S (part S c) z.slot (term_at S c) z.start) (S.sites c).asks ((H.sites c).keeps up).asks r.0 f.0 in
                subst (AsksToJoin S (part S c) a t) r.2 (subst (λ z. AsksToJoin S (part S c) a z r.0.start) (eqb-true (site_term (S.sites c)) t e)
                (subst (λ z. AsksToJoin S (part S c) z (term_at S c) r.0.start) (eqb-true r.0.slot a f.1) k))
            | inr z ↦ absurd (subst (In r.0) ((H.sites c).stopped z).1 f.0)
          ]
      of-term false e q = absurd q

      kept : In x (asks_of_term a t (S.sites c)) → AsksToJoin S (part S c) a t x
      kept q = of-term (site_term (S.sites c) == t) refl q

-- ---- what it sends

-- to its leader alone, if that is another slot
module _ (i : ℕ) (D : Deployment) (s : SiteState) where
  abbrev pub ask_letter : ℕ → Letter
  ask_letter c = letter_in (site_term s) (start_in_view D s.view c) (msg.JoinAsk s.start i)

  pub asks-cases : (o : Option ℕ) (c : ℕ) → ((o ≡ Some c) × (c ≡ i → ⊥) × (asks_to_join i D s o (Site c) ≡ ask_letter c ∷ []))
      ⊎ ((o ≡ Some c → c ≡ i) × (asks_to_join i D s o (Site c) ≡ []))
  asks-cases None c = inr ((λ e. absurd (cc)), refl)
  asks-cases (Some l) c = choice (l == i) (l == c) refl refl
    where
      choice : (b d : Bool) → (l == i) ≡ b → (l == c) ≡ d
          → ((Some l ≡ Some c) × (c ≡ i → ⊥) × ((if b then [] else if d then ask_letter l ∷ [] else []) ≡ ask_letter c ∷ []))
          ⊎ ((Some l ≡ Some c → c ≡ i) × ((if b then [] else if d then ask_letter l ∷ [] else []) ≡ []))
      choice true d e f = inr ((λ q. sym (same-some q) ∙ eqb-true l i e), refl)
      choice false true e f = let q = eqb-true l c f in inl (ap Some q, (λ r. eqb-false l i e (q ∙ r)), ap (λ z. ask_letter z ∷ []) q)
      choice false false e f = inr ((λ q. absurd (eqb-false l c f (same-some q))), refl)

  pub asks-agents : (o : Option ℕ) (g : ℕ) → asks_to_join i D s o (Agent g) ≡ []
  asks-agents None g = refl
  asks-agents (Some l) g = cond_both (l == i) _ _ (λ z. ◌≡◌ {A = List Letter} z []) (λ _. refl) (λ _. refl)

  -- of whatever holds of that message
  pub asks-all : (P : Letter → Type 0) (o : Option ℕ) (c : ℕ) → (o ≡ Some c → (c ≡ i → ⊥) → P (ask_letter c)) → AllByRecursion P (asks_to_join i D s o (Site c))
  asks-all P o c f = elim (asks-cases o c) [ inl k ↦ subst (AllByRecursion P) (sym k.2) (f k.0 k.1, tt) | inr k ↦ subst (AllByRecursion P) (sym k.1) tt ]

-- ---- a joiner without a word takes the first one

module _ (S : LogState) (H : LogsHold S) (h i : ℕ) (l : Letter) (w : Membership) (ls : List Letter) (is : S.words.channel (Agent h) (Site i) ≡ record l { body = msg.View w } ∷ ls)
    (start : l.start ≡ site_start S i) (up : 0 < site_start S i) (none : (S.sites i).view ≡ None) where
  abbrev D : Deployment
  D = S.words.deployment

  abbrev s : SiteState
  s = in_new_term (S.sites i) w

  abbrev out : Sends
  out = asks_to_join i D s (leader D w (part S i))

  abbrev ch : Actor → Actor → List Letter
  ch = sent (site_popped S (Agent h) i).words.channel (Site i) out

  abbrev T : LogState
  T = site_turned S i s ch S.logs.entered S.logs.leadership S.logs.reach

  abbrev new : ℕ → List Letter
  new c = out (Site c)

  here : T.sites i ≡ s
  here = set-here S.sites i s

  there : (c : ℕ) → (c ≡ i → ⊥) → T.sites c ≡ S.sites c
  there c other = set-there S.sites i s c other

  slot : IsSlot S i
  slot = running-slot S H i up

  took : S.words.history.took (site_start S i) ≡ Some w
  took = first-word S H h i l w ls is start up none

  decided : In w S.words.history.decided
  decided = took-decided S H (site_start S i) w took

  no-term : term_at S i ≡ 0
  no-term = ap term_in none

  above : term_at S i < term_of w
  above = let a = some-term S H w decided in let b = no-term in omega (arith, a, b)

  joined : (j : Joining) × ((S.sites i).joining ≡ Some j)
  joined = elim (none-or-some (S.sites i).joining) [ inl e ↦ absurd (none-and-some none ((H.sites i).member up e).1) | inr (j, e) ↦ (j, e) ]

  ok : JoinerOk S i joined.0
  ok = (H.sites i).joiner joined.0 joined.1

  wordless : Wordless S i joined.0
  wordless = subst (ViewIn S i joined.0) none ok.view

  -- no start of its slot that isn't an earlier one has asked
  ask-none : (c t a : ℕ) → AsksToJoin S (part S c) i t a → (S.sites i).earlier < t → ⊥
  ask-none c t a k low = elim (cases_eq (site_start S i) a) [
    | inl e ↦ let j = k.joins e in none-and-some none j.1.2
    | inr n ↦ let b = k.been.others up n in absurd (omega (arith, b, low))
  ]

  none-asked : (c t : ℕ) → IsSlot S c → (S.sites i).earlier < t → asked S i c t ≡ []
  none-asked c t sl low = in-none (asked S i c t) (λ x m. ask-none c t x (asked-ok S H i c t x sl m) low)

  later : LogsLater S T
  later = turned-later S i s ch S.logs.entered S.logs.leadership S.logs.reach
      (search (arith, above))
      (λ c t e is. is) (λ c t e is. inl is) (λ p t. omega arith)

  -- ---- what it sent says nothing but that it asks

  new-flow : (c a t : ℕ) → flow a t (new c) ≡ []
  new-flow c a t = flat-none (flow_of a t) (new c) (asks-all i D s (λ x. flow_of a t x ≡ []) (leader D w (part S i)) c (λ _ _. if-empty _ _ refl))

  new-ends : (c a t : ℕ) → stream_ends_in a t (new c) ≡ []
  new-ends c a t = flat-none (end_of a t) (new c) (asks-all i D s (λ x. end_of a t x ≡ []) (leader D w (part S i)) c (λ _ _. if-empty _ _ refl))

  line-there : (a c start t : ℕ) → line start t (ch (Site a) (Site c)) ≡ line start t (between S a c)
  line-there a c b t = said-same (line b t) S i ch new (mine-taken S H h i l w ls is start up out) (theirs-taken S H h i l w ls is start up out) a c
      (flat-same (line_of b t) (between S i c) (new c)
      (flat-none (line_of b t) (new c) (asks-all i D s (λ x. line_of b t x ≡ []) (leader D w (part S i)) c (λ _ _. if-empty _ _ refl))))

  flow-there : (a c start t : ℕ) → flow start t (ch (Site a) (Site c)) ≡ flow start t (between S a c)
  flow-there a c b t = said-same (flow b t) S i ch new (mine-taken S H h i l w ls is start up out) (theirs-taken S H h i l w ls is start up out) a c
      (flat-same (flow_of b t) (between S i c) (new c) (new-flow c b t))

  ends-there : (a c start t : ℕ) → stream_ends_in start t (ch (Site a) (Site c)) ≡ stream_ends_in start t (between S a c)
  ends-there a c b t = said-same (stream_ends_in b t) S i ch new (mine-taken S H h i l w ls is start up out) (theirs-taken S H h i l w ls is start up out) a c
      (flat-same (end_of b t) (between S i c) (new c) (new-ends c b t))

  fewer : (c t : ℕ) → AtMost (asks_of_term c t (S.sites i)) (asks_of_term c t s)
  fewer c t = subst (AtMost (asks_of_term c t (S.sites i))) (sym (if-none (site_term s == t))) (record { shorter = omega arith; within = λ y m. absurd m })

  turns : Turned S i s ch S.logs.entered S.logs.leadership S.logs.reach new
  turns = record {
    later = later;
    mine = mine-taken S H h i l w ls is start up out;
    theirs = theirs-taken S H h i l w ls is start up out;
    flows = new-flow;
    ends = new-ends;
    agreed = λ g k. refl;
    tells = tells-taken S H h i l w ls is start up out (asks-agents i D s (leader D w (part S i)));
    views = λ c other. popped-other S H h i l w ls is start up c other _;
    foreign = foreign-taken S H h i l w ls is start up out (λ c. asks-all i D s (ForeignOk S c (Site i)) (leader D w (part S i)) c (λ _ _. tt));
    waiting = refl;
    asks = fewer;
    joiners = λ j m. absurd m;
    joins = λ c t a slot m. ask-later S T H later (part S c) i t a (λ u j. absurd (none-and-some none j.2));
    entered = λ c t other. refl;
    led = λ p t g m. (refl, refl);
    counted = λ c a stream_start u g _ _ k l authoritative. set-both (λ l z. leader D u (part S c) ≡ Some l → 0 < z.start → z.joining ≡ None → z.view ≡ Some u
        → (j : Joiner) × In j z.joiners × (j.slot ≡ c) × (j.start ≡ a) × (j.stream_start ≡ stream_start)) S.sites i s (λ _ _ e _. absurd (none-and-some e joined.1)) (λ l _. k l) l authoritative;
    members = λ c u other _ _ _ k. member-keeps S T H later c (still-same (S.sites c) (T.sites c) (there c other)) u k (λ a. line-there a c (site_start S c) (term_of u)) refl;
    lines = λ c a u j other _ _ e. line-there a c (site_start S c) (term_of u) ∙ e;
  }

  -- ---- the site itself

  own-start : site_start T i ≡ site_start S i
  own-start = ap (λ z. z.start) here

  own-earlier : (T.sites i).earlier ≡ (S.sites i).earlier
  own-earlier = ap (λ z. z.earlier) here

  -- nobody was asked but its leader
  asked-less : (c t : ℕ) → new c ≡ [] → AtMost (asked S i c t) (asked T i c t)
  asked-less c t e = set-both (λ c z. new c ≡ [] → AtMost (asked S i c t) (asked_of i t (ch (Site i) (Site c)) z (S.pending c))) S.sites i s
      (λ e. rw (channel i e) (keeps-less i t (between S i i) (S.sites i) s (S.pending i) refl (fewer i t)))
      (λ c _ e. rw (channel c e) (at-most-same (asked S i c t))) c e
    where
      channel : (c : ℕ) → new c ≡ [] → ch (Site i) (Site c) ≡ between S i c
      channel c e = mine-taken S H h i l w ls is start up out c ∙ ap (λ z. between S i c ++ z) e ∙ append-nil (between S i c)

  unasked : (c : ℕ) → new c ≡ [] → IsSlot S c → (S.sites i).earlier < term_of w → asked T i c (term_of w) ≡ []
  unasked c e sl low = at-most-none (asked S i c (term_of w)) (asked T i c (term_of w)) (none-asked c (term_of w) sl low) (asked-less c (term_of w) e)

  -- the leader was asked once
  asked-once : (c : ℕ) → leader D w (part S i) ≡ Some c → (c ≡ i → ⊥) → IsSlot S c → (S.sites i).earlier < term_of w → asked T i c (term_of w) ≡ site_start S i ∷ []
  asked-once c authoritative other sl low =
      let t = term_of w in
      asks-moved i t (between S i c ++ ask_letter i D s c ∷ []) (ch (Site i) (Site c)) (S.sites c) (T.sites c) (S.pending c) channel (there c other)
      ∙ ap (λ z. z ++ asks_waiting i t (S.sites c).waiting ++ asks_waiting i t (S.pending c) ++ asks_of_term i t (S.sites c))
      (flat_map-append (ask_of t) (between S i c) (ask_letter i D s c ∷ []) ∙ ap (λ z. asks_in t (between S i c) ++ (z ++ [])) (asks-here t (ask_letter i D s c) refl))
      ∙ empties (asks_in t (between S i c)) (asks_waiting i t (S.sites c).waiting) (asks_waiting i t (S.pending c)) (asks_of_term i t (S.sites c)) (none-asked c t sl low)
    where
      channel : ch (Site i) (Site c) ≡ between S i c ++ ask_letter i D s c ∷ []
      channel = mine-taken S H h i l w ls is start up out c ∙ ap (λ z. between S i c ++ z) (elim (asks-cases i D s (leader D w (part S i)) c) [
        | inl k ↦ k.2
        | inr k ↦ absurd (other (k.0 authoritative))
      ])

      empties : (as_ bs cs ds : List ℕ) → as_ ++ bs ++ cs ++ ds ≡ [] → (as_ ++ (site_start S i ∷ [])) ++ bs ++ cs ++ ds ≡ site_start S i ∷ []
      empties [] [] [] [] e = refl
      empties (a ∷ as_) bs cs ds e = absurd (cc)
      empties [] (b ∷ bs) cs ds e = absurd (cc)
      empties [] [] (c ∷ cs) ds e = absurd (cc)
      empties [] [] [] (d ∷ ds) e = absurd (cc)

  -- where it isn't the leader, it isn't told
  new-none : (c : ℕ) → follows D w i c ≡ false → new c ≡ []
  new-none c f = elim (asks-cases i D s (leader D w (part S i)) c) [ inl k ↦ absurd (not-both (follows D w i c) (leader-follows D w i c k.0 k.1) f) | inr k ↦ k.1 ]

  -- no leader counts it
  uncounted : (c : ℕ) (j : Joiner) → In j (S.sites c).joiners → j.slot ≡ i → j.start ≡ site_start S i → ⊥
  uncounted c j m q r = elim (cases_eq (site_start S c) 0) [ inl z ↦ subst (In j) ((H.sites c).stopped z).2 m | inr n ↦ counts (omega (arith, n)) ]
    where
      counts : 0 < site_start S c → ⊥
      counts runs = let k = (H.sites c).keeps runs in elim k.leads [
        | inl e ↦ subst (In j) e m
        | inr e ↦
            let v = leader-view D c (S.sites c) e in
            let o = (H.sites c).member runs v.0 in
            let some = some-term S H o.0 o.2.decided in
            let t = ap term_in o.1 in
            let low = (all-at (CountedOk S (part S c) (term_at S c)) (S.sites c).joiners k.joiners j m).reached (ap (site_start S) q ∙ sym r) in
            let z = ap (term_at S) q in
            let b = no-term in
            absurd (omega (arith, some, t, low, z, b))
      ]

  inert : (c : ℕ) → follows D w i c ≡ true → (S.sites i).earlier < term_of w → Inert T i w c
  inert c f low = let authoritative = follows-leader D w i c f in record {
    flow_is = subst (λ z. flow z (term_of w) (ch (Site c) (Site i)) ≡ []) (sym own-start) (flow-there c i (site_start S i) (term_of w) ∙ no-flow S H i (term_of w) slot above c);
    ends_are = subst (λ z. stream_ends_in z (term_of w) (ch (Site c) (Site i)) ≡ []) (sym own-start) (ends-there c i (site_start S i) (term_of w) ∙ no-end S H i (term_of w) slot above c);
    uncounted = λ j m q r. uncounted c j (subst (λ z. In j z.joiners) (there c authoritative.1) m) q (r ∙ own-start);
    asks = λ sl. inr (asked-once c authoritative.0 authoritative.1 sl low ∙ ap (λ z. z ∷ []) (sym own-start));
  }

  untaken : Untaken T i w joined.0
  untaken = let k = wordless in record {
    loads = k.loads;
    counts = k.counts;
    tasks = k.tasks;
    empty = ap (λ z. z.log) here ∙ k.empty;
    floor = ap (λ z. z.floor) here ∙ k.floor;
    never = λ t x m q. k.never t x m (q ∙ own-start);
    comes = λ c f low. inl (inert c f (subst (λ z. z < term_of w) own-earlier low));
  }

  in_word : InWord T i w joined.0
  in_word = record {
    took = ap S.words.history.took own-start ∙ took;
    lines = λ c. subst (λ z. line z (term_of w) (ch (Site c) (Site i)) ≡ []) (sym own-start) (line-there c i (site_start S i) (term_of w) ∙ no-line S H i (term_of w) slot above c);
    others = λ c f. (
      subst (λ z. flow z (term_of w) (ch (Site c) (Site i)) ≡ []) (sym own-start) (flow-there c i (site_start S i) (term_of w) ∙ no-flow S H i (term_of w) slot above c),
      subst (λ z. stream_ends_in z (term_of w) (ch (Site c) (Site i)) ≡ []) (sym own-start) (ends-there c i (site_start S i) (term_of w) ∙ no-end S H i (term_of w) slot above c),
      λ sl low. unasked c (new-none c f) sl (subst (λ z. z < term_of w) own-earlier low),
    );
    stream = subst (StreamIn T i w joined.0) (sym wordless.stream) untaken;
  }

  own-joiner : JoinerOk T i joined.0
  own-joiner = let k = ok in record {
    runs = subst (λ z. 0 < z) (sym own-start) up;
    unentered = λ t e m q. k.unentered t e m (q ∙ own-start);
    told = k.told;
    based = k.based;
    firm = ap (λ z. z.firm) here ∙ k.firm;
    view = subst (ViewIn T i joined.0) (sym (ap (λ z. z.view) here)) in_word;
  }

  own-site : SiteOk T i
  own-site = let k = H.sites i in record {
    environment = λ e. own-start ∙ k.environment e;
    ran = λ _. let r = k.ran up in (r.0, r.1 ∙ ap (λ z. z ∷ r.0) (sym own-start));
    term = subst (λ z. site_term z ≤ z.greatest) (sym here) (omega arith);
    earlier = subst (λ z. z.earlier ≤ z.greatest) (sym here) (let b = k.earlier in omega (arith, b));
    member = λ _ e. absurd (none-and-some (sym (ap (λ z. z.joining) here) ∙ e) joined.1);
    joiner = λ j e. subst (JoinerOk T i) (same-some (sym joined.1 ∙ sym (ap (λ z. z.joining) here) ∙ e)) own-joiner;
    keeps = λ _. let o = k.keeps up in fresh-keeps S H i s ch S.logs.entered S.logs.leadership S.logs.reach new turns up refl refl refl refl refl o.on_disk
        (all-filter HeldOk _ (S.sites i).held o.held) o;
    stopped = λ e. let z = sym own-start ∙ e in absurd (omega (arith, up, z));
    blank = λ e. let z = sym own-start ∙ e in absurd (omega (arith, up, z));
  }

  -- its ask is one that may be under way
  asks-ok : (c : ℕ) → leader D w (part S i) ≡ Some c → SiteLetterOk T i c (ask_letter i D s c)
  asks-ok c authoritative = let k = leader-copy D w (part S i) c authoritative in (
    (subst (λ z. 0 < z) (sym (start-in-view D i s w refl c k.1.0 k.1.1)) (some-start S H w c k.1.0 decided k.1.1), some-term S H w decided),
    refl,
    record {
      been = record {
        some = up;
        ran = running-ran S H i up;
        greatest = subst (λ z. term_of w ≤ z.greatest) (sym here) (omega arith);
        others = λ _ n. absurd (n own-start);
      };
      part_is = sym k.0;
      joins = λ _. (w, (joined.0, ap (λ z. z.joining) here ∙ joined.1, ap (λ z. z.view) here), refl);
    },
  )

  -- what holds, holds once it has asked
  pub joins-holds : LogsHold (after_site (site_popped S (Agent h) i) i s out S.logs)
  joins-holds = turned-holds S H i s ch S.logs.entered S.logs.leadership S.logs.reach new turns
      (words-after (site_popped S (Agent h) i) i s out S.logs (words-popped S i (Agent h) H.words))
      own-site
      (views-taken S H h i l w ls is start up out s S.logs later refl refl refl)
      (λ c sl. asks-all i D s (SiteLetterOk T i c) (leader D w (part S i)) c (λ authoritative _. asks-ok c authoritative))
      (entereds-later S T H later (same-leaderships S.logs T.logs refl) (λ p t. refl))
      (λ c t x m. (H.streamed c t x m).apart)
      (leaderships-later S T H later (same-leaderships S.logs T.logs refl) (λ p t g is. (H.leaderships p t g is).within))
      (λ p t m. unleds-later S T H later (same-leaderships S.logs T.logs refl) p t refl m)

  -- the turn itself
  pub joins-turns : Turns (site_popped S (Agent h) i) i (sending s out)
  joins-turns = record {
    logs = S.logs;
    start = refl;
    plain = λ c. asks-all i D s NoStreamStart (leader D w (part S i)) c (λ _ _. tt);
    holds = joins-holds;
    grown = grown-same D i s S.logs;
    enters = enters-same i (length (log_at S i)) S.logs S.logs refl;
    longer = omega arith;
  }
