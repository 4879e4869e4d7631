-- A message leaves its channel, or what waited is taken up, where what is looked at of it is nothing: what holds, holds then.
use Rattle.log_laws.proofs.Names.{◌≡◌, ◌<◌, Bool, true, false, List, [], ◌∷◌, ◌++◌, refl, sym, subst, ap, ◌∙◌, ◌⊎◌, inl, inr, ◌==◌, arith, eqb-true, eqb-false, nat_tests, ℕ, ◌||◌, nat_lt, if◌then◌else◌, AllByRecursion, Actor, Agent, Site, host_of_slot, Letter, Waiting, of_term, above_term, Taken, Refused, Waits, arrival, in_term, no_sends, becomes, SiteState, set_at, took-all, all-append, all-filter, set-both, LogState, LogsHold, SiteLetterOk, ForeignOk, SiteWaitingOk, IsSlot, MeantFor, site_start, term_at, agent_to_site, line, line_of, flow, flow_of, stream_ends_in, end_of, line_in, flow_in, view_in, SiteWaitingFrom, view_of, asks_of_term}
use Rattle.volt_wire.specs.declared.message.Msg.TheVariants as msg
use Rattle.log_laws.proofs.Kept.{after_site, site_popped, left, LogsGo, AsksLess, at-most-same, popped-less, left-less, parted-asks, waits-asks, LeavesViews, leaves-same, leaves-first, after-same, taken-either, words-popped, ChannelsOk, channels-same, running-slot, channels-hold, moved-holds, NotesOk, after-nothing, becomes-goes, noted-holds, noted-same, notes-same}
use Rattle.log_laws.proofs.Plain.{views-other, both-empty, for-other, if-empty}

-- ---- whether a site takes a message

-- It is meant for this start or for any, and of this term or of none.
pub taken-for : (start here : ℕ) (l : Letter) → arrival start here l ≡ Taken → ((l.start ≡ 0) ⊎ (l.start ≡ start)) × ((l.term ≡ 0) ⊎ (l.term ≡ here))
taken-for start here l e = meant (l.start == 0) (l.start == start) refl refl e
  where
    timed : (a b c : Bool) → (l.term == 0) ≡ a → (l.term == here) ≡ b → (if a || b then Taken else if c then Refused else Waits) ≡ Taken → (l.term ≡ 0) ⊎ (l.term ≡ here)
    timed true b c p q r = inl (eqb-true l.term 0 p)
    timed false true c p q r = inr (eqb-true l.term here q)
    timed false false true p q r = absurd (cc)
    timed false false false p q r = absurd (cc)

    meant : (a b : Bool) → (l.start == 0) ≡ a → (l.start == start) ≡ b → (if a || b then in_term here l.term else Refused) ≡ Taken
        → ((l.start ≡ 0) ⊎ (l.start ≡ start)) × ((l.term ≡ 0) ⊎ (l.term ≡ here))
    meant true b p q r = (inl (eqb-true l.start 0 p), timed (l.term == 0) (l.term == here) (nat_lt l.term here) refl refl r)
    meant false true p q r = (inr (eqb-true l.start start q), timed (l.term == 0) (l.term == here) (nat_lt l.term here) refl refl r)
    meant false false p q r = absurd (cc)

-- It is meant for another start, or of a lower term.
pub refused-for : (start here : ℕ) (l : Letter) → arrival start here l ≡ Refused → (l.start ≡ start → ⊥) ⊎ ((0 < l.term) × (l.term < here))
refused-for start here l e = meant (l.start == 0) (l.start == start) refl e
  where
    timed : (a b c : Bool) → (l.term == 0) ≡ a → nat_lt l.term here ≡ c → (if a || b then Taken else if c then Refused else Waits) ≡ Refused → (0 < l.term) × (l.term < here)
    timed true b c p q r = absurd (cc)
    timed false true c p q r = absurd (cc)
    timed false false true p q r = (grind (arith, nat_tests, p), grind (arith, nat_tests, q))
    timed false false false p q r = absurd (cc)

    meant : (a b : Bool) → (l.start == start) ≡ b → (if a || b then in_term here l.term else Refused) ≡ Refused → (l.start ≡ start → ⊥) ⊎ ((0 < l.term) × (l.term < here))
    meant true b q r = inr (timed (l.term == 0) (l.term == here) (nat_lt l.term here) refl refl r)
    meant false true q r = inr (timed (l.term == 0) (l.term == here) (nat_lt l.term here) refl refl r)
    meant false false q r = inl (eqb-false l.start start q)

-- It is meant for this start or for any, and of a higher term.
pub waits-for : (start here : ℕ) (l : Letter) → arrival start here l ≡ Waits → ((l.start ≡ 0) ⊎ (l.start ≡ start)) × (here < l.term)
waits-for start here l e = meant (l.start == 0) (l.start == start) refl refl e
  where
    timed : (a b c : Bool) → (l.term == here) ≡ b → nat_lt l.term here ≡ c → (if a || b then Taken else if c then Refused else Waits) ≡ Waits → here < l.term
    timed true b c p q r = absurd (cc)
    timed false true c p q r = absurd (cc)
    timed false false true p q r = absurd (cc)
    timed false false false p q r = grind (arith, nat_tests, p, q)

    meant : (a b : Bool) → (l.start == 0) ≡ a → (l.start == start) ≡ b → (if a || b then in_term here l.term else Refused) ≡ Waits
        → ((l.start ≡ 0) ⊎ (l.start ≡ start)) × (here < l.term)
    meant true b p q r = (inl (eqb-true l.start 0 p), timed (l.term == 0) (l.term == here) (nat_lt l.term here) refl refl r)
    meant false true p q r = (inr (eqb-true l.start start q), timed (l.term == 0) (l.term == here) (nat_lt l.term here) refl refl r)
    meant false false p q r = absurd (cc)

-- ---- a message of which nothing is looked at

-- It brings the site that runs no entry of its term, no stream, and no word.
pub record Unread (S : LogState) (i : ℕ) (from : Actor) (l : Letter) : Type 0 where
  pub line : (k : ℕ) → from ≡ Site k → line_of (site_start S i) (term_at S i) l ≡ []
  pub flow : (k : ℕ) → from ≡ Site k → flow_of (site_start S i) (term_at S i) l ≡ []
  pub view : from ≡ Agent (host_of_slot S.words.deployment i) → view_of (site_start S i) l ≡ []

-- There is nothing of that in it, whatever the site's start and term.
pub record BringsNothing (S : LogState) (i : ℕ) (from : Actor) (l : Letter) : Type 0 where
  pub line : (k : ℕ) → from ≡ Site k → line_in l.body ≡ []
  pub flow : (k : ℕ) → from ≡ Site k → flow_in l.past l.body ≡ []
  pub view : from ≡ Agent (host_of_slot S.words.deployment i) → view_in l.body ≡ []

-- none of the messages that bring it
abbrev pub BringsNone : Letter → Type 0
BringsNone l = elim l.body as (λ _. Type 0) [
  | msg.Put position e floor ↦ ⊥
  | msg.Repair from entries ↦ ⊥
  | msg.Task position e ↦ ⊥
  | msg.StreamStart head ↦ ⊥
  | msg.View w ↦ ⊥
  | _ ↦ Unit {0}
]

plain-line : (l : Letter) → BringsNone l → line_in l.body ≡ []
plain-line l k = elim l.body as (λ m. BringsNone (record l { body = m }) → line_in m ≡ []) [
  | msg.Put position e floor ↦ λ k. absurd k
  | msg.Repair from entries ↦ λ k. absurd k
  | m ↦ λ k. refl
] k

plain-flow : (l : Letter) → BringsNone l → flow_in l.past l.body ≡ []
plain-flow l k = elim l.body as (λ m. BringsNone (record l { body = m }) → flow_in l.past m ≡ []) [
  | msg.Task position e ↦ λ k. absurd k
  | msg.StreamStart head ↦ λ k. absurd k
  | m ↦ λ k. refl
] k

plain-view : (l : Letter) → BringsNone l → view_in l.body ≡ []
plain-view l k = elim l.body as (λ m. BringsNone (record l { body = m }) → view_in m ≡ []) [ msg.View w ↦ λ k. absurd k | m ↦ λ k. refl ] k

module _ (S : LogState) (H : LogsHold S) (from : Actor) (i : ℕ) (l : Letter) (ls : List Letter) (is : S.words.channel from (Site i) ≡ l ∷ ls) where
  -- its channel without it
  pub channels-popped : (0 < site_start S i → Unread S i from l) → ChannelsOk S (site_popped S from i).words.channel
  channels-popped unread = record {
    words = words-popped S i from H.words;
    lines = λ k c up. taken-either S from i
        (λ a c ys. a ≡ Site k → 0 < site_start S c → line (site_start S c) (term_at S c) ys ≡ line (site_start S c) (term_at S c) (S.words.channel a (Site c)))
        (λ c e own up. rw (first c e) (ap (λ z. z ++ line (site_start S c) (term_at S c) ls)
        (sym (subst (λ z. line_of (site_start S z) (term_at S z) l ≡ []) (sym e) ((here c e up).line k own)))))
        (Site k) c (λ _ _. refl) refl up;
    flows = λ k c up. taken-either S from i
        (λ a c ys. a ≡ Site k → 0 < site_start S c → flow (site_start S c) (term_at S c) ys ≡ flow (site_start S c) (term_at S c) (S.words.channel a (Site c)))
        (λ c e own up. rw (first c e) (ap (λ z. z ++ flow (site_start S c) (term_at S c) ls)
        (sym (subst (λ z. flow_of (site_start S z) (term_at S z) l ≡ []) (sym e) ((here c e up).flow k own)))))
        (Site k) c (λ _ _. refl) refl up;
    ends = λ k c up. taken-either S from i (λ a c ys. stream_ends_in (site_start S c) (term_at S c) (S.words.channel a (Site c)) ≡ [] → stream_ends_in (site_start S c) (term_at S c) ys ≡ [])
        (λ c e. rw (first c e) (λ none. (both-empty (end_of (site_start S c) (term_at S c) l) (stream_ends_in (site_start S c) (term_at S c) ls) none).1))
        (Site k) c (λ z. z);
    leaves = λ c. taken-either S from i (λ a c ys. a ≡ Agent (host_of_slot S.words.deployment c) → LeavesViews (site_start S c) (S.words.channel a (Site c)) ys)
        (λ c e own. rw (first c e) (leaves-first (site_start S c) l ls
        (subst (λ z. 0 < site_start S z → view_of (site_start S z) l ≡ []) (sym e) (λ up. (unread up).view (own ∙ ap (λ z. Agent (host_of_slot S.words.deployment z)) e)))))
        (Agent (host_of_slot S.words.deployment c)) c (λ _. leaves-same (site_start S c) (agent_to_site S c) (agent_to_site S c) refl) refl;
    letters = λ j c slot. took-all (SiteLetterOk S j c) S.words.channel from (Site i) (Site j) (Site c) (H.letters j c slot);
    foreign = λ a c. took-all (ForeignOk S c a) S.words.channel from (Site i) a (Site c) (H.foreign a c);
    told = λ c h. H.loads.told c h;
    asked = λ h g. refl;
  }
    where
      first : (c : ℕ) → c ≡ i → S.words.channel from (Site c) ≡ l ∷ ls
      first c e = ap (λ z. S.words.channel from (Site z)) e ∙ is

      here : (c : ℕ) → c ≡ i → 0 < site_start S c → Unread S i from l
      here c e up = unread (subst (λ z. 0 < site_start S z) e up)

  -- it is taken, or dropped
  pub pops-with : (0 < site_start S i → Unread S i from l) → LogsHold (site_popped S from i)
  pops-with unread = channels-hold S (site_popped S from i).words.channel H (channels-popped unread) (subst (AsksLess S) (after-same (site_popped S from i) i)
      (popped-less S from i l ls is S.logs (S.sites i) refl (λ c t. at-most-same (asks_of_term c t (S.sites i)))))

  -- one of which nothing is looked at, by what is in it and who sent it
  pub pops-plain : BringsNothing S i from l → LogsHold (site_popped S from i)
  pops-plain k = pops-with (λ up. record {
    line = λ j e. if-empty _ _ (k.line j e);
    flow = λ j e. if-empty _ _ (k.flow j e);
    view = λ own. if-empty _ _ (k.view own);
  })

  -- one of a kind of which nothing is looked at
  pub pops-kind : BringsNone l → LogsHold (site_popped S from i)
  pops-kind k = pops-with (λ up. record {
    line = λ _ _. if-empty _ _ (plain-line l k);
    flow = λ _ _. if-empty _ _ (plain-flow l k);
    view = λ own. if-empty _ _ (plain-view l k);
  })

  -- one for another start
  pub pops-other : (l.start ≡ site_start S i → ⊥) → LogsHold (site_popped S from i)
  pops-other other = pops-with (λ up. record {
    line = λ _ _. for-other (site_start S i) (term_at S i) l (line_in l.body) (λ e _. other e);
    flow = λ _ _. for-other (site_start S i) (term_at S i) l (flow_in l.past l.body) (λ e _. other e);
    view = λ own. views-other (site_start S i) l other;
  })

  -- any, where the site isn't running
  pub pops-stopped : site_start S i ≡ 0 → LogsHold (site_popped S from i)
  pops-stopped z = pops-with (λ up. absurd (omega (arith, z, up)))

  -- one of another term
  pub pops-term : (l.term ≡ term_at S i → ⊥) → 0 < l.term → LogsHold (site_popped S from i)
  pops-term other timed = pops-with (λ up. record {
    line = λ _ _. for-other (site_start S i) (term_at S i) l (line_in l.body) (λ _ e. other e);
    flow = λ _ _. for-other (site_start S i) (term_at S i) l (flow_in l.past l.body) (λ _ e. other e);
    view = λ own. if-empty _ _ (untimed (subst (λ a. S.words.channel a (Site i) ≡ l ∷ ls) own is));
  })
    where
      -- words have no term
      untimed : agent_to_site S i ≡ l ∷ ls → view_in l.body ≡ []
      untimed e = (elim l.body as (λ m. (elim m as (λ _. Type 0) [ msg.View w ↦ (l.term ≡ 0) × (0 < l.start) | _ ↦ Unit {0} ]) → view_in m ≡ []) [
        | msg.View w ↦ λ k. let z = k.0 in absurd (omega (arith, timed, z))
        | m ↦ λ k. refl
      ]) (subst (AllByRecursion (λ x. elim x.body as (λ _. Type 0) [ msg.View w ↦ (x.term ≡ 0) × (0 < x.start) | _ ↦ Unit {0} ])) e (H.views i).plain).0

  -- one that the site refuses
  pub pops-refused : arrival (site_start S i) (term_at S i) l ≡ Refused → LogsHold (site_popped S from i)
  pops-refused e = elim (refused-for (site_start S i) (term_at S i) l e) [
    | inl other ↦ pops-other other
    | inr low ↦ let a = low.0 in let b = low.1 in pops-term (λ z. absurd (omega (arith, b, z))) a
  ]

  -- ---- a message that waits

  -- the site keeps it
  abbrev pub keeping : SiteState
  keeping = record (S.sites i) { waiting = (S.sites i).waiting ++ record { from = from; letter = l } ∷ [] }

  waiting-from : 0 < site_start S i → arrival (site_start S i) (term_at S i) l ≡ Waits → SiteWaitingFrom S i from l
  waiting-from up e = go from refl
    where
      high : ((l.start ≡ 0) ⊎ (l.start ≡ site_start S i)) × (term_at S i < l.term)
      high = waits-for (site_start S i) (term_at S i) l e

      slot : IsSlot S i
      slot = running-slot S H i up

      site : (j : ℕ) → SiteLetterOk S j i l → SiteWaitingFrom S i (Site j) l
      site j k = elim l.body as (λ m. (MeantFor S i (record l { body = m }) → ⊥) → SiteLetterOk S j i (record l { body = m }) → SiteWaitingFrom S i (Site j) (record l { body = m })) [
        | msg.Put position e floor ↦ λ u p. u p.0
        | msg.Repair from entries ↦ λ u p. u p
        | msg.Task position e ↦ λ u p. u p
        | msg.StreamStart head ↦ λ u p. u p
        | msg.StreamEnd count ↦ λ u p. u p.0
        | m ↦ λ u p. p
      ] (λ r. elim high.0 [ inl z ↦ let some = r.0.0 in omega (arith, some, z) | inr is ↦ let low = r.2 (sym is) in let up = high.1 in omega (arith, low, up) ]) k

      agent : (h : ℕ) → ForeignOk S i (Agent h) l → (h ≡ host_of_slot S.words.deployment i → view_in l.body ≡ []) → SiteWaitingFrom S i (Agent h) l
      agent h k = elim l.body as (λ m. ForeignOk S i (Agent h) (record l { body = m }) → (h ≡ host_of_slot S.words.deployment i → view_in m ≡ [])
          → SiteWaitingFrom S i (Agent h) (record l { body = m })) [
            | msg.View w ↦ λ own none. let z = none own in absurd (cc)
            | m ↦ λ _ _. tt
          ] k

      here : (a : Actor) → from ≡ a → S.words.channel a (Site i) ≡ l ∷ ls
      here a q = subst (λ z. S.words.channel z (Site i) ≡ l ∷ ls) q is

      go : (a : Actor) → from ≡ a → SiteWaitingFrom S i a l
      go (Site j) q = site j (subst (AllByRecursion (SiteLetterOk S j i)) (here (Site j) q) (H.letters j i slot)).0
      go (Agent h) q = agent h (subst (AllByRecursion (ForeignOk S i (Agent h))) (here (Agent h) q) (H.foreign (Agent h) i)).0
          (λ own. no-view (here (Agent (host_of_slot S.words.deployment i)) (q ∙ ap Agent own)))
        where
          no-view : agent_to_site S i ≡ l ∷ ls → view_in l.body ≡ []
          no-view e = (elim l.body as (λ m. (elim m as (λ _. Type 0) [ msg.View w ↦ (l.term ≡ 0) × (0 < l.start) | _ ↦ Unit {0} ]) → view_in m ≡ []) [
            | msg.View w ↦ λ k. let z = k.0 in let u = high.1 in absurd (omega (arith, u, z))
            | m ↦ λ k. refl
          ]) (subst (AllByRecursion (λ x. elim x.body as (λ _. Type 0) [ msg.View w ↦ (x.term ≡ 0) × (0 < x.start) | _ ↦ Unit {0} ])) e (H.views i).plain).0
      go from q = tt

  pub waits-goes : 0 < site_start S i → arrival (site_start S i) (term_at S i) l ≡ Waits → LogsGo (site_popped S from i) i (becomes keeping)
  waits-goes up e = let high = waits-for (site_start S i) (term_at S i) l e in let o = notes-same S H i in
      becomes-goes (site_popped S from i) i keeping S.logs.streamed refl refl (omega arith) (noted-same S i keeping (site_popped S from i).words.channel H refl
      (channels-popped (λ _. record {
        line = λ _ _. for-other (site_start S i) (term_at S i) l (line_in l.body) (λ _ z. let h = high.1 in absurd (omega (arith, h, z)));
        flow = λ _ _. for-other (site_start S i) (term_at S i) l (flow_in l.past l.body) (λ _ z. let h = high.1 in absurd (omega (arith, h, z)));
        view = λ own. if-empty _ _ (no-view own);
      }))
      (record {
        waiting = λ _. all-append (SiteWaitingOk S i) (S.sites i).waiting (record { from = from; letter = l } ∷ []) (o.waiting up) ((high.0, waiting-from up e), tt);
        asks = o.asks;
        reports = o.reports;
        pending = o.pending;
        none = λ z. absurd (omega (arith, up, z));
      })
      (subst (AsksLess S) (after-nothing (site_popped S from i) i keeping S.logs) (waits-asks S from i l ls is S.logs)))
    where
      no-view : from ≡ Agent (host_of_slot S.words.deployment i) → view_in l.body ≡ []
      no-view own = (elim l.body as (λ m. SiteWaitingFrom S i (Agent (host_of_slot S.words.deployment i)) (record l { body = m }) → view_in m ≡ []) [
        | msg.View w ↦ λ k. absurd k
        | m ↦ λ k. refl
      ]) (subst (λ a. SiteWaitingFrom S i a l) own (waiting-from up e))

-- ---- what waited for the term

-- one of it is taken, or dropped
pub leaves : (S : LogState) → LogsHold S → (i : ℕ) (x : Waiting) (ws : List Waiting) → S.pending i ≡ x ∷ ws → LogsHold (left S i ws)
leaves S H i x ws is = moved-holds S S.words.channel S.sites (set_at S.pending i ws) H (channels-same S H)
    (subst (AsksLess S) (after-same (left S i ws) i) (left-less S i ws S.logs x is (S.sites i) refl (λ c t. at-most-same (asks_of_term c t (S.sites i)))))
    (set-both (λ c p. NotesOk S c (S.sites c) p) S.pending i ws (let o = notes-same S H i in record {
      waiting = o.waiting;
      asks = o.asks;
      reports = o.reports;
      pending = λ up. (subst (AllByRecursion (SiteWaitingOk S i)) is (o.pending up)).1;
      none = λ z. let e = sym is ∙ (o.none z).2 in absurd (cc);
    }) (λ c n. notes-same S H c))

-- All that waited for a term is to be taken.
pub takes-up : (S : LogState) → LogsHold S → (i : ℕ) → S.pending i ≡ [] → (term : ℕ)
    → LogsHold (record S {
      sites = set_at S.sites i (record (S.sites i) { waiting = above_term term (S.sites i).waiting });
      pending = set_at S.pending i (of_term term (S.sites i).waiting);
    })
takes-up S H i none term = let old = (S.sites i).waiting in let now = of_term term old in let s : SiteState = record (S.sites i) { waiting = above_term term old } in
    let o = notes-same S H i in noted-holds S i s S.words.channel now H refl (channels-same S H) (record {
      waiting = λ up. all-filter (SiteWaitingOk S i) (λ w. nat_lt term w.letter.term) old (o.waiting up);
      asks = o.asks;
      reports = o.reports;
      pending = λ up. all-filter (SiteWaitingOk S i) (λ w. w.letter.term == term) old (o.waiting up);
      none = λ z. let e = o.none z in (ap (above_term term) e.0, e.1, ap (of_term term) e.0);
    }) (subst (AsksLess S) (after-nothing (left S i now) i s S.logs) (parted-asks S i now S.logs s term refl refl (λ c t. at-most-same (asks_of_term c t (S.sites i)))))

-- the same as a turn in which nothing is sent
pub takes-up-after : (S : LogState) → LogsHold S → (i : ℕ) → S.pending i ≡ [] → (term : ℕ)
    → LogsHold (after_site (left S i (of_term term (S.sites i).waiting)) i (record (S.sites i) { waiting = above_term term (S.sites i).waiting }) no_sends S.logs)
takes-up-after S H i none term = let old = (S.sites i).waiting in
    subst LogsHold (sym (after-nothing (left S i (of_term term old)) i (record (S.sites i) { waiting = above_term term old }) S.logs)) (takes-up S H i none term)
