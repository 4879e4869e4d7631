-- What a leader counts as firm, and as its floor, is in each log.
use Rattle.log_laws.proofs.Names.{◌≡◌, ◌<◌, ◌≤◌, true, List, [], refl, sym, subst, ap, ◌∙◌, inl, inr, ◌==◌, arith, cases_eq, and_parts, ℕ, ◌&&◌, nat_lt, nat_le, filter, max, length, Some, None, AllByRecursion, Membership, Actor, Agent, Site, Deployment, term_of, term_in, start_of_slot, leader, same, Letter, SiteState, Held, Joiner, is_leader, leads, other_copies, own_ack, acked_in, firm_now, floor_now, answers_held, sends_firm, counts, In, all-at, all-from, all-filter, in-filter, in-map-from, same-some, none-and-some, not-both, same-true, leads-parts, leader-view, acked_in-from, reach_now, reach_now-own, reach_now-copy, reach_now-joiner, cond_both, LogState, Entered, Streaming, Leadership, Flow, LogsHold, IsSlot, WordOf, AckOk, CountedOk, IsCounted, HeldFor, HeldOk, LeadsIn, MemberOk, KeepsOk, Coming, ToldOk, SiteLetterOk, end_of, part, site_start, log_at, term_at}
use Rattle.volt_wire.specs.declared.message.Msg.TheVariants as msg
use Rattle.log_laws.proofs.Kept.{LogsGo, same-word, entered-start, one-in, took-decided, goes-same, SiteRests, ReachRests, SaysRests, Bare, same-joiners, reach-same, rests-goes, put_at, put-both, put-here}
use Rattle.log_laws.proofs.Plain.{is_in-in, copy-other, is-leader, flat-none, none-or-some}
use Rattle.log_laws.proofs.NewTerms.Since.{since-raised}

-- ---- who leads

-- A site whose word has it as its partition's leader.
pub record LeaderOf (T : LogState) (i : ℕ) : Type 0 where
  pub word : Membership
  pub none : (T.sites i).joining ≡ None
  pub view : (T.sites i).view ≡ Some word
  pub first : leader T.words.deployment word (part T i) ≡ Some i
  pub member : MemberOk T i word

pub leader-of : (T : LogState) → LogsHold T → (i : ℕ) → 0 < site_start T i → is_leader T.words.deployment i (T.sites i) ≡ true → LeaderOf T i
leader-of T H i up e =
    let v = leader-view T.words.deployment i (T.sites i) e in
    let m = (H.sites i).member up v.0 in
    record { word = m.0; none = v.0; view = m.1; first = (is-leader T.words.deployment i (T.sites i) m.0 m.1 e).1; member = m.2 }

-- ---- what a leader counts

module _ (T : LogState) (H : LogsHold T) (i : ℕ) (up : 0 < site_start T i) (o : LeaderOf T i) where
  abbrev w : Membership
  w = o.word

  abbrev member : MemberOk T i o.word
  member = o.member

  keeps : KeepsOk T i
  keeps = (H.sites i).keeps up

  here : term_at T i ≡ term_of w
  here = ap term_in o.view

  own-word : WordOf T (term_of w) w
  own-word = record { decided = o.member.decided; term_is = refl }

  -- a position that a copy of the term acknowledged is in its log,
  acked-ok : (c : ℕ) (e : Entered) → T.logs.entered c (term_of w) ≡ Some e → (v : ℕ) → acked_in (T.sites i).acks c ≡ Some v → AckOk T c (term_of w) v
  acked-ok c e is v acked = subst (λ t. AckOk T c t v) here
      (all-at (λ a. IsSlot T a.0 → AckOk T a.0 (term_at T i) a.1) (T.sites i).acks keeps.acks (c, v)
      (acked_in-from (T.sites i).acks c v acked) (H.entered c (term_of w) e is).slot)

  -- and in that with which it entered a later term
  acked-since : (c t : ℕ) (e f : Entered) → T.logs.entered c (term_of w) ≡ Some f → T.logs.entered c t ≡ Some e → f.start ≡ e.start → term_of w < t
      → (v : ℕ) → acked_in (T.sites i).acks c ≡ Some v → v ≤ length e.log
  acked-since c t e f was is start above v acked =
      let k = acked-ok c f was v acked in k.later t e above is (sym start ∙ one-in T H c (term_of w) f.start k.start (inl (f, was, refl)) k.was)

  -- its own position, where it counts
  own-log : (v : ℕ) → own_ack (T.sites i) ≡ Some v → v ≤ length (log_at T i)
  own-log v e = cond_both ((T.sites i).mark == term_at T i) _ _ (λ z. z ≡ Some v → v ≤ length (log_at T i))
      (λ _ e. let q : (T.sites i).on_disk ≡ v = same-some e in let d = keeps.on_disk in omega (arith, q, d)) (λ _ e. absurd (cc)) e

  -- what it knew before isn't above what is in a log that has what is everywhere
  known-below : (c n : ℕ) → part T c ≡ part T i → T.logs.reach (part T c) (term_of w) ≤ n → ((T.sites i).firm ≤ n) × ((T.sites i).floor ≤ n)
  known-below c n same low =
      let r : T.logs.reach (part T i) (term_of w) ≤ n = subst (λ p. T.logs.reach p (term_of w) ≤ n) same low in
      let a = member.firm in let b = member.floor in
      (omega (arith, a, r), omega (arith, b, r))

  -- a copy of its term is one of its own copies
  other : (c : ℕ) (e : Entered) → part T c ≡ part T i → T.logs.entered c (term_of w) ≡ Some e → (c ≡ i → ⊥) → In c (other_copies T.words.deployment i (T.sites i))
  other c e same is n = is_in-in c (other_copies T.words.deployment i (T.sites i))
      (copy-other T.words.deployment i (T.sites i) o.word o.view c e.start n same (entered-start T H c (term_of w) e is w own-word))

  -- what copies of the term have in their logs
  pub reach_now-entered : (c : ℕ) (e : Entered) → part T c ≡ part T i → T.logs.entered c (term_of w) ≡ Some e → site_start T c ≡ e.start
      → reach_now T.words.deployment i (T.sites i) ≤ length (log_at T c)
  reach_now-entered c e same is runs = let low = known-below c (length (log_at T c)) same ((H.entered c (term_of w) e is).running runs).2 in elim (cases_eq c i) [
    | inl q ↦ reach_now-own T.words.deployment i (T.sites i) (length (log_at T c)) low.0 low.1
        (λ v own. subst (λ x. v ≤ length (log_at T x)) (sym q) (own-log v own))
    | inr n ↦ reach_now-copy T.words.deployment i (T.sites i) (length (log_at T c)) low.0 low.1 c (other c e same is n)
        (λ v acked. let k = acked-ok c e is v acked in k.now (runs ∙ one-in T H c (term_of w) e.start k.start (inl (e, is, refl)) k.was))
  ]

  -- a start that is counted
  counted-joiner : (c a stream_start : ℕ) (v : Membership) → part T c ≡ part T i → WordOf T (term_of w) v → IsCounted T c a stream_start v
      → (j : Joiner) × In j (T.sites i).joiners × (j.slot ≡ c) × (j.start ≡ a) × (j.stream_start ≡ stream_start)
  counted-joiner c a stream_start v same of counted =
      let is : v ≡ w = same-word T H (term_of w) v w of own-word in
      counted i (ap (λ x. leader T.words.deployment x (part T c)) is ∙ ap (λ p. leader T.words.deployment w p) same ∙ o.first) up o.none (o.view ∙ ap Some (sym is))

  joiner-ok : (j : Joiner) → In j (T.sites i).joiners → CountedOk T (part T i) (term_of w) j
  joiner-ok j is = subst (λ t. CountedOk T (part T i) t j) here (all-at (CountedOk T (part T i) (term_at T i)) (T.sites i).joiners keeps.joiners j is)

  -- of which it isn't above where its stream began or what is in its log
  pub reach_now-counted : (c a stream_start n : ℕ) (v : Membership) → part T c ≡ part T i → WordOf T (term_of w) v → IsCounted T c a stream_start v → site_start T c ≡ a → (T.sites c).earlier < term_of w
      → T.logs.reach (part T c) (term_of w) ≤ n → stream_start ≤ n → length (log_at T c) ≤ n → reach_now T.words.deployment i (T.sites i) ≤ n
  reach_now-counted c a stream_start n v same of counted runs below reach from upto =
      let low = known-below c n same reach in
      reach_now-joiner T.words.deployment i (T.sites i) n low.0 low.1 j r.1
      (let m = (joiner-ok j r.1).position (ap (λ x. site_start T x) r.2 ∙ runs ∙ sym r.3) (subst (λ x. (T.sites x).earlier < term_of w) (sym r.2) below) in
      let l : length (log_at T j.slot) ≤ n = subst (λ x. length (log_at T x) ≤ n) (sym r.2) upto in
      let b = r.4 in
      omega (arith, m, l, b, from))
    where
      r : (j : Joiner) × In j (T.sites i).joiners × (j.slot ≡ c) × (j.start ≡ a) × (j.stream_start ≡ stream_start)
      r = counted-joiner c a stream_start v same of counted

      j : Joiner
      j = r.0

  -- what a slot has in its log that took the stream of the term
  pub reach_now-streamed : (c : ℕ) (x : Streaming) → part T c ≡ part T i → T.logs.streamed c (term_of w) ≡ Some x → site_start T c ≡ x.start
      → reach_now T.words.deployment i (T.sites i) ≤ length (log_at T c)
  reach_now-streamed c x same is runs =
      let k = H.streamed c (term_of w) x is in
      let r = k.running runs in
      reach_now-counted c x.start x.stream_start (length (log_at T c)) k.word same
      (record { decided = took-decided T H x.start k.word k.took; term_is = k.term_is }) k.counted runs r.0 r.2 r.3 (omega arith)

  -- what the log has with which a stream begins that is under way
  pub reach_now-coming : (c : ℕ) (v : Membership) (fl : List Flow) → part T c ≡ part T i → WordOf T (term_of w) v → (T.sites c).earlier < term_of w → log_at T c ≡ []
      → (k : Coming T c v fl) → reach_now T.words.deployment i (T.sites i) ≤ length k.past
  reach_now-coming c v fl same of below empty k =
      reach_now-counted c (site_start T c) (length k.past) (length k.past) v same of k.counted refl below (subst (λ t. T.logs.reach (part T c) t ≤ length k.past) of.term_is k.reach)
      (omega arith) (rw empty (omega arith))

  -- ---- what those have in their logs that entered a later term

  known-since : (c t : ℕ) (e : Entered) (g : Leadership) → T.logs.leadership (part T i) (term_of w) ≡ Some g → part T c ≡ part T i → T.logs.entered c t ≡ Some e → term_of w < t
      → ((T.sites i).firm ≤ length e.log) × ((T.sites i).floor ≤ length e.log)
  known-since c t e g led same is above =
      known-below c (length e.log) same ((H.entered c t e is).since (term_of w) g (ap (λ p. T.logs.leadership p (term_of w)) same ∙ led) above)

  since-entered : (g : Leadership) → T.logs.leadership (part T i) (term_of w) ≡ Some g → (c t : ℕ) (e f : Entered) → part T c ≡ part T i → T.logs.entered c (term_of w) ≡ Some f
      → T.logs.entered c t ≡ Some e → f.start ≡ e.start → term_of w < t → reach_now T.words.deployment i (T.sites i) ≤ length e.log
  since-entered g led c t e f same was is start above =
      let low = known-since c t e g led same is above in
      reach_now-copy T.words.deployment i (T.sites i) (length e.log) low.0 low.1 c (other c f same was away) (acked-since c t e f was is start above)
    where
      -- the leader itself is in its term
      away : c ≡ i → ⊥
      away q =
          let runs = same-some (sym (member.start_is) ∙ ap (λ x. start_of_slot T.words.deployment w x) (sym q) ∙ entered-start T H c (term_of w) f was w own-word) in
          let up-to = ((H.entered c t e is).running (ap (λ x. site_start T x) q ∙ runs ∙ start)).1 in
          let at = ap (λ x. term_at T x) q in
          omega (arith, up-to, at, here, above)

  since-streamed : (g : Leadership) → T.logs.leadership (part T i) (term_of w) ≡ Some g → (c t : ℕ) (e : Entered) (x : Streaming) → part T c ≡ part T i
      → T.logs.streamed c (term_of w) ≡ Some x → T.logs.entered c t ≡ Some e → x.start ≡ e.start → term_of w < t → reach_now T.words.deployment i (T.sites i) ≤ length e.log
  since-streamed g led c t e x same was is start above =
      let k = H.streamed c (term_of w) x was in
      let r = counted-joiner c x.start x.stream_start k.word same (record { decided = took-decided T H x.start k.word k.took; term_is = k.term_is }) k.counted in
      let low = known-since c t e g led same is above in
      let p = (joiner-ok r.0 r.1).later x (ap (λ d. T.logs.streamed d (term_of w)) r.2 ∙ was) (sym r.3) t e above (ap (λ d. T.logs.entered d t) r.2 ∙ is) (sym start ∙ sym r.3) in
      let n = (k.later t e is (sym start)).1 in
      let q = r.4 in
      reach_now-joiner T.words.deployment i (T.sites i) (length e.log) low.0 low.1 r.0 r.1 (omega (arith, p, n, q))

  pub reach_now-since : (g : Leadership) → T.logs.leadership (part T i) (term_of w) ≡ Some g → (c t : ℕ) (e : Entered) → part T c ≡ part T i → T.logs.entered c t ≡ Some e → term_of w < t
      → reach_now T.words.deployment i (T.sites i) ≤ length e.log
  reach_now-since g led = since-raised T H (part T i) (term_of w) (reach_now T.words.deployment i (T.sites i)) g led (since-entered g led) (since-streamed g led)

-- ---- what is everywhere rises

-- a function of two numbers, where it is at least n at one place
abbrev pub raised : (ℕ → ℕ → ℕ) → ℕ → ℕ → ℕ → ℕ → ℕ → ℕ
raised f p t n = put_at f p t (max (f p t) n)

pub raised-both : (P : ℕ → Type 0) (f : ℕ → ℕ → ℕ) (p t n q u : ℕ) → (q ≡ p → u ≡ t → P (max (f q u) n)) → P (f q u) → P (raised f p t n q u)
raised-both P f p t n q u = put-both (λ q u m. (q ≡ p → u ≡ t → P (max (f q u) n)) → P (f q u) → P m) f p t (max (f p t) n)
    (λ here _. here refl refl) (λ q u _ _ there. there) q u

-- In a term that was led it may rise to what is in each log that was in that term, in those with which slots entered later terms, and in the past of each stream under way.
pub reach-raised : (S : LogState) → LogsHold S → (p t n : ℕ) (g : Leadership) → S.logs.leadership p t ≡ Some g → n ≤ length g.log
    → ((c : ℕ) (e : Entered) → part S c ≡ p → S.logs.entered c t ≡ Some e → site_start S c ≡ e.start → n ≤ length (log_at S c))
    → ((c : ℕ) (x : Streaming) → part S c ≡ p → S.logs.streamed c t ≡ Some x → site_start S c ≡ x.start → n ≤ length (log_at S c))
    → ((c u : ℕ) (e : Entered) → part S c ≡ p → S.logs.entered c u ≡ Some e → t < u → n ≤ length e.log)
    → ((c : ℕ) (w : Membership) (fl : List Flow) → part S c ≡ p → WordOf S t w → (S.sites c).earlier < t → log_at S c ≡ [] → (k : Coming S c w fl) → n ≤ length k.past)
    → ReachRests S (raised S.logs.reach p t n)
reach-raised S H p t n g led within entered streamed since coming = let o = reach-same S H in record {
  rises = λ q u. raised-both (λ m. S.logs.reach q u ≤ m) S.logs.reach p t n q u (λ a b. omega arith) (omega arith);
  unled = λ q u none. raised-both (λ m. m ≡ S.logs.reach q u) S.logs.reach p t n q u
      (λ a b. absurd (none-and-some none (ap (λ z. S.logs.leadership z u) a ∙ ap (λ z. S.logs.leadership p z) b ∙ led))) refl;
  led = λ q u h is. raised-both (λ m. m ≤ length h.log) S.logs.reach p t n q u
      (λ a b. let r = o.led q u h is in let e = ap (λ x. length x.log) (same-some (sym led ∙ ap (λ z. S.logs.leadership p z) (sym b) ∙ ap (λ z. S.logs.leadership z u) (sym a) ∙ is)) in
      omega (arith, r, e, within)) (o.led q u h is);
  entered = λ c u e is runs. raised-both (λ m. m ≤ length (log_at S c)) S.logs.reach p t n (part S c) u
      (λ a b. let r = o.entered c u e is runs in let m = entered c e a (ap (λ z. S.logs.entered c z) (sym b) ∙ is) runs in omega (arith, r, m)) (o.entered c u e is runs);
  streamed = λ c u x is runs. raised-both (λ m. m ≤ length (log_at S c)) S.logs.reach p t n (part S c) u
      (λ a b. let r = o.streamed c u x is runs in let m = streamed c x a (ap (λ z. S.logs.streamed c z) (sym b) ∙ is) runs in omega (arith, r, m)) (o.streamed c u x is runs);
  since = λ c u e is v h from below. raised-both (λ m. m ≤ length e.log) S.logs.reach p t n (part S c) v
      (λ a b. let r = o.since c u e is v h from below in let m = since c u e a is (subst (λ z. z < u) b below) in omega (arith, r, m)) (o.since c u e is v h from below);
  coming = λ c w fl decided empty below k. raised-both (λ m. m ≤ length k.past) S.logs.reach p t n (part S c) (term_of w)
      (λ a b. let r = k.reach in
      let m = coming c w fl a (record { decided = decided; term_is = b }) (subst (λ z. (S.sites c).earlier < z) b below) empty k in omega (arith, r, m)) k.reach;
}

-- ---- answers that were held

pub answers-all : (P : Letter → Type 0) (b : Actor) → ((d : Held) → HeldOk d → d.to ≡ b → P d.letter) → (firm : ℕ) (ds : List Held) → AllByRecursion HeldOk ds
    → AllByRecursion P (answers_held firm ds b)
answers-all P b f firm ds h = all-from P (answers_held firm ds b) (λ l i.
    let r = in-map-from (λ d. d.letter) l (filter (λ d. nat_le d.position firm && same d.to b) ds) i in
    let k = in-filter (λ d. nat_le d.position firm && same d.to b) r.0 ds r.1 in
    subst P r.2 (f r.0 (all-at HeldOk ds h r.0 k.0) (same-true r.0.to b (and_parts (nat_le r.0.position firm) (same r.0.to b) k.1).1)))

-- none goes to a site
pub held-away : (c : ℕ) (d : Held) → HeldOk d → d.to ≡ Site c → ⊥
held-away c d ok e = subst (λ a. HeldFor a d.letter) e ok

held-told : (T : LogState) (i h : ℕ) (d : Held) → HeldOk d → d.to ≡ Agent h → ToldOk T i d.letter
held-told T i h d ok e = go d.letter (subst (λ a. HeldFor a d.letter) e ok)
  where
    go : (l : Letter) → HeldFor (Agent h) l → ToldOk T i l
    go l k = elim l.body as (λ m. HeldFor (Agent h) (record l { body = m }) → ToldOk T i (record l { body = m })) [ msg.Loaded a ↦ λ p. absurd p | m ↦ λ p. tt ] k

pub answers-rest : (T : LogState) (i firm : ℕ) (ds : List Held) → AllByRecursion HeldOk ds → SaysRests T i (answers_held firm ds)
answers-rest T i firm ds h = record {
  sites = λ c. answers-all (λ l. Bare l × SiteLetterOk T i c l) (Site c) (λ d ok e. absurd (held-away c d ok e)) firm ds h;
  ended = λ c w joins decided away. flat-none (end_of (site_start T c) (term_of w)) (answers_held firm ds (Site c))
      (answers-all (λ l. end_of (site_start T c) (term_of w) l ≡ []) (Site c) (λ d ok e. absurd (held-away c d ok e)) firm ds h);
  told = λ a. answers-all (ToldOk T i) (Agent a) (held-told T i a) firm ds h;
}

-- ---- the leader counts

counts-leads : (T : LogState) → LogsHold T → (i : ℕ) → 0 < site_start T i → leads T.words.deployment i (T.sites i) ≡ true
    → LogsGo T i (sends_firm (record (T.sites i) { firm = firm_now T.words.deployment i (T.sites i); floor = floor_now T.words.deployment i (T.sites i) }))
counts-leads T H i up authoritative = elim (none-or-some (T.logs.leadership (part T i) (term_of w))) [
  | inl e ↦ absurd (not-both s.repaired parts.1 (subst (λ r. LeadsIn s r) e (o.member.leading o.first)))
  | inr (g, e) ↦ rests-goes T H i (record s { firm = firm_now D i s; floor = floor_now D i s; held = filter (λ d. nat_lt (firm_now D i s) d.position) s.held })
      (answers_held (firm_now D i s) s.held) (raised T.logs.reach (part T i) (term_of w) n) rests
      (reach-raised T H (part T i) (term_of w) n g e (within g e)
      (λ c e same is runs. reach_now-entered T H i up o c e same is runs)
      (λ c x same is runs. reach_now-streamed T H i up o c x same is runs)
      (reach_now-since T H i up o g e)
      (λ c x fl same of below empty q. reach_now-coming T H i up o c x fl same of below empty q))
      (answers-rest T i (firm_now D i s) s.held k.held)
]
  where
    D : Deployment
    D = T.words.deployment

    s : SiteState
    s = T.sites i

    n : ℕ
    n = reach_now D i s

    parts : (is_leader D i s ≡ true) × (s.repaired ≡ true)
    parts = leads-parts D i s authoritative

    o : LeaderOf T i
    o = leader-of T H i up parts.0

    w : Membership
    w = o.word

    k : KeepsOk T i
    k = (H.sites i).keeps up

    here : n ≤ raised T.logs.reach (part T i) (term_of w) n (part T i) (term_of w)
    here = subst (λ m. n ≤ m) (sym (put-here T.logs.reach (part T i) (term_of w) (max (T.logs.reach (part T i) (term_of w)) n))) (omega arith)

    rests : SiteRests T (raised T.logs.reach (part T i) (term_of w) n) i
        (record s { firm = firm_now D i s; floor = floor_now D i s; held = filter (λ d. nat_lt (firm_now D i s) d.position) s.held })
    rests = record {
      is = refl;
      member = λ e. e;
      joiner = λ j e. absurd (none-and-some o.none e);
      counts = inr (
        parts.1,
        o.none,
        λ x e. subst (λ z. (floor_now D i s ≤ raised T.logs.reach (part T i) (term_of w) n (part T i) (term_of z))
            × (firm_now D i s ≤ raised T.logs.reach (part T i) (term_of w) n (part T i) (term_of z))) (same-some (sym o.view ∙ e))
            (omega (arith, here), omega (arith, here)),
      );
      acks = λ up. k.acks;
      joiners = λ up. k.joiners;
      alone = λ up. k.alone;
      leads = λ up. k.leads;
      counted = same-joiners s.joiners;
      on_disk = λ up. k.on_disk;
      held = λ up. all-filter HeldOk (λ d. nat_lt (firm_now D i s) d.position) s.held k.held;
    }

    -- its own log is that of its term
    within : (g : Leadership) → T.logs.leadership (part T i) (term_of w) ≡ Some g → n ≤ length g.log
    within g e =
        let b = reach_now-entered T H i up o i o.member.entered refl o.member.is_entered (sym o.member.since) in
        let l = ap length (subst (λ r. LeadsIn s r) e (o.member.leading o.first)).1 in
        omega (arith, b, l)

pub counts-goes : (T : LogState) → LogsHold T → (i : ℕ) → 0 < site_start T i → LogsGo T i (counts T.words.deployment i (T.sites i))
counts-goes T H i up = cond_both (leads T.words.deployment i (T.sites i)) _ _ (LogsGo T i) (λ e. counts-leads T H i up e) (λ e. goes-same T i H)
