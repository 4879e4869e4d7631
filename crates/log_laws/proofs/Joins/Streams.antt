-- A leader takes a joiner: it counts it, and its stream begins.
use Rattle.log_laws.proofs.Names.{Bool, List, ap, append-nil, arith, false, inl, inr, refl, subst, sym, true, true≢false, ◌≡◌, ◌++◌, ◌∷◌, ◌∙◌, ◌⊎◌, ◌<◌, ◌≤◌, ◌==◌, [], ◌+◌, and_parts, cases_eq, eq-eqb, eqb-true, not-true, length-append, map-append, nil_from_length, AllByRecursion, list_any, None, Option, Some, filter, find, is_none, length, map, not, ◌&&◌, if◌then◌else◌, ℕ, Membership, Actor, Agent, Site, Database, Letter, Turn, letter_in, same, nothing_open, can_take, is_lost_in, stream_head, takes_asks, takes_first_ask, takes_joiner, without_first, Ask, Joiner, Joining, SiteState, Streamed, is_leader, leads, site_term, leader, term_in, term_of, sent, set_at, all-append, all-at, all-from, eqb-same, filter-in, if-true, in-cases, in-left, in-map, in-map-from, in-right, list_any-in, none-and-some, same-some, set-both, set-here, set-there, Distinct, In, leader-view, leads-parts, prefix-length, AsksToJoin, BeginsAt, Coming, CountedOk, EndOk, ForeignOk, LogsHold, InWord, IsCounted, IsSlot, JoinerOk, JoinsIn, KeepsOk, LeadsIn, LogState, MemberOk, Inert, Leadership, SiteLetterOk, StreamIn, Took, ViewIn, asked, asks_in, asks_kept, asks_of_term, asks_waiting, between, end_in, stream_ends_in, flow, flow_of, follows, line, log_at, part, site_start, term_at, ask_of, end_of, flow_in, line_of}
use Rattle.volt_wire.specs.declared.message.Msg.TheVariants as msg
use Rattle.log_laws.proofs.Kept.{AsksLess, AtMost, at-most-behind, at-most-both, at-most-same, CountedBy, SiteStays, Uncounted, counted-from, in_word-keeps-with, joiner-keeps-with, streamed-later, LogsLater, after_site, counts-on, with-site, after-same, SiteGoesOn, goes-on-same, steady-asks, steady-counted, steady-holds, steady-joiner, steady-joins, steady-keeps, steady-later, steady-member, steady-leaderships, running-slot, same-word, some-term, took-decided, still-same, asked_of, in-asked, keeps-less}
use Rattle.log_laws.proofs.Kept.Steady.{Steady}
use Rattle.log_laws.proofs.Plain.{follows-one, is-leader, leader-followed, kept-append, flat-each, flat-push, flat-same, for-here, for-other, if-empty, one-and-others}
use Rattle.log_laws.proofs.Joins.StreamStarts.{letter-later-ends}

-- ---- lists

-- the first that passes, and the list without it
pub found-first : (p : Ask → Bool) (xs : List Ask) (a : Ask) → find p xs ≡ Some a
    → (pre : List Ask) × (post : List Ask) × (xs ≡ pre ++ a ∷ post) × (without_first p xs ≡ pre ++ post) × (p a ≡ true)
found-first p [] a e = absurd (cc)
found-first p (x ∷ xs) a e = choice (p x) refl e (found-first p xs a)
  where
    choice : (b : Bool) → p x ≡ b → (if b then Some x else find p xs) ≡ Some a
        → (find p xs ≡ Some a → (pre : List Ask) × (post : List Ask) × (xs ≡ pre ++ a ∷ post) × (without_first p xs ≡ pre ++ post) × (p a ≡ true))
        → (pre : List Ask) × (post : List Ask) × (x ∷ xs ≡ pre ++ a ∷ post) × ((if b then xs else x ∷ without_first p xs) ≡ pre ++ post) × (p a ≡ true)
    choice true q e f = let is = same-some e in ([], xs, ap (λ z. z ∷ xs) is, refl, ap p (sym is) ∙ q)
    choice false q e f = let r = f e in (x ∷ r.0, r.1, ap (λ z. x ∷ z) r.2, ap (λ z. x ∷ z) r.3, r.4)

pub distinct-push : (xs : List ℕ) (x : ℕ) → Distinct xs → (In x xs → ⊥) → Distinct (xs ++ x ∷ [])
distinct-push [] x h n = (λ i. i, tt)
distinct-push (y ∷ ys) x h n = (
  λ i. elim (in-cases y ys (x ∷ []) i) [ inl k ↦ h.0 k | inr (inl e) ↦ n (inl (sym e)) | inr (inr k) ↦ k ],
  distinct-push ys x h.1 (λ i. n (inr i)),
)

all-without : {A : Type 0} (P : A → Type 0) (xs ys : List A) (x : A) → AllByRecursion P (xs ++ x ∷ ys) → AllByRecursion P (xs ++ ys)
all-without P [] ys x h = h.1
all-without P (z ∷ xs) ys x h = (h.0, all-without P xs ys x h.1)

in-middle : {A : Type 0} (x : A) (xs ys : List A) → In x (xs ++ x ∷ ys)
in-middle x xs ys = in-right x xs (x ∷ ys) (inl refl)

-- those of a slot, without one
kept-fewer : (c : ℕ) (pre post : List Ask) (a : Ask) → AtMost (asks_kept c (pre ++ a ∷ post)) (asks_kept c (pre ++ post))
kept-fewer c pre post a = subst (λ z. AtMost (asks_kept c (pre ++ a ∷ post)) z) (sym (kept-append c pre post)) (subst (λ z. AtMost z (asks_kept c pre ++ asks_kept c post)) (sym whole)
    (at-most-both (asks_kept c pre) (asks_kept c pre) (asks_kept c (a ∷ []) ++ asks_kept c post) (asks_kept c post) (at-most-same (asks_kept c pre))
    (at-most-behind (asks_kept c (a ∷ [])) (asks_kept c post))))
  where
    whole : asks_kept c (pre ++ a ∷ post) ≡ asks_kept c pre ++ (asks_kept c (a ∷ []) ++ asks_kept c post)
    whole = kept-append c pre (a ∷ post) ∙ ap (λ z. asks_kept c pre ++ z) (kept-append c (a ∷ []) post)

kept-length : (pre post : List Ask) (a : Ask) → length (asks_kept a.slot (pre ++ a ∷ post)) ≡ length (asks_kept a.slot (pre ++ post)) + 1
kept-length [] post a = rw (eqb-same a.slot) (omega arith)
kept-length (x ∷ pre) post a = choice (x.slot == a.slot) (kept-length pre post a)
  where
    choice : (b : Bool) → length (asks_kept a.slot (pre ++ a ∷ post)) ≡ length (asks_kept a.slot (pre ++ post)) + 1
        → length (map (λ k. k.start) (if b then x ∷ filter (λ k. k.slot == a.slot) (pre ++ a ∷ post) else filter (λ k. k.slot == a.slot) (pre ++ a ∷ post)))
        ≡ length (map (λ k. k.start) (if b then x ∷ filter (λ k. k.slot == a.slot) (pre ++ post) else filter (λ k. k.slot == a.slot) (pre ++ post))) + 1
    choice true e = omega (arith, e)
    choice false e = e

four-length : (as_ bs cs ds : List ℕ) → length (as_ ++ bs ++ cs ++ ds) ≡ length as_ + length bs + length cs + length ds
four-length as_ bs cs ds = length-append (as_ ++ bs ++ cs) ds ∙ ap (λ n. n + length ds) (length-append (as_ ++ bs) cs ∙ ap (λ n. n + length cs) (length-append as_ bs))

kept-in : (xs : List Ask) (a : Ask) → In a xs → In a.start (asks_kept a.slot xs)
kept-in xs a i = in-map (λ k. k.start) a (filter (λ k. k.slot == a.slot) xs) (filter-in (λ k. k.slot == a.slot) a xs i (eqb-same a.slot))

-- ---- the leader takes a joiner that asked

module _ (E : Database) (S : LogState) (H : LogsHold S) (i : ℕ) (up : 0 < site_start S i) (a : Ask) (pre post : List Ask)
    (asks-are : (S.sites i).asks ≡ pre ++ a ∷ post) (may : can_take S.words.deployment i (S.sites i) a ≡ true) where
  abbrev turn : Turn SiteState
  turn = takes_joiner E S.words.deployment i a (record (S.sites i) { asks = pre ++ post })

  -- what it sends the joiner, and how it counts it
  abbrev begins : Letter
  begins = record (letter_in (term_at S i) a.start (msg.StreamStart (stream_head E S.words.deployment i (S.sites i)))) { past = log_at S i }

  abbrev new : Joiner
  new = record { slot = a.slot; start = a.start; stream_start = length (log_at S i); position = length (log_at S i); count = None }

  abbrev channels : Actor → Actor → List Letter
  channels = sent S.words.channel (Site i) turn.sends

  abbrev T : LogState
  T = with-site S i turn.state channels S.pending S.logs.streamed

  -- ---- the leader

  tests : (leads S.words.deployment i (S.sites i) ≡ true) × (list_any (λ j. j.slot == a.slot) (S.sites i).joiners ≡ false)
  tests =
      let s = S.sites i in let D = S.words.deployment in
      let lost = not (is_lost_in s.view a.start) in
      let p = and_parts (leads D i s && s.mark == site_term s && nothing_open s.log && is_none s.scanning && lost) (not (list_any (λ j. j.slot == a.slot) s.joiners)) may in
      let q = and_parts (leads D i s && s.mark == site_term s && nothing_open s.log && is_none s.scanning) lost p.0 in
      let r = and_parts (leads D i s && s.mark == site_term s && nothing_open s.log) (is_none s.scanning) q.0 in
      let u = and_parts (leads D i s && s.mark == site_term s) (nothing_open s.log) r.0 in
      ((and_parts (leads D i s) (s.mark == site_term s) u.0).0, not-true (list_any (λ j. j.slot == a.slot) s.joiners) p.1)

  leading : (is_leader S.words.deployment i (S.sites i) ≡ true) × ((S.sites i).repaired ≡ true)
  leading = leads-parts S.words.deployment i (S.sites i) tests.0

  no-joiner : (S.sites i).joining ≡ None
  no-joiner = (leader-view S.words.deployment i (S.sites i) leading.0).0

  found : (w : Membership) × ((S.sites i).view ≡ Some w) × MemberOk S i w
  found = (H.sites i).member up no-joiner

  abbrev w : Membership
  w = found.0

  same-term : term_at S i ≡ term_of w
  same-term = ap term_in found.1

  authoritative : leader S.words.deployment w (part S i) ≡ Some i
  authoritative = (is-leader S.words.deployment i (S.sites i) w found.1 leading.0).1

  slot : IsSlot S i
  slot = running-slot S H i up

  leadership : (g : Leadership) × (S.logs.leadership (part S i) (term_of w) ≡ Some g) × (log_at S i ≡ g.log)
  leadership = go (S.logs.leadership (part S i) (term_of w)) refl (found.2.leading authoritative)
    where
      go : (o : Option Leadership) → S.logs.leadership (part S i) (term_of w) ≡ o → LeadsIn (S.sites i) o
          → (g : Leadership) × (S.logs.leadership (part S i) (term_of w) ≡ Some g) × (log_at S i ≡ g.log)
      go None e k = absurd (true≢false (sym leading.1 ∙ k))
      go (Some g) e k = (g, e, k.1)

  -- ---- what is under way

  chan : (k c : ℕ) → (between T k c ≡ between S k c) ⊎ ((k ≡ i) × (c ≡ a.slot) × (between T k c ≡ between S k c ++ begins ∷ []))
  chan k c = choice (i == k) (a.slot == c) refl refl
    where
      choice : (b d : Bool) → (i == k) ≡ b → (a.slot == c) ≡ d
          → ((if b then between S k c ++ ((if d then begins ∷ [] else []) ++ []) else between S k c) ≡ between S k c)
          ⊎ ((k ≡ i) × (c ≡ a.slot) × ((if b then between S k c ++ ((if d then begins ∷ [] else []) ++ []) else between S k c) ≡ between S k c ++ begins ∷ []))
      choice true true p q = inr (sym (eqb-true i k p), sym (eqb-true a.slot c q), refl)
      choice true false p q = inl (append-nil (between S k c))
      choice false d p q = inl refl

  chan-here : between T i a.slot ≡ between S i a.slot ++ begins ∷ []
  chan-here = rw (eqb-same i, eqb-same a.slot) refl

  same-lines : (k c x t : ℕ) → line x t (between T k c) ≡ line x t (between S k c)
  same-lines k c x t = elim (chan k c) [
    | inl e ↦ ap (line x t) e
    | inr e ↦ ap (line x t) e.2 ∙ flat-same (line_of x t) (between S k c) (begins ∷ []) (ap (λ z. z ++ []) (if-empty _ _ refl))
  ]

  same-ends : (k c x t : ℕ) → stream_ends_in x t (between T k c) ≡ stream_ends_in x t (between S k c)
  same-ends k c x t = elim (chan k c) [
    | inl e ↦ ap (stream_ends_in x t) e
    | inr e ↦ ap (stream_ends_in x t) e.2 ∙ flat-same (end_of x t) (between S k c) (begins ∷ []) (ap (λ z. z ++ []) (if-empty _ _ refl))
  ]

  same-asks : (k c t : ℕ) → asks_in t (between T k c) ≡ asks_in t (between S k c)
  same-asks k c t = elim (chan k c) [
    | inl e ↦ ap (asks_in t) e
    | inr e ↦ ap (asks_in t) e.2 ∙ flat-same (ask_of t) (between S k c) (begins ∷ []) (ap (λ z. z ++ []) (if-empty _ _ refl))
  ]

  -- but to the joiner that asked
  same-flows : (k c x t : ℕ) → (c ≡ a.slot → x ≡ a.start → ⊥) → flow x t (between T k c) ≡ flow x t (between S k c)
  same-flows k c x t n = elim (chan k c) [
    | inl e ↦ ap (flow x t) e
    | inr e ↦ ap (flow x t) e.2 ∙ flat-same (flow_of x t) (between S k c) (begins ∷ []) (ap (λ z. z ++ []) (for-other x t begins (flow_in begins.past begins.body) (λ s _. n e.1 (sym s))))
  ]

  -- ---- what is kept

  goes-on : SiteGoesOn (S.sites i) turn.state
  goes-on = search arith

  there : (c : ℕ) → (c ≡ i → ⊥) → set_at S.sites i turn.state c ≡ S.sites c
  there c n = set-there S.sites i turn.state c n

  still : (c : ℕ) → SiteStays (S.sites c) (set_at S.sites i turn.state c)
  still = set-both (λ c x. SiteStays (S.sites c) x) S.sites i turn.state (search) (λ c n. still-same (S.sites c) (S.sites c) refl)

  steady : Steady S channels (set_at S.sites i turn.state) S.logs.streamed
  steady = record {
    sites = set-both (λ c x. SiteGoesOn (S.sites c) x) S.sites i turn.state goes-on (λ c n. goes-on-same (S.sites c));
    agents = λ h b. refl;
    told = λ c h. told (same (Site i) (Site c)) c h;
    director = λ h. refl;
    streamed = λ c t x is. is;
    fresh = λ c t x is. inl is;
  }
    where
      told : (b : Bool) (c h : ℕ) → (if b then S.words.channel (Site c) (Agent h) ++ [] else S.words.channel (Site c) (Agent h)) ≡ S.words.channel (Site c) (Agent h)
      told true c h = append-nil (S.words.channel (Site c) (Agent h))
      told false c h = refl

  later : LogsLater S T
  later = steady-later S channels (set_at S.sites i turn.state) S.pending S.logs.streamed H steady

  -- the asks that it keeps
  asks-less : AsksLess S T
  asks-less c l t = set-both (λ l x. AtMost (asked S c l t) (asked_of c t (between T c l) x (S.pending l))) S.sites i turn.state
      (rw (same-asks c i t) (keeps-less c t (between S c i) (S.sites i) turn.state (S.pending i) refl (fewer (site_term (S.sites i) == t))))
      (λ l n. rw (same-asks c l t) (at-most-same (asked S c l t))) l
    where
      fewer : (b : Bool) → AtMost (if b then asks_kept c (S.sites i).asks else []) (if b then asks_kept c (pre ++ post) else [])
      fewer true = subst (λ z. AtMost (asks_kept c z) (asks_kept c (pre ++ post))) (sym asks-are) (kept-fewer c pre post a)
      fewer false = at-most-same []

  -- whom it counted it counts
  counted : (c b stream_start : ℕ) (v : Membership) → IsCounted S c b stream_start v → IsCounted T c b stream_start v
  counted c b stream_start v k = counted-from S T H later i there c b stream_start v (counts-on S i turn.state channels S.pending S.logs.streamed goes-on
      (λ j is. (j, in-left j (S.sites i).joiners (new ∷ []) is, refl, refl, refl)) c b stream_start v) k

  uncounted : (l c b : ℕ) → (c ≡ a.slot → b ≡ a.start → ⊥) → Uncounted S l c b → Uncounted T l c b
  uncounted l c b n k = set-both (λ l x. Uncounted S l c b → (j : Joiner) → In j x.joiners → j.slot ≡ c → j.start ≡ b → ⊥) S.sites i turn.state
      (λ k j is s t. elim (in-cases j (S.sites i).joiners (new ∷ []) is) [
        | inl old ↦ k j old s t
        | inr (inl e) ↦ n (sym s ∙ ap (λ z. z.slot) (sym e)) (sym t ∙ ap (λ z. z.start) (sym e))
        | inr (inr k) ↦ k
      ])
      (λ l n k. k) l k

  -- ---- who asked

  ok : AsksToJoin S (part S i) a.slot (term_at S i) a.start
  ok = all-at (λ a. AsksToJoin S (part S i) a.slot (term_at S i) a.start) (S.sites i).asks ((H.sites i).keeps up).asks a (subst (In a) (sym asks-are) (in-middle a pre post))

  asked-it : In a.start (asked S a.slot i (term_of w))
  asked-it = in-asked S a.slot i (term_of w) a.start (inr (inr
      (subst (In a.start) (sym (if-true (term_at S i == term_of w) (asks_kept a.slot (S.sites i).asks) [] (eq-eqb (term_at S i) (term_of w) same-term)))
      (kept-in (S.sites i).asks a (subst (In a) (sym asks-are) (in-middle a pre post))))))

  unasked : asked S a.slot i (term_of w) ≡ [] → ⊥
  unasked e = subst (In a.start) e asked-it

  -- If that start runs, it joins in the leader's word, and nothing is under way to it yet.
  module _ (runs : site_start S a.slot ≡ a.start) where
    joins : (v : Membership) × JoinsIn S a.slot v × (term_of v ≡ term_at S i)
    joins = ok.joins runs

    abbrev j : Joining
    j = joins.1.0

    joiner-is : JoinerOk S a.slot j
    joiner-is = (H.sites a.slot).joiner j joins.1.1

    in-own : InWord S a.slot joins.0 j
    in-own = subst (ViewIn S a.slot j) joins.1.2 joiner-is.view

    word-is : joins.0 ≡ w
    word-is = same-word S H (term_of w) joins.0 w (record { decided = took-decided S H (site_start S a.slot) joins.0 in-own.took; term_is = joins.2 ∙ same-term })
        (record { decided = found.2.decided; term_is = refl })

    view-is : (S.sites a.slot).view ≡ Some w
    view-is = joins.1.2 ∙ ap Some word-is

    in-word : InWord S a.slot w j
    in-word = subst (λ v. InWord S a.slot v j) word-is in-own

    follows-it : follows S.words.deployment w a.slot i ≡ true
    follows-it = leader-followed S.words.deployment w i a.slot authoritative ok.part_is
        (λ e. none-and-some (subst (λ z. (S.sites z).joining ≡ None) (sym e) no-joiner) joins.1.1)

    untook : (stream_start : ℕ) → Took S a.slot w j stream_start → ⊥
    untook stream_start u = unasked (u.asks i slot)

    is-inert : Inert S a.slot w i ⊎ (Coming S a.slot w (flow (site_start S a.slot) (term_of w) (between S i a.slot)) × (asked S a.slot i (term_of w) ≡ [])) → Inert S a.slot w i
    is-inert (inl q) = q
    is-inert (inr q) = absurd (unasked q.1)

    inert : (S.sites a.slot).earlier < term_of w → Inert S a.slot w i
    inert low = go j.stream in-word.stream
      where
        go : (o : Option Streamed) → StreamIn S a.slot w j o → Inert S a.slot w i
        go None u = is-inert (u.comes i follows-it low)
        go (Some st) u = absurd (untook st.stream_start u)

    -- then its stream begins
    new-counted : IsCounted T a.slot (site_start S a.slot) (length (log_at S i)) w
    new-counted l leads = subst (λ z. CountedBy T a.slot (site_start S a.slot) (length (log_at S i)) w z)
        (same-some (sym authoritative ∙ subst (λ p. leader S.words.deployment w p ≡ Some l) ok.part_is leads))
        (λ _ _ _. (new, subst (λ x. In new x.joiners) (sym (set-here S.sites i turn.state)) (in-right new (S.sites i).joiners (new ∷ []) (inl refl)), refl, sym runs, refl))

    new-coming : Inert S a.slot w i → Coming T a.slot w (flow (site_start S a.slot) (term_of w) (between T i a.slot))
    new-coming q = record {
      past = log_at S i;
      more = [];
      leadership = leadership.0;
      flow_is = ap (flow (site_start S a.slot) (term_of w)) chan-here ∙ flat-push (flow_of (site_start S a.slot) (term_of w)) (between S i a.slot) begins
          ∙ ap (λ z. z ++ flow_of (site_start S a.slot) (term_of w) begins) q.flow_is ∙ for-here (site_start S a.slot) (term_of w) begins (flow_in begins.past begins.body) (sym runs) same-term;
      led = ap (λ p. S.logs.leadership p (term_of w)) ok.part_is ∙ leadership.1;
      whole = append-nil (log_at S i) ∙ leadership.2;
      behind = subst (λ z. length leadership.0.begun ≤ length z) (sym leadership.2) (prefix-length leadership.0.begun leadership.0.log (H.leaderships (part S i) (term_of w) leadership.0 leadership.1).grown);
      reach = subst (λ p. S.logs.reach p (term_of w) ≤ length (log_at S i)) (sym ok.part_is)
          ((H.entered i (term_of w) found.2.entered found.2.is_entered).running (sym found.2.since)).2;
      counted = rw ((still a.slot).start) new-counted;
    }

    -- and it has asked no more
    new-asked : Inert S a.slot w i → asked T a.slot i (term_of w) ≡ []
    new-asked q = elim (q.asks slot) [ inl none ↦ absurd (unasked none) | inr one ↦ nil_from_length (asked T a.slot i (term_of w)) (fewer (ap length one)) ]
      where
        kept-here : asks_of_term a.slot (term_of w) (S.sites i) ≡ asks_kept a.slot (pre ++ a ∷ post)
        kept-here = if-true (term_at S i == term_of w) (asks_kept a.slot (S.sites i).asks) [] (eq-eqb (term_at S i) (term_of w) same-term) ∙ ap (asks_kept a.slot) asks-are

        kept-after : asks_of_term a.slot (term_of w) turn.state ≡ asks_kept a.slot (pre ++ post)
        kept-after = if-true (term_at S i == term_of w) (asks_kept a.slot (pre ++ post)) [] (eq-eqb (term_at S i) (term_of w) same-term)

        asked-after : asked T a.slot i (term_of w)
            ≡ asks_in (term_of w) (between S a.slot i) ++ asks_waiting a.slot (term_of w) (S.sites i).waiting ++ asks_waiting a.slot (term_of w) (S.pending i)
            ++ asks_kept a.slot (pre ++ post)
        asked-after = ap (λ x. asked_of a.slot (term_of w) (between T a.slot i) x (S.pending i)) (set-here S.sites i turn.state)
            ∙ ap (λ z. z ++ asks_waiting a.slot (term_of w) (S.sites i).waiting ++ asks_waiting a.slot (term_of w) (S.pending i) ++ asks_of_term a.slot (term_of w) turn.state)
            (same-asks a.slot i (term_of w))
            ∙ ap (λ z. asks_in (term_of w) (between S a.slot i) ++ asks_waiting a.slot (term_of w) (S.sites i).waiting ++ asks_waiting a.slot (term_of w) (S.pending i) ++ z)
            kept-after

        fewer : length (asked S a.slot i (term_of w)) ≡ 1 → length (asked T a.slot i (term_of w)) ≡ 0
        fewer e =
            let as_ = asks_in (term_of w) (between S a.slot i) in
            let bs = asks_waiting a.slot (term_of w) (S.sites i).waiting in
            let cs = asks_waiting a.slot (term_of w) (S.pending i) in
            let before = sym (ap (λ z. length (as_ ++ bs ++ cs ++ z)) kept-here) ∙ e in
            let sum = sym (four-length as_ bs cs (asks_kept a.slot (pre ++ a ∷ post))) ∙ before in
            let one = kept-length pre post a in
            let after_site = ap length asked-after ∙ four-length as_ bs cs (asks_kept a.slot (pre ++ post)) in
            omega (arith, sum, one, after_site)

    in-word-after : InWord T a.slot w j
    in-word-after = in_word-keeps-with S T H later a.slot (still a.slot) w j (record { entered = λ t e is _. is; streamed = λ t x is _. is })
        (λ l e. same-lines l a.slot (site_start S a.slot) (term_of w) ∙ e)
        (λ l f flows ending. (ap (flow (site_start S a.slot) (term_of w)) (elsewhere l f) ∙ flows, same-ends l a.slot (site_start S a.slot) (term_of w) ∙ ending))
        (λ l. asks-less a.slot l (term_of w))
        (λ l f low either. subst (λ z. Inert T a.slot w z ⊎ (Coming T a.slot w (flow (site_start S a.slot) (term_of w) (between T z a.slot)) × (asked T a.slot z (term_of w) ≡ [])))
        (follows-one S.words.deployment w a.slot i l follows-it f) (inr (new-coming (inert low), new-asked (inert low))))
        (λ stream_start u. absurd (untook stream_start u)) in-word
      where
        elsewhere : (l : ℕ) → follows S.words.deployment w a.slot l ≡ false → between T l a.slot ≡ between S l a.slot
        elsewhere l f = elim (chan l a.slot) [
          | inl e ↦ e
          | inr e ↦ absurd (true≢false (sym (subst (λ z. follows S.words.deployment w a.slot z ≡ true) (sym e.0) follows-it) ∙ f))
        ]

  -- ---- all slots, and all messages

  -- whether it is the joiner that asked
  asker : (c : ℕ) → ((c ≡ a.slot) × (site_start S c ≡ a.start)) ⊎ (c ≡ a.slot → site_start S c ≡ a.start → ⊥)
  asker c = elim (cases_eq c a.slot) [
    | inr n ↦ inr (λ e _. n e)
    | inl e ↦ elim (cases_eq (site_start S c) a.start) [ inl r ↦ inl (e, r) | inr n ↦ inr (λ _ r. n r) ]
  ]

  joiner-after : (c : ℕ) (k : Joining) → (set_at S.sites i turn.state c).joining ≡ Some k → JoinerOk T c k
  joiner-after c k e = elim (asker c) [
    | inl r ↦ subst (λ z. JoinerOk T z k) (sym r.0)
        (of-asker (subst (λ z. site_start S z ≡ a.start) r.0 r.1) (subst (λ z. (S.sites z).joining ≡ Some k) r.0 (sym (still c).joining ∙ e)))
    | inr n ↦ steady-joiner S channels (set_at S.sites i turn.state) S.pending S.logs.streamed H steady c (still c) (λ t x is _. is)
        (λ l. record {
          lines = same-lines l c (site_start S c) (term_at S c);
          flows = same-flows l c (site_start S c) (term_at S c) n;
          ends = λ none. same-ends l c (site_start S c) (term_at S c) ∙ none;
          asks = asks-less c l (term_at S c);
          uncounted = uncounted l c (site_start S c) n;
        })
        (λ stream_start v. counted c (site_start S c) stream_start v) k e
  ]
    where
      of-asker : site_start S a.slot ≡ a.start → (S.sites a.slot).joining ≡ Some k → JoinerOk T a.slot k
      of-asker runs is = subst (JoinerOk T a.slot) (same-some (sym (joins runs).1.1 ∙ is))
          (joiner-keeps-with S T H later a.slot (still a.slot) (j runs) (record { entered = λ t e is _. is; streamed = λ t x is _. is })
          (λ v view h. subst (λ z. InWord T a.slot z (j runs)) (same-some (sym (view-is runs) ∙ view)) (in-word-after runs)) (joiner-is runs))

  -- the one that is counted
  new-ok : CountedOk S (part S i) (term_at S i) new
  new-ok = record {
    been = ok.been;
    part_is = ok.part_is;
    reached = λ runs. subst (λ o. term_at S i ≤ term_in o) (sym (joins runs).1.2) (let e = (joins runs).2 in omega (arith, e));
    position = λ _ _. omega arith;
    later = λ x is start u e above now own. omega arith;
  }

  keeps-after : (c : ℕ) → KeepsOk S c → KeepsOk T c
  keeps-after = one-and-others _ i own (λ c n k. steady-keeps S channels (set_at S.sites i turn.state) S.pending S.logs.streamed H steady c k
      (rw (there c n) (steady-counted S channels (set_at S.sites i turn.state) S.pending S.logs.streamed H steady (part S c) (term_at S c) (S.sites c).joiners k.joiners))
      (rw (there c n) k.alone) (rw (there c n) k.leads)
      (rw (there c n) (steady-asks S channels (set_at S.sites i turn.state) S.pending S.logs.streamed H steady (part S c) (term_at S c) (S.sites c).asks k.asks))
      k.pending (rw (there c n) k.on_disk))
    where
      here : set_at S.sites i turn.state i ≡ turn.state
      here = set-here S.sites i turn.state

      -- it counted no joiner of that slot
      alone : In a.slot (map (λ j. j.slot) (S.sites i).joiners) → ⊥
      alone is = let r = in-map-from (λ j. j.slot) a.slot (S.sites i).joiners is in
          true≢false (sym (list_any-in (λ j. j.slot == a.slot) (S.sites i).joiners r.0 r.1 (eq-eqb r.0.slot a.slot r.2)) ∙ tests.1)

      own : KeepsOk S i → KeepsOk T i
      own k = steady-keeps S channels (set_at S.sites i turn.state) S.pending S.logs.streamed H steady i k
          (subst (λ x. AllByRecursion (CountedOk T (part S i) (term_at S i)) x.joiners) (sym here)
          (steady-counted S channels (set_at S.sites i turn.state) S.pending S.logs.streamed H steady (part S i) (term_at S i) turn.state.joiners
          (all-append (CountedOk S (part S i) (term_at S i)) (S.sites i).joiners (new ∷ []) k.joiners (new-ok, tt))))
          (subst (λ x. Distinct (map (λ j. j.slot) x.joiners)) (sym here)
          (subst Distinct (sym (map-append (λ j. j.slot) (S.sites i).joiners (new ∷ []))) (distinct-push (map (λ j. j.slot) (S.sites i).joiners) a.slot k.alone alone)))
          (subst (λ x. (x.joiners ≡ []) ⊎ (is_leader S.words.deployment i x ≡ true)) (sym here) (inr leading.0))
          (subst (λ x. AllByRecursion (λ a. AsksToJoin T (part S i) a.slot (term_at S i) a.start) x.asks) (sym here)
          (steady-asks S channels (set_at S.sites i turn.state) S.pending S.logs.streamed H steady (part S i) (term_at S i) (pre ++ post)
          (all-without (λ a. AsksToJoin S (part S i) a.slot (term_at S i) a.start) pre post a
          (subst (AllByRecursion (λ a. AsksToJoin S (part S i) a.slot (term_at S i) a.start)) asks-are k.asks))))
          k.pending (subst (λ x. x.on_disk ≤ length x.log) (sym here) k.on_disk)

  -- who is told that its stream is whole was counted before
  end-after : (k c : ℕ) (y : Letter) → In y (between S k c) → (end_in y.body ≡ [] → ⊥) → EndOk S k c y → EndOk T k c y
  end-after k c y is some h = record {
    stream_start = h.stream_start;
    everywhere = h.everywhere;
    begun = λ x joins start term low. begun (sym (still c).start ∙ start) (ap term_in (sym (still c).view) ∙ term) (subst (λ n. n < y.term) (still c).earlier low)
        (h.begun x (sym (still c).joining ∙ joins) (sym (still c).start ∙ start) (ap term_in (sym (still c).view) ∙ term) (subst (λ n. n < y.term) (still c).earlier low));
    taken = λ start term. h.taken (sym (still c).start ∙ start) (ap term_in (sym (still c).view) ∙ term);
  }
    where
      -- nothing was under way to the one that asked
      clash : site_start S c ≡ y.start → term_at S c ≡ y.term → (S.sites c).earlier < y.term → c ≡ a.slot → site_start S c ≡ a.start → k ≡ i → ⊥
      clash start term low e r q =
          let runs = subst (λ z. site_start S z ≡ a.start) e r in
          let at : y.term ≡ term_of w = sym (subst (λ z. term_at S z ≡ y.term) e term) ∙ ap term_in (view-is runs) in
          let below = subst (λ n. (S.sites a.slot).earlier < n) at (subst (λ z. (S.sites z).earlier < y.term) e low) in
          some (sym (for-here (site_start S a.slot) (term_of w) y (end_in y.body) (sym (subst (λ z. site_start S z ≡ y.start) e start)) at)
          ∙ flat-each (end_of (site_start S a.slot) (term_of w)) (between S i a.slot) (inert runs below).ends_are y
          (subst (λ z. In y (between S z a.slot)) q (subst (λ z. In y (between S k z)) e is)))

      begun : site_start S c ≡ y.start → term_at S c ≡ y.term → (S.sites c).earlier < y.term → AllByRecursion (BeginsAt h.stream_start) (flow y.start y.term (between S k c))
          → AllByRecursion (BeginsAt h.stream_start) (flow y.start y.term (between T k c))
      begun start term low old = elim (asker c) [
        | inr n ↦ subst (AllByRecursion (BeginsAt h.stream_start)) (sym (same-flows k c y.start y.term (λ e r. n e (start ∙ r)))) old
        | inl r ↦ elim (chan k c) [
          | inl e ↦ subst (λ z. AllByRecursion (BeginsAt h.stream_start) (flow y.start y.term z)) (sym e) old
          | inr e ↦ absurd (clash start term low r.0 r.1 e.0)
        ]
      ]

  letter-after : (k c : ℕ) (y : Letter) → In y (between S k c) → SiteLetterOk S k c y → SiteLetterOk T k c y
  letter-after k c y is h = letter-later-ends S T H later k c y (steady-joins S channels (set_at S.sites i turn.state) S.pending S.logs.streamed H steady k)
      (λ some _ e. end-after k c y is some e) h

  begins-ok : SiteLetterOk T i a.slot begins
  begins-ok = (
    (ok.been.some, subst (λ n. 0 < n) (sym same-term) (some-term S H w found.2.decided)),
    ok.been.ran,
    λ runs. subst (λ n. term_at S i ≤ n) (ap term_in (sym (still a.slot).view)) (new-ok.reached (sym (still a.slot).start ∙ runs)),
  )

  letters-after : (k c : ℕ) → IsSlot S c → AllByRecursion (SiteLetterOk T k c) (between T k c)
  letters-after k c slot = elim (chan k c) [
    | inl e ↦ subst (AllByRecursion (SiteLetterOk T k c)) (sym e) old
    | inr e ↦ subst (AllByRecursion (SiteLetterOk T k c)) (sym e.2) (all-append (SiteLetterOk T k c) (between S k c) (begins ∷ []) old
        (subst (λ z. SiteLetterOk T z c begins) (sym e.0) (subst (λ z. SiteLetterOk T i z begins) (sym e.1) begins-ok), tt))
  ]
    where
      old : AllByRecursion (SiteLetterOk T k c) (between S k c)
      old = all-from (SiteLetterOk T k c) (between S k c) (λ y is. letter-after k c y is (all-at (SiteLetterOk S k c) (between S k c) (H.letters k c slot) y is))

  foreign-after : (from : Actor) (c : ℕ) → AllByRecursion (ForeignOk S c from) (channels from (Site c))
  foreign-after (Site k) c = elim (chan k c) [
    | inl e ↦ subst (AllByRecursion (ForeignOk S c (Site k))) (sym e) (H.foreign (Site k) c)
    | inr e ↦ subst (AllByRecursion (ForeignOk S c (Site k))) (sym e.2) (all-append (ForeignOk S c (Site k)) (between S k c) (begins ∷ []) (H.foreign (Site k) c) (tt, tt))
  ]
  foreign-after from c = H.foreign from c

  takes-holds-joiner : LogsHold T
  takes-holds-joiner = steady-holds S channels (set_at S.sites i turn.state) S.pending S.logs.streamed H steady
      (λ c v up none h. steady-member S channels (set_at S.sites i turn.state) S.pending S.logs.streamed H steady c (still c) (λ l x t. same-lines l c x t) v h)
      joiner-after (λ c up k. keeps-after c k)
      (λ c none. (there c (λ e. let z = subst (λ z. site_start S z ≡ 0) e none in omega (arith, z, up)), refl))
      letters-after foreign-after
      (λ c t x is. let h = H.streamed c t x is in
      streamed-later S T H later c t x h ((steady-leaderships S channels (set_at S.sites i turn.state) S.pending S.logs.streamed H steady).kept (part S c) t h.leadership h.led) h.apart
      (λ at. subst (λ z. S.logs.reach (part S c) t ≤ length z) (sym (still c).log) (h.running (sym (still c).start ∙ at)).2)
      (counted c x.start x.stream_start h.word))

-- ---- the turn

-- What holds, holds after the leader took the first joiner that it can take, if there is one. It stays in its word.
pub record TakesAsks (S : LogState) (i : ℕ) (t : Turn SiteState) : Type 0 where
  pub start : t.state.start ≡ site_start S i
  pub view : t.state.view ≡ (S.sites i).view
  pub holds : LogsHold (after_site S i t.state t.sends S.logs)

pub takes_asks-holds : (E : Database) (S : LogState) → LogsHold S → (i : ℕ) → 0 < site_start S i → TakesAsks S i (takes_asks E S.words.deployment i (S.sites i))
takes_asks-holds E S H i up = go (find (can_take S.words.deployment i (S.sites i)) (S.sites i).asks) refl
  where
    go : (o : Option Ask) → find (can_take S.words.deployment i (S.sites i)) (S.sites i).asks ≡ o → TakesAsks S i (takes_first_ask E S.words.deployment i (S.sites i) o)
    go None e = record { start = refl; view = refl; holds = subst LogsHold (sym (after-same S i)) H }
    go (Some a) e =
        let r = found-first (can_take S.words.deployment i (S.sites i)) (S.sites i).asks a e in
        subst (λ as_. TakesAsks S i (takes_joiner E S.words.deployment i a (record (S.sites i) { asks = as_ }))) (sym r.3)
        (record { start = refl; view = refl; holds = takes-holds-joiner E S H i up a r.0 r.1 r.2 r.4 })
