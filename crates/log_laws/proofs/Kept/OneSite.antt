-- One site changes, with what is under way to it: all that holds of the others holds after it.
use Rattle.log_laws.proofs.Names.{List, ap, arith, false, inl, inr, refl, subst, sym, true, ◌≡◌, ◌++◌, ◌∙◌, ◌⊎◌, ◌<◌, ◌≤◌, [], AllByRecursion, None, Option, Some, is_some, length, map, ℕ, Entry, Membership, Actor, Agent, Director, Site, Letter, Waiting, becomes, Joiner, Joining, SiteState, Streamed, is_leader, term_of, set_at, all-mono, none-and-some, same-some, set-here, set-there, sent-nothing, Distinct, In, leader-view, set-both, AsksToJoin, BeginsAt, Coming, CountedOk, Flow, Follows, ForeignOk, LogsHold, InWord, IsCounted, IsSlot, JoinerOk, KeepsOk, LogState, MemberOk, Inert, SiteLetterOk, StreamIn, StreamedOk, Streaming, Took, Untaken, ViewIn, SiteWaitingOk, Wordless, asked, between, stream_ends_in, flow, follows, line, part, site_start, term_at, log_at}
use Rattle.log_laws.proofs.Kept.Asked.{AsksLess, at-most-none, at-most-one}
use Rattle.log_laws.proofs.Kept.Keeps.{CountedBy, SameFrom, SiteStays, Uncounted, counted-from, still-same, was-member}
use Rattle.log_laws.proofs.Kept.Laters.{letter-later, streameds-later}
use Rattle.log_laws.proofs.Kept.Moves.{LogsGo, LogsLater, Unentered}
use Rattle.log_laws.proofs.Kept.Grown.{grown-reach, enters-same}
use Rattle.log_laws.proofs.Kept.Steady.{SiteGoesOn, Steady, goes-on-same, shifted, steady-asks, steady-counted, steady-holds, steady-joiner, steady-joins, steady-keeps, steady-later, steady-member, steady-leaderships, goes-runs}
use Rattle.log_laws.proofs.Plain.{one-and-others}

-- the state in which the site of slot i is this one, with these channels, with what is pending, and with the streams that were taken
abbrev pub with-site : LogState → ℕ → SiteState → (Actor → Actor → List Letter) → (ℕ → List Waiting) → (ℕ → ℕ → Option Streaming) → LogState
with-site S i s ch pend st = shifted S ch (set_at S.sites i s) pend st

-- What changes is the site of slot i, what is under way to it and waits there, and the streams that it took. It counts whom it
-- counted, and no others, and slots have asked it no more.
pub record SiteTakes (S : LogState) (i : ℕ) (s : SiteState) (ch : Actor → Actor → List Letter) (pend : ℕ → List Waiting) (st : ℕ → ℕ → Option Streaming) : Type 0 where
  pub up : 0 < site_start S i
  pub goes : SiteGoesOn (S.sites i) s
  pub others : (a : Actor) (c : ℕ) → (c ≡ i → ⊥) → ch a (Site c) ≡ S.words.channel a (Site c)
  pub agents : (h : ℕ) (b : Actor) → ch (Agent h) b ≡ S.words.channel (Agent h) b
  pub told : (c h : ℕ) → ch (Site c) (Agent h) ≡ S.words.channel (Site c) (Agent h)
  pub director : (h : ℕ) → ch Director (Agent h) ≡ S.words.channel Director (Agent h)
  pub pending : (c : ℕ) → (c ≡ i → ⊥) → pend c ≡ S.pending c
  pub streamed : (c t : ℕ) → (c ≡ i → ⊥) → st c t ≡ S.logs.streamed c t
  pub stays : (t : ℕ) (x : Streaming) → S.logs.streamed i t ≡ Some x → st i t ≡ Some x
  pub fresh : (t : ℕ) (x : Streaming) → st i t ≡ Some x → (S.logs.streamed i t ≡ Some x) ⊎ Unentered S.logs i x.start
  pub asks : AsksLess S (with-site S i s ch pend st)
  pub counted : (c a stream_start : ℕ) (w : Membership) → CountedBy S c a stream_start w i → CountedBy (with-site S i s ch pend st) c a stream_start w i
  pub uncounted : (c a : ℕ) → Uncounted S i c a → Uncounted (with-site S i s ch pend st) i c a

module _ (S : LogState) (H : LogsHold S) (i : ℕ) (s : SiteState) (ch : Actor → Actor → List Letter) (pend : ℕ → List Waiting) (st : ℕ → ℕ → Option Streaming)
    (k : SiteTakes S i s ch pend st) where
  there : (c : ℕ) → (c ≡ i → ⊥) → set_at S.sites i s c ≡ S.sites c
  there c n = set-there S.sites i s c n

  pub takes-steady : Steady S ch (set_at S.sites i s) st
  takes-steady = record {
    sites = set-both (λ c x. SiteGoesOn (S.sites c) x) S.sites i s k.goes (λ c n. goes-on-same (S.sites c));
    agents = k.agents;
    told = k.told;
    director = k.director;
    streamed = one-and-others _ i k.stays (λ c n t x is. k.streamed c t n ∙ is);
    fresh = one-and-others _ i k.fresh (λ c n t x is. inl (sym (k.streamed c t n) ∙ is));
  }

  -- who was counted is, by this site and by others
  pub takes-counted : (c a stream_start : ℕ) (w : Membership) → IsCounted S c a stream_start w → IsCounted (with-site S i s ch pend st) c a stream_start w
  takes-counted c a stream_start w h = counted-from S (with-site S i s ch pend st) H (steady-later S ch (set_at S.sites i s) pend st H takes-steady) i there c a stream_start w (k.counted c a stream_start w) h

  takes-uncounted : (l c a : ℕ) → Uncounted S l c a → Uncounted (with-site S i s ch pend st) l c a
  takes-uncounted l c a =
      one-and-others (λ l. Uncounted S l c a → Uncounted (with-site S i s ch pend st) l c a) i (k.uncounted c a) (λ l n h j is. h j (rw (there l n) at is)) l

  -- All holds after it, where this holds of that slot.
  pub takes-holds :
      ((w : Membership) → (S.sites i).joining ≡ None → MemberOk S i w → MemberOk (with-site S i s ch pend st) i w)
      → ((j : Joining) → s.joining ≡ Some j → JoinerOk (with-site S i s ch pend st) i j)
      → (KeepsOk S i → KeepsOk (with-site S i s ch pend st) i)
      → ((l : ℕ) → IsSlot S i → AllByRecursion (SiteLetterOk (with-site S i s ch pend st) l i) (ch (Site l) (Site i)))
      → ((from : Actor) → AllByRecursion (ForeignOk S i from) (ch from (Site i)))
      → ((t : ℕ) (x : Streaming) → st i t ≡ Some x → StreamedOk (with-site S i s ch pend st) i t x)
      → LogsHold (with-site S i s ch pend st)
  takes-holds member joiner keeps letters foreign streamed = steady-holds S ch (set_at S.sites i s) pend st H takes-steady
      (one-and-others _ i (λ w up. member w) (λ c n w up none.
      steady-member S ch (set_at S.sites i s) pend st H takes-steady c (still c n) (λ l a t. ap (line a t) (k.others (Site l) c n)) w))
      (one-and-others _ i (λ j is. joiner j (ap (λ x. x.joining) (sym (set-here S.sites i s)) ∙ is)) (λ c n.
      steady-joiner S ch (set_at S.sites i s) pend st H takes-steady c (still c n) (λ t x own _. sym (k.streamed c t n) ∙ own)
      (from c n) (takes-counted c (site_start S c))))
      (one-and-others _ i (λ up. keeps) (λ c n up. kept c n))
      (one-and-others _ i (λ none. let up = k.up in absurd (omega (arith, up, none))) (λ c n none. (there c n, k.pending c n)))
      (λ l. one-and-others _ i (letters l) (λ c n slot.
      rw (k.others (Site l) c n) (all-mono (SiteLetterOk S l c) (SiteLetterOk T l c) (to-other l c n) (between S l c) (H.letters l c slot))))
      (λ from. one-and-others _ i (foreign from) (λ c n. rw (k.others from c n) (H.foreign from c)))
      (one-and-others _ i streamed (λ c n t x is. other-stream c t x n (sym (k.streamed c t n) ∙ is)))
    where
      T : LogState
      T = with-site S i s ch pend st

      later : LogsLater S T
      later = steady-later S ch (set_at S.sites i s) pend st H takes-steady

      still : (c : ℕ) → (c ≡ i → ⊥) → SiteStays (S.sites c) (set_at S.sites i s c)
      still c n = still-same (S.sites c) (set_at S.sites i s c) (there c n)

      from : (c : ℕ) → (c ≡ i → ⊥) → (l : ℕ) → SameFrom S T c l (term_at S c)
      from c n l = let e = k.others (Site l) c n in record {
        lines = ap (line (site_start S c) (term_at S c)) e;
        flows = ap (flow (site_start S c) (term_at S c)) e;
        ends = λ none. ap (stream_ends_in (site_start S c) (term_at S c)) e ∙ none;
        asks = k.asks c l (term_at S c);
        uncounted = takes-uncounted l c (site_start S c);
      }

      kept : (c : ℕ) → (c ≡ i → ⊥) → KeepsOk S c → KeepsOk T c
      kept c n h = steady-keeps S ch (set_at S.sites i s) pend st H takes-steady c h
          (rw (there c n) (steady-counted S ch (set_at S.sites i s) pend st H takes-steady (part S c) (term_at S c) (S.sites c).joiners h.joiners))
          (rw (there c n) h.alone) (rw (there c n) h.leads)
          (rw (there c n) (steady-asks S ch (set_at S.sites i s) pend st H takes-steady (part S c) (term_at S c) (S.sites c).asks h.asks))
          (rw (k.pending c n) h.pending) (rw (there c n) h.on_disk)

      to-other : (l c : ℕ) → (c ≡ i → ⊥) → (x : Letter) → SiteLetterOk S l c x → SiteLetterOk T l c x
      to-other l c n x h = letter-later S T H later l c x (steady-joins S ch (set_at S.sites i s) pend st H takes-steady l)
          (λ b j joins same-start same-term begun. rw (k.others (Site l) c n) begun)
          (λ b y is start. inl (sym (k.streamed c x.term n) ∙ is)) h

      other-stream : (c t : ℕ) (x : Streaming) → (c ≡ i → ⊥) → S.logs.streamed c t ≡ Some x → StreamedOk T c t x
      other-stream c t x n is = let h = H.streamed c t x is in
          streameds-later S T H later (steady-leaderships S ch (set_at S.sites i s) pend st H takes-steady) (λ p t. refl) c t x h h.apart
          (takes-counted c x.start x.stream_start h.word)

-- ---- the slot itself

-- What is under way to slot i: to a member it is the same, and of a stream and its end there is none where there was none.
pub record LessTo (S : LogState) (i : ℕ) (ch : Actor → Actor → List Letter) : Type 0 where
  pub lines : (l a t : ℕ) → line a t (ch (Site l) (Site i)) ≡ line a t (between S l i)
  pub flows : (l a t : ℕ) → flow a t (between S l i) ≡ [] → flow a t (ch (Site l) (Site i)) ≡ []
  pub ends : (l a t : ℕ) → stream_ends_in a t (between S l i) ≡ [] → stream_ends_in a t (ch (Site l) (Site i)) ≡ []

module _ (S : LogState) (H : LogsHold S) (i : ℕ) (s : SiteState) (ch : Actor → Actor → List Letter) (pend : ℕ → List Waiting) (st : ℕ → ℕ → Option Streaming)
    (k : SiteTakes S i s ch pend st) where
  here : set_at S.sites i s i ≡ s
  here = set-here S.sites i s

  start-here : site_start (with-site S i s ch pend st) i ≡ site_start S i
  start-here = ap (λ x. x.start) here ∙ k.goes.start

  -- a member of which nothing changes but what it keeps
  pub takes-member : LessTo S i ch → SiteStays (S.sites i) s → (w : Membership) → MemberOk S i w → MemberOk (with-site S i s ch pend st) i w
  takes-member less still w h = steady-member S ch (set_at S.sites i s) pend st H (takes-steady S H i s ch pend st k) i
      (subst (SiteStays (S.sites i)) (sym here) still) (λ l. less.lines l) w h

  -- what it keeps, with what is given of those that it counts, of asks, and of what is pending
  pub takes-keeps : KeepsOk S i
      → AllByRecursion (CountedOk (with-site S i s ch pend st) (part S i) (term_at S i)) s.joiners → Distinct (map (λ j. j.slot) s.joiners)
      → ((s.joiners ≡ []) ⊎ (is_leader S.words.deployment i s ≡ true))
      → AllByRecursion (λ a. AsksToJoin (with-site S i s ch pend st) (part S i) a.slot (term_at S i) a.start) s.asks
      → AllByRecursion (SiteWaitingOk S i) (pend i) → s.on_disk ≤ length s.log → KeepsOk (with-site S i s ch pend st) i
  takes-keeps h counted alone leads asks pending disk = steady-keeps S ch (set_at S.sites i s) pend st H (takes-steady S H i s ch pend st k) i h
      (subst (λ x. AllByRecursion (CountedOk (with-site S i s ch pend st) (part S i) (term_at S i)) x.joiners) (sym here) counted)
      (subst (λ x. Distinct (map (λ j. j.slot) x.joiners)) (sym here) alone)
      (subst (λ x. (x.joiners ≡ []) ⊎ (is_leader S.words.deployment i x ≡ true)) (sym here) leads)
      (subst (λ x. AllByRecursion (λ a. AsksToJoin (with-site S i s ch pend st) (part S i) a.slot (term_at S i) a.start) x.asks) (sym here) asks)
      pending (subst (λ x. x.on_disk ≤ length x.log) (sym here) disk)

  -- where it counts the same joiners and keeps the same asks
  pub takes-kept : s.joiners ≡ (S.sites i).joiners → s.asks ≡ (S.sites i).asks → (is_leader S.words.deployment i (S.sites i) ≡ true → is_leader S.words.deployment i s ≡ true)
      → (KeepsOk S i → s.on_disk ≤ length s.log) → (AllByRecursion (SiteWaitingOk S i) (S.pending i) → AllByRecursion (SiteWaitingOk S i) (pend i))
      → KeepsOk S i → KeepsOk (with-site S i s ch pend st) i
  takes-kept joiners asks leads disk pending h = takes-keeps h
      (subst (AllByRecursion (CountedOk (with-site S i s ch pend st) (part S i) (term_at S i))) (sym joiners)
      (steady-counted S ch (set_at S.sites i s) pend st H (takes-steady S H i s ch pend st k) (part S i) (term_at S i) (S.sites i).joiners h.joiners))
      (subst (λ js. Distinct (map (λ j. j.slot) js)) (sym joiners) h.alone)
      (elim h.leads [ inl none ↦ inl (joiners ∙ none) | inr is ↦ inr (leads is) ])
      (subst (AllByRecursion (λ a. AsksToJoin (with-site S i s ch pend st) (part S i) a.slot (term_at S i) a.start)) (sym asks)
      (steady-asks S ch (set_at S.sites i s) pend st H (takes-steady S H i s ch pend st k) (part S i) (term_at S i) (S.sites i).asks h.asks))
      (pending h.pending) (disk h)

  -- a joiner, with what is given of it in its word, and without one
  pub takes-joiner : (j n : Joining) → s.firm ≡ (S.sites i).firm
      → (n.has_told ≡ true → n.is_loaded ≡ true) → (n.is_based ≡ true → n.is_loaded ≡ true)
      → ((w : Membership) → (S.sites i).view ≡ Some w → InWord S i w j → InWord (with-site S i s ch pend st) i w n)
      → ((S.sites i).view ≡ None → Wordless S i j → Wordless (with-site S i s ch pend st) i n)
      → JoinerOk S i j → JoinerOk (with-site S i s ch pend st) i n
  takes-joiner j n firm told based word wordless h = record {
    runs = rw start-here h.runs;
    unentered = λ t e is at. h.unentered t e is (at ∙ start-here);
    told = told;
    based = based;
    firm = ap (λ x. x.firm) here ∙ firm ∙ h.firm;
    view = subst (ViewIn (with-site S i s ch pend st) i n) (sym k.goes.view ∙ ap (λ x. x.view) (sym here)) (go (S.sites i).view refl h.view);
  }
    where
      go : (o : Option Membership) → (S.sites i).view ≡ o → ViewIn S i j o → ViewIn (with-site S i s ch pend st) i n o
      go None e v = wordless e v
      go (Some w) e v = word w e v

  -- in its word, with what is given of its stream
  pub takes-word : LessTo S i ch → (w : Membership) (j n : Joining)
      → (StreamIn S i w j j.stream → StreamIn (with-site S i s ch pend st) i w n n.stream) → InWord S i w j → InWord (with-site S i s ch pend st) i w n
  takes-word less w j n stream h = record {
    took = rw start-here h.took;
    lines = λ l. rw start-here (less.lines l (site_start S i) (term_of w) ∙ h.lines l);
    others = λ l other. let o = h.others l other in (
      rw start-here (less.flows l (site_start S i) (term_of w) o.0),
      rw start-here (less.ends l (site_start S i) (term_of w) o.1),
      λ slot low. at-most-none (asked S i l (term_of w)) (asked (with-site S i s ch pend st) i l (term_of w))
          (o.2 slot (subst (λ x. x < term_of w) (ap (λ x. x.earlier) here ∙ k.goes.earlier) low)) (k.asks i l (term_of w)),
    );
    stream = stream h.stream;
  }

  -- without one
  pub takes-wordless : (j n : Joining) → n.stream ≡ j.stream → n.is_loaded ≡ j.is_loaded → n.count ≡ j.count → n.tasks ≡ j.tasks
      → s.log ≡ (S.sites i).log → s.floor ≡ (S.sites i).floor → ((t : ℕ) → st i t ≡ S.logs.streamed i t)
      → Wordless S i j → Wordless (with-site S i s ch pend st) i n
  takes-wordless j n stream loads counts tasks log floor streamed h = record {
    stream = stream ∙ h.stream;
    loads = loads ∙ h.loads;
    counts = counts ∙ h.counts;
    tasks = tasks ∙ h.tasks;
    empty = ap (λ x. x.log) here ∙ log ∙ h.empty;
    floor = ap (λ x. x.floor) here ∙ floor ∙ h.floor;
    never = λ t x is at. h.never t x (sym (streamed t) ∙ is) (at ∙ start-here);
  }

  -- one that took its stream, and goes on with it
  pub takes-took : (w : Membership) (j n : Joining) (stream_start : ℕ) (h : Took S i w j stream_start) (more : List Entry)
      → flow (site_start S i) (term_of w) (ch (Site h.from) (Site i)) ≡ map Follows more → s.log ++ n.tasks ++ more ≡ h.leadership.log
      → (n.is_loaded ≡ false → length s.log ≡ stream_start) → (n.is_loaded ≡ true → n.tasks ≡ [])
      → ((n.is_loaded ≡ true ⊎ is_some n.count ≡ true) → stream_start ≤ S.logs.reach (part S i) (term_of w))
      → s.floor ≡ (S.sites i).floor → Took (with-site S i s ch pend st) i w n stream_start
  takes-took w j n stream_start h more flowing whole loading loaded stream_ends_in floor = record {
    from = h.from;
    following = h.following;
    more = more;
    leadership = h.leadership;
    led = h.led;
    flow_is = rw start-here flowing;
    whole = subst (λ x. x.log ++ n.tasks ++ more ≡ h.leadership.log) (sym here) whole;
    streamed = rw start-here (k.stays (term_of w) (record { start = site_start S i; stream_start = stream_start }) h.streamed);
    loading = λ e. ap (λ x. length x.log) here ∙ loading e;
    loaded = loaded;
    ends = stream_ends_in;
    floor = ap (λ x. x.floor) here ∙ floor ∙ h.floor;
    asks = λ l slot. at-most-none (asked S i l (term_of w)) (asked (with-site S i s ch pend st) i l (term_of w)) (h.asks l slot) (k.asks i l (term_of w));
  }

  -- one that took none, where what is under way to it is the same
  takes-inert : LessTo S i ch → (w : Membership) (l : ℕ) → Inert S i w l → Inert (with-site S i s ch pend st) i w l
  takes-inert less w l h = record {
    flow_is = rw start-here (less.flows l (site_start S i) (term_of w) h.flow_is);
    ends_are = rw start-here (less.ends l (site_start S i) (term_of w) h.ends_are);
    uncounted = λ j is slot at. takes-uncounted S H i s ch pend st k l i (site_start S i) h.uncounted j is slot (at ∙ start-here);
    asks = λ slot. rw start-here (elim (h.asks slot) [
      | inl none ↦ inl (at-most-none (asked S i l (term_of w)) (asked (with-site S i s ch pend st) i l (term_of w)) none (k.asks i l (term_of w)))
      | inr one ↦ at-most-one (asked S i l (term_of w)) (asked (with-site S i s ch pend st) i l (term_of w)) (site_start S i) one (k.asks i l (term_of w))
    ]);
  }

  takes-coming : (w : Membership) (fl : List Flow) → Coming S i w fl → Coming (with-site S i s ch pend st) i w fl
  takes-coming w fl h = record {
    past = h.past;
    more = h.more;
    leadership = h.leadership;
    flow_is = h.flow_is;
    led = h.led;
    whole = h.whole;
    behind = h.behind;
    reach = h.reach;
    counted = rw start-here (takes-counted S H i s ch pend st k i (site_start S i) (length h.past) w h.counted);
  }

  pub takes-untaken : LessTo S i ch → ((t : ℕ) → st i t ≡ S.logs.streamed i t) → (w : Membership) (j n : Joining)
      → n.is_loaded ≡ j.is_loaded → n.count ≡ j.count → n.tasks ≡ j.tasks → s.log ≡ (S.sites i).log → s.floor ≡ (S.sites i).floor
      → ((l : ℕ) → follows S.words.deployment w i l ≡ true → (S.sites i).earlier < term_of w
      → flow (site_start S i) (term_of w) (ch (Site l) (Site i)) ≡ flow (site_start S i) (term_of w) (between S l i))
      → Untaken S i w j → Untaken (with-site S i s ch pend st) i w n
  takes-untaken less streamed w j n loads counts tasks log floor flows h = record {
    loads = loads ∙ h.loads;
    counts = counts ∙ h.counts;
    tasks = tasks ∙ h.tasks;
    empty = ap (λ x. x.log) here ∙ log ∙ h.empty;
    floor = ap (λ x. x.floor) here ∙ floor ∙ h.floor;
    never = λ t x is at. h.never t x (sym (streamed t) ∙ is) (at ∙ start-here);
    comes = λ l is low. let below = subst (λ x. x < term_of w) (ap (λ x. x.earlier) here ∙ k.goes.earlier) low in
        elim (h.comes l is below) [
          | inl q ↦ inl (takes-inert less w l q)
          | inr q ↦ inr (
            rw (start-here, flows l is below) (takes-coming w (flow (site_start S i) (term_of w) (between S l i)) q.0),
            at-most-none (asked S i l (term_of w)) (asked (with-site S i s ch pend st) i l (term_of w)) q.1 (k.asks i l (term_of w)),
          )
        ];
  }

  -- one that goes on as it was, where the same is under way to it from its leader
  pub takes-joiner-same : LessTo S i ch → SiteStays (S.sites i) s → ((t : ℕ) → st i t ≡ S.logs.streamed i t)
      → ((w : Membership) → (S.sites i).view ≡ Some w → (l : ℕ) → follows S.words.deployment w i l ≡ true → (S.sites i).earlier < term_of w
      → flow (site_start S i) (term_of w) (ch (Site l) (Site i)) ≡ flow (site_start S i) (term_of w) (between S l i))
      → (j : Joining) → JoinerOk S i j → JoinerOk (with-site S i s ch pend st) i j
  takes-joiner-same less still streamed flows j h = takes-joiner j j still.firm h.told h.based
      (λ w view k'. takes-word less w j j (stream w view j.stream) k')
      (λ none k'. takes-wordless j j refl refl refl refl still.log still.floor streamed k') h
    where
      stream : (w : Membership) → (S.sites i).view ≡ Some w → (o : Option Streamed) → StreamIn S i w j o → StreamIn (with-site S i s ch pend st) i w j o
      stream w view None u = takes-untaken less streamed w j j refl refl refl still.log still.floor (flows w view) u
      stream w view (Some x) u = takes-took w j j x.stream_start u u.more
          (flows w view u.from u.following ((H.streamed i (term_of w) (record { start = site_start S i; stream_start = x.stream_start }) u.streamed).running refl).0 ∙ u.flow_is)
          (rw still.log u.whole) (λ e. ap length still.log ∙ u.loading e) u.loaded u.ends still.floor

  -- All holds after it, where a joiner has become this one.
  pub takes-joined : (j n : Joining) → (S.sites i).joining ≡ Some j → s.joining ≡ Some n → s.joiners ≡ (S.sites i).joiners → s.asks ≡ (S.sites i).asks
      → (KeepsOk S i → s.on_disk ≤ length s.log) → (AllByRecursion (SiteWaitingOk S i) (S.pending i) → AllByRecursion (SiteWaitingOk S i) (pend i))
      → JoinerOk (with-site S i s ch pend st) i n
      → ((l : ℕ) → IsSlot S i → AllByRecursion (SiteLetterOk (with-site S i s ch pend st) l i) (ch (Site l) (Site i)))
      → ((from : Actor) → AllByRecursion (ForeignOk S i from) (ch from (Site i)))
      → ((t : ℕ) (x : Streaming) → st i t ≡ Some x → StreamedOk (with-site S i s ch pend st) i t x) → LogsHold (with-site S i s ch pend st)
  takes-joined j n is next joiners asks disk pending ok letters foreign streamed = takes-holds S H i s ch pend st k
      (λ w none h. absurd (none-and-some none is))
      (λ x e. subst (JoinerOk (with-site S i s ch pend st) i) (same-some (sym next ∙ e)) ok)
      (takes-kept joiners asks (λ leads. absurd (none-and-some (leader-view S.words.deployment i (S.sites i) leads).0 is)) disk pending)
      letters foreign streamed

  -- messages to it, where no stream is under way that wasn't
  pub takes-letters : ((t : ℕ) → st i t ≡ S.logs.streamed i t) → (l : ℕ)
      → ((a t stream_start : ℕ) → AllByRecursion (BeginsAt stream_start) (flow a t (between S l i)) → AllByRecursion (BeginsAt stream_start) (flow a t (ch (Site l) (Site i))))
      → (ls : List Letter) → AllByRecursion (SiteLetterOk S l i) ls → AllByRecursion (SiteLetterOk (with-site S i s ch pend st) l i) ls
  takes-letters streamed l begun ls h = all-mono (SiteLetterOk S l i) (SiteLetterOk (with-site S i s ch pend st) l i)
      (λ x. letter-later S (with-site S i s ch pend st) H (steady-later S ch (set_at S.sites i s) pend st H (takes-steady S H i s ch pend st k)) l i x
      (steady-joins S ch (set_at S.sites i s) pend st H (takes-steady S H i s ch pend st k) l)
      (λ b j joins same-start same-term. begun x.start x.term b.stream_start)
      (λ b y is start. inl (sym (streamed x.term) ∙ is))) ls h

  -- the streams that it took before
  pub takes-stream : (t : ℕ) (x : Streaming) → S.logs.streamed i t ≡ Some x → StreamedOk (with-site S i s ch pend st) i t x
  takes-stream t x is = let h = H.streamed i t x is in
      streameds-later S (with-site S i s ch pend st) H (steady-later S ch (set_at S.sites i s) pend st H (takes-steady S H i s ch pend st k))
      (steady-leaderships S ch (set_at S.sites i s) pend st H (takes-steady S H i s ch pend st k)) (λ p t. refl) i t x h h.apart
      (takes-counted S H i s ch pend st k i x.start x.stream_start h.word)

-- ---- whom it counts

module _ (S : LogState) (i : ℕ) (s : SiteState) (ch : Actor → Actor → List Letter) (pend : ℕ → List Waiting) (st : ℕ → ℕ → Option Streaming)
    (g : SiteGoesOn (S.sites i) s) where
  -- for each that it counted there is one now, and for each one now there was one
  pub counts-on : ((j : Joiner) → In j (S.sites i).joiners → (n : Joiner) × In n s.joiners × (n.slot ≡ j.slot) × (n.start ≡ j.start) × (n.stream_start ≡ j.stream_start))
      → (c a stream_start : ℕ) (w : Membership) → CountedBy S c a stream_start w i → CountedBy (with-site S i s ch pend st) c a stream_start w i
  counts-on each c a stream_start w h = λ up none view.
      let e = set-here S.sites i s in
      let r = h (subst (λ z. 0 < z) (ap (λ x. x.start) e ∙ g.start) up) (was-member (S.sites i) s (goes-runs (S.sites i) s g) (ap (λ x. x.joining) (sym e) ∙ none)) (sym g.view ∙ ap (λ x. x.view) (sym e) ∙ view) in
      let n = each r.0 r.1 in
      (n.0, subst (λ x. In n.0 x.joiners) (sym e) n.1, n.2 ∙ r.2, n.3 ∙ r.3, n.4 ∙ r.4)

  pub uncounts-on : ((n : Joiner) → In n s.joiners → (j : Joiner) × In j (S.sites i).joiners × (j.slot ≡ n.slot) × (j.start ≡ n.start))
      → (c a : ℕ) → Uncounted S i c a → Uncounted (with-site S i s ch pend st) i c a
  uncounts-on each c a h = λ n is slot start.
      let r = each n (subst (λ x. In n x.joiners) (set-here S.sites i s) is) in h r.0 r.1 (r.2 ∙ slot) (r.3 ∙ start)

-- the same ones
pub same-counts : (js ks : List Joiner) → ks ≡ js → (j : Joiner) → In j js → (n : Joiner) × In n ks × (n.slot ≡ j.slot) × (n.start ≡ j.start) × (n.stream_start ≡ j.stream_start)
same-counts js ks e j is = (j, subst (In j) (sym e) is, refl, refl, refl)

pub same-uncounts : (js ks : List Joiner) → ks ≡ js → (n : Joiner) → In n ks → (j : Joiner) × In j js × (j.slot ≡ n.slot) × (j.start ≡ n.start)
same-uncounts js ks e n is = (n, subst (In n) e is, refl, refl)

-- ---- the turn

-- what holds of the state that a turn leads to in which nothing is sent
pub becomes-goes : (S : LogState) (i : ℕ) (s : SiteState) (st : ℕ → ℕ → Option Streaming) → s.start ≡ site_start S i → s.view ≡ (S.sites i).view
    → length (log_at S i) ≤ length s.log → LogsHold (record S { sites = set_at S.sites i s; logs = record S.logs { streamed = st } }) → LogsGo S i (becomes s)
becomes-goes S i s st start view longer h = record {
  logs = record S.logs { streamed = st };
  start = start;
  view = view;
  plain = λ c. tt;
  holds = subst (λ c. LogsHold (record S { words = record S.words { channel = c }; sites = set_at S.sites i s; logs = record S.logs { streamed = st } }))
      (sym (sent-nothing S.words.channel (Site i))) h;
  grown = grown-reach S.words.deployment i s S.logs (record S.logs { streamed = st }) refl (λ p t. omega arith);
  enters = enters-same i (length (log_at S i)) S.logs (record S.logs { streamed = st }) refl;
  longer = longer;
}
