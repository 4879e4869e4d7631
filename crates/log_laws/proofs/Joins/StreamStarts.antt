-- A joiner takes the stream that its leader began for it, or drops it.
use Rattle.log_laws.proofs.Names.{List, ap, append-nil, arith, false, inl, inr, refl, subst, sym, true, true≢false, ◌≡◌, ◌++◌, ◌∷◌, ◌∙◌, ◌⊎◌, ◌<◌, ◌≤◌, [], and_parts, cases_Bool, cases_eq, nat_tests, AllByRecursion, None, Option, Some, is_none, is_some, length, map, nat_lt, ◌&&◌, ℕ, StreamHead, Membership, Site, Letter, becomes, may_stream, on_stream_start, Joining, SiteState, Streamed, site_term, term_in, term_of, set_at, all-at, all-from, none-and-some, same-some, set-here, set-there, is_none-none, In, cond_both, Begins, BeginsAt, Coming, EndOk, Entered, Follows, HasBeen, LogsHold, InWord, IsCounted, IsSlot, JoinerOk, LogState, MeantFor, SiteLetterOk, StreamIn, StreamedOk, Streaming, Took, Untaken, ViewIn, asked, asks_of_term, between, end_in, stream_ends_in, flow, follows, known, part, site_start, term_at, end_of, flow_in}
use Rattle.volt_wire.specs.declared.message.Msg.TheVariants as msg
use Rattle.log_laws.proofs.Kept.{running-slot, at-most-none, at-most-same, popped-less, ack-later, ask-later, been-later, end-later-if, part-later, reached-later, report-later, LogsGo, JoinsOn, LogsLater, site_popped, LessTo, SiteTakes, becomes-goes, takes-counted, takes-joined, takes-joiner, takes-steady, takes-stream, takes-word, with-site, SiteGoesOn, steady-joins, steady-later}
use Rattle.log_laws.proofs.Plain.{follows-one, begins-same, follows-not-begins, flat-each, for-here, one-and-others}
use Rattle.log_laws.proofs.Messages.Taken.{first-begun, first-foreign, first-less, first-takes, without, without-each, without-here}
use Rattle.log_laws.proofs.Joins.Tasks.{drops-goes}

-- ---- at two places

-- the streams with one more
abbrev pub with-stream : (ℕ → ℕ → Option Streaming) → ℕ → ℕ → Streaming → ℕ → ℕ → Option Streaming
with-stream st i t x = set_at st i (set_at (st i) t (Some x))

module _ (st : ℕ → ℕ → Option Streaming) (i t : ℕ) (x : Streaming) where
  pub stream-here : with-stream st i t x i t ≡ Some x
  stream-here = ap (λ f. f t) (set-here st i (set_at (st i) t (Some x))) ∙ set-here (st i) t (Some x)

  pub stream-term : (u : ℕ) → (u ≡ t → ⊥) → with-stream st i t x i u ≡ st i u
  stream-term u n = ap (λ f. f u) (set-here st i (set_at (st i) t (Some x))) ∙ set-there (st i) t (Some x) u n

  pub stream-other : (c u : ℕ) → (c ≡ i → ⊥) → with-stream st i t x c u ≡ st c u
  stream-other c u n = ap (λ f. f u) (set-there st i (set_at (st i) t (Some x)) c n)

-- ---- letters, where the end of a stream is given

module _ (S T : LogState) (H : LogsHold S) (f : LogsLater S T) where
  pub letter-later-ends : (i c : ℕ) (l : Letter) → JoinsOn S T i → ((end_in l.body ≡ [] → ⊥) → MeantFor S c l → EndOk S i c l → EndOk T i c l)
      → SiteLetterOk S i c l → SiteLetterOk T i c l
  letter-later-ends i c l on stream_ends_in k = elim l.body as (λ m.
      ((end_in m ≡ [] → ⊥) → MeantFor S c (record l { body = m }) → EndOk S i c (record l { body = m }) → EndOk T i c (record l { body = m }))
      → SiteLetterOk S i c (record l { body = m }) → SiteLetterOk T i c (record l { body = m })) [
        | msg.StreamEnd count ↦ λ e p. (reached-later S T H f c (record l { body = msg.StreamEnd count }) p.0, e (λ none. absurd (cc)) p.0 p.1)
        | msg.Put position v floor ↦ λ _ p. (
          reached-later S T H f c (record l { body = msg.Put position v floor }) p.0,
          rw (part-later S T H f c) (let a = f.reach (part S c) l.term in let b = p.1 in omega (arith, a, b)),
        )
        | msg.Repair low entries ↦ λ _. reached-later S T H f c (record l { body = msg.Repair low entries })
        | msg.Task position v ↦ λ _. reached-later S T H f c (record l { body = msg.Task position v })
        | msg.StreamStart head ↦ λ _. reached-later S T H f c (record l { body = msg.StreamStart head })
        | msg.Ack n ↦ λ _ p. (p.0, ack-later S T H f i l.term n p.1)
        | msg.Report position floor tail ↦ λ _ p. (p.0, rw (part-later S T H f c) (report-later S T H f (part S c) i l.term position floor tail p.1))
        | msg.JoinAsk a slot ↦ λ _ p. (p.0, p.1, rw (part-later S T H f c) (ask-later S T H f (part S c) i l.term a on p.2))
        | msg.Start a ↦ λ _ p. p
        | m ↦ λ _ p. tt
      ] stream_ends_in k

-- ---- a stream

module _ (S : LogState) (H : LogsHold S) (m i : ℕ) (l : Letter) (ls : List Letter) (head : StreamHead)
    (e : between S m i ≡ record l { body = msg.StreamStart head } ∷ ls) (up : 0 < site_start S i) (start : l.start ≡ site_start S i) (term : l.term ≡ term_at S i) where
  -- it is the first thing that is under way to the joiner from there
  stream-first : (w : Membership) → (S.sites i).view ≡ Some w → flow (site_start S i) (term_of w) (between S m i) ≡ Begins l.past head.stream_start ∷ flow (site_start S i) (term_of w) ls
  stream-first w view = ap (flow (site_start S i) (term_of w)) e
      ∙ ap (λ z. z ++ flow (site_start S i) (term_of w) ls) (for-here (site_start S i) (term_of w) (record l { body = msg.StreamStart head }) (flow_in (record l { body = msg.StreamStart head }).past (record l { body = msg.StreamStart head }).body) start (term ∙ ap term_in view))

  -- it is dropped by a member, and by a joiner that may not take it
  stream-drops : ((j : Joining) → (S.sites i).joining ≡ Some j → may_stream (S.sites i) j l ≡ false) → LogsGo (site_popped S (Site m) i) i (becomes (S.sites i))
  stream-drops refused = drops-goes S H m i (record l { body = msg.StreamStart head }) ls e up refl (λ j w is view h f low. absurd (clash j w view h f low (refused j is)))
    where
      clash : (j : Joining) (w : Membership) → (S.sites i).view ≡ Some w → InWord S i w j → follows S.words.deployment w i m ≡ true
          → (S.sites i).earlier < term_of w → may_stream (S.sites i) j l ≡ false → ⊥
      clash j w view h f low = took j.stream h.stream
        where
          below : nat_lt (S.sites i).earlier l.term ≡ true
          below = let same-term : l.term ≡ term_of w = term ∙ ap term_in view in grind (arith, nat_tests, low, same-term)

          took : (o : Option Streamed) → StreamIn S i w j o → (is_none o && nat_lt (S.sites i).earlier l.term) ≡ false → ⊥
          took None u b = true≢false (sym below ∙ b)
          took (Some y) u b = let from = follows-one S.words.deployment w i m u.from f u.following in
              follows-not-begins u.more l.past head.stream_start (flow (site_start S i) (term_of w) ls)
              (sym u.flow_is ∙ subst (λ z. flow (site_start S i) (term_of w) (between S z i) ≡ Begins l.past head.stream_start ∷ flow (site_start S i) (term_of w) ls) from (stream-first w view))

  -- ---- a joiner takes it

  module _ (w : Membership) (view : (S.sites i).view ≡ Some w) (j : Joining) (is : (S.sites i).joining ≡ Some j) (none : j.stream ≡ None)
      (low : (S.sites i).earlier < term_of w) where
    abbrev joined : Joining
    joined = record j { stream = Some (record { stream_start = head.stream_start; mark = head.mark }) }

    abbrev s : SiteState
    s = record (S.sites i) { joining = Some joined; log = l.past; floor = head.stream_start; contents = None ∷ [] }

    abbrev x : Letter
    x = record l { body = msg.StreamStart head }

    abbrev st : ℕ → ℕ → Option Streaming
    st = with-stream S.logs.streamed i (term_of w) (record { start = site_start S i; stream_start = head.stream_start })

    abbrev T : LogState
    T = with-site S i s (without S m i) S.pending st

    old : JoinerOk S i j
    old = (H.sites i).joiner j is

    word : InWord S i w j
    word = subst (ViewIn S i j) view old.view

    untaken : Untaken S i w j
    untaken = subst (StreamIn S i w j) none word.stream

    follows-it : follows S.words.deployment w i m ≡ true
    follows-it = elim (cases_Bool (follows S.words.deployment w i m)) [ inl f ↦ f | inr f ↦ let z = sym (word.others m f).0 ∙ stream-first w view in absurd (cc) ]

    coming : Coming S i w (flow (site_start S i) (term_of w) (between S m i)) × (asked S i m (term_of w) ≡ [])
    coming = elim (untaken.comes m follows-it low) [ inl q ↦ let z = sym q.flow_is ∙ stream-first w view in absurd (cc) | inr q ↦ q ]

    begins : (l.past ≡ coming.0.past) × (head.stream_start ≡ length coming.0.past) × (flow (site_start S i) (term_of w) ls ≡ map Follows coming.0.more)
    begins = begins-same l.past coming.0.past head.stream_start (length coming.0.past) (flow (site_start S i) (term_of w) ls) (map Follows coming.0.more)
        (sym (stream-first w view) ∙ coming.0.flow_is)

    same-length : length l.past ≡ head.stream_start
    same-length = ap length begins.0 ∙ sym begins.1

    -- nobody took a stream or was a member in that term
    others-earlier : (a : ℕ) → HasBeen S i (term_of w) a → (site_start S i ≡ a → ⊥) → ⊥
    others-earlier a k n = let h = k.others up n in omega (arith, h, low)

    unstreamed : (y : Streaming) → S.logs.streamed i (term_of w) ≡ Some y → ⊥
    unstreamed y took = elim (cases_eq y.start (site_start S i)) [
      | inl own ↦ untaken.never (term_of w) y took own
      | inr n ↦ others-earlier y.start (H.streamed i (term_of w) y took).been (λ q. n (sym q))
    ]

    unentered : (y : Entered) → S.logs.entered i (term_of w) ≡ Some y → ⊥
    unentered y was = elim (cases_eq y.start (site_start S i)) [
      | inl own ↦ old.unentered (term_of w) y was own
      | inr n ↦ others-earlier y.start (H.entered i (term_of w) y was).been (λ q. n (sym q))
    ]

    g : SiteGoesOn (S.sites i) s
    g = record {
      start = refl;
      greatest = refl;
      earlier = refl;
      view = refl;
      acks = refl;
      reports = refl;
      held = refl;
      waiting = refl;
      log = subst (λ z. length z ≤ length l.past) (sym untaken.empty) (omega arith);
      member = λ no. absurd (none-and-some no is);
      joins = λ y e. (joined, refl);
      loaded = λ y e. (j, is, λ based. subst (λ z. z.is_based ≡ true) (same-some e) based);
    }

    k : SiteTakes S i s (without S m i) S.pending st
    k = first-takes S H m i x ls e s g st up (λ c t n. stream-other S.logs.streamed i (term_of w) (record { start = site_start S i; stream_start = head.stream_start }) c t n)
        (one-and-others _ (term_of w) (λ y took. absurd (unstreamed y took))
        (λ t n y took. stream-term S.logs.streamed i (term_of w) (record { start = site_start S i; stream_start = head.stream_start }) t n ∙ took))
        (one-and-others _ (term_of w) (λ y took. inr (λ u v was own. old.unentered u v was (own ∙ ap (λ z. z.start) (sym (same-some
        (sym (stream-here S.logs.streamed i (term_of w) (record { start = site_start S i; stream_start = head.stream_start })) ∙ took))))))
        (λ t n y took. inl (sym (stream-term S.logs.streamed i (term_of w) (record { start = site_start S i; stream_start = head.stream_start }) t n) ∙ took)))
        (popped-less S (Site m) i x ls e S.logs s refl (λ c t. at-most-same (asks_of_term c t (S.sites i)))) refl

    less : LessTo S i (without S m i)
    less = first-less S H m i x ls e refl

    site-is : set_at S.sites i s i ≡ s
    site-is = set-here S.sites i s

    start-is : site_start T i ≡ site_start S i
    start-is = ap (λ z. z.start) site-is

    -- it hasn't asked, and wasn't told that it is whole
    unasked : (c : ℕ) → IsSlot S c → asked S i c (term_of w) ≡ []
    unasked c slot = elim (cases_Bool (follows S.words.deployment w i c)) [
      | inl f ↦ subst (λ z. asked S i z (term_of w) ≡ []) (follows-one S.words.deployment w i m c follows-it f) coming.1
      | inr f ↦ (word.others c f).2 slot low
    ]

    unended : (j.is_loaded ≡ true) ⊎ (is_some j.count ≡ true) → ⊥
    unended (inl all) = true≢false (sym all ∙ untaken.loads)
    unended (inr known) = true≢false (sym known ∙ ap is_some untaken.counts)

    takes-it : Took T i w joined head.stream_start
    takes-it = record {
      from = m;
      following = follows-it;
      more = coming.0.more;
      leadership = coming.0.leadership;
      led = coming.0.led;
      flow_is = rw start-is (ap (flow (site_start S i) (term_of w)) (without-here S m i x ls e) ∙ begins.2);
      whole = subst (λ z. z.log ++ j.tasks ++ coming.0.more ≡ coming.0.leadership.log) (sym site-is)
          (ap (λ z. l.past ++ z ++ coming.0.more) untaken.tasks ∙ ap (λ z. z ++ coming.0.more) (append-nil l.past ∙ begins.0) ∙ coming.0.whole);
      streamed = rw start-is (stream-here S.logs.streamed i (term_of w) (record { start = site_start S i; stream_start = head.stream_start }));
      loading = λ _. ap (λ z. length z.log) site-is ∙ same-length;
      loaded = λ all. absurd (true≢false (sym all ∙ untaken.loads));
      ends = λ some. absurd (unended some);
      floor = ap (λ z. z.floor) site-is;
      asks = λ c slot. at-most-none (asked S i c (term_of w)) (asked T i c (term_of w)) (unasked c slot) (k.asks i c (term_of w));
    }

    later : LogsLater S T
    later = steady-later S (without S m i) (set_at S.sites i s) S.pending st H (takes-steady S H i s (without S m i) S.pending st k)

    new-stream : StreamedOk T i (term_of w) (record { start = site_start S i; stream_start = head.stream_start })
    new-stream = record {
      word = w;
      took = word.took;
      term_is = refl;
      apart = apart (S.logs.entered i (term_of w)) refl;
      later = λ u y was own. absurd (old.unentered u y was own);
      leadership = coming.0.leadership;
      led = coming.0.led;
      behind = subst (λ z. length coming.0.leadership.begun ≤ z) (sym begins.1) coming.0.behind;
      been = been-later S T H later i (term_of w) (site_start S i) own-been;
      running = λ at. let r = subst (λ z. (z.earlier < term_of w) × (term_of w ≤ site_term z) × (S.logs.reach (part S i) (term_of w) ≤ length z.log) × (head.stream_start ≤ length z.log))
          (sym site-is) (
            low,
            at-term,
            subst (λ z. S.logs.reach (part S i) (term_of w) ≤ z) (sym (same-length ∙ begins.1)) coming.0.reach,
            subst (λ z. head.stream_start ≤ z) (sym same-length) (omega arith),
          ) in
          (r.0, r.1, r.2, r.3);
      counted = takes-counted S H i s (without S m i) S.pending st k i (site_start S i) head.stream_start w
          (subst (λ z. IsCounted S i (site_start S i) z w) (sym begins.1) coming.0.counted);
    }
      where
        apart : (o : Option Entered) → S.logs.entered i (term_of w) ≡ o → S.logs.entered i (term_of w) ≡ None
        apart None was = was
        apart (Some y) was = absurd (unentered y was)

        at-term : term_of w ≤ term_at S i
        at-term = rw view (omega arith)

        own-been : HasBeen S i (term_of w) (site_start S i)
        own-been = let r = (H.sites i).ran up in record {
          some = up;
          ran = subst (In (site_start S i)) (sym r.1) (inl refl);
          greatest = let t = (H.sites i).term in omega (arith, at-term, t);
          others = λ _ n. absurd (n refl);
        }

    streams : (t : ℕ) (y : Streaming) → st i t ≡ Some y → StreamedOk T i t y
    streams = one-and-others _ (term_of w) (λ y took. subst (StreamedOk T i (term_of w)) (same-some (sym (stream-here S.logs.streamed i (term_of w) x-stream) ∙ took)) new-stream)
        (λ t n y took. takes-stream S H i s (without S m i) S.pending st k t y (sym (stream-term S.logs.streamed i (term_of w) x-stream t n) ∙ took))
      where
        x-stream : Streaming
        x-stream = record { start = site_start S i; stream_start = head.stream_start }

    -- who told it that its stream is whole meant this one
    end-taken : (c : ℕ) (y : Letter) → In y (between S c i) → (end_in y.body ≡ [] → ⊥) → (h : EndOk S c i y) → (z : Streaming) → st i y.term ≡ Some z → z.start ≡ y.start
        → (S.logs.streamed i y.term ≡ Some z) ⊎ (z.stream_start ≡ h.stream_start)
    end-taken c y there some h z took own = elim (cases_eq y.term (term_of w)) [
      | inr n ↦ inl (sym (stream-term S.logs.streamed i (term_of w) (record { start = site_start S i; stream_start = head.stream_start }) y.term n) ∙ took)
      | inl q ↦ inr (meant q (cases_eq c m))
    ]
      where
        meant : y.term ≡ term_of w → (c ≡ m) ⊎ (c ≡ m → ⊥) → z.stream_start ≡ h.stream_start
        meant q either = elim either [
          | inl from ↦ ap (λ z. z.stream_start) (sym new) ∙ (subst (AllByRecursion (BeginsAt h.stream_start)) (same-flow from)
              (h.begun j is (sym start-own) (ap term_in view ∙ sym q) (rw q low))).0
          | inr n ↦ absurd (some (sym (for-here (site_start S i) (term_of w) y (end_in y.body) start-own q)
              ∙ flat-each (end_of (site_start S i) (term_of w)) (between S c i) (word.others c (elsewhere n)).1 y there))
        ]
          where
            new : record { start = site_start S i; stream_start = head.stream_start } ≡ z
            new = same-some (sym (stream-here S.logs.streamed i (term_of w) (record { start = site_start S i; stream_start = head.stream_start })) ∙ subst (λ u. st i u ≡ Some z) q took)

            start-own : y.start ≡ site_start S i
            start-own = sym own ∙ ap (λ z. z.start) (sym new)

            same-flow : c ≡ m → flow y.start y.term (between S c i) ≡ Begins l.past head.stream_start ∷ flow (site_start S i) (term_of w) ls
            same-flow from = rw (start-own, q, from) (stream-first w view)

            elsewhere : (c ≡ m → ⊥) → follows S.words.deployment w i c ≡ false
            elsewhere n = elim (cases_Bool (follows S.words.deployment w i c)) [
              | inl f ↦ absurd (n (follows-one S.words.deployment w i c m f follows-it))
              | inr f ↦ f
            ]

    letters : (c : ℕ) → IsSlot S i → AllByRecursion (SiteLetterOk T c i) (without S m i (Site c) (Site i))
    letters c slot = without-each S m i (λ c ys. AllByRecursion (SiteLetterOk T c i) ys) x ls e
        (all-from (SiteLetterOk T m i) ls (λ y is. let first = subst (In y) (sym e) (inr is) in
        letter m y first (all-at (SiteLetterOk S m i) (between S m i) (H.letters m i slot) y first)))
        (λ c n. all-from (SiteLetterOk T c i) (between S c i) (λ y is. letter c y is (all-at (SiteLetterOk S c i) (between S c i) (H.letters c i slot) y is))) c
      where
        letter : (c : ℕ) (y : Letter) → In y (between S c i) → SiteLetterOk S c i y → SiteLetterOk T c i y
        letter c y there = letter-later-ends S T H later c i y
            (steady-joins S (without S m i) (set_at S.sites i s) S.pending st H (takes-steady S H i s (without S m i) S.pending st k) c)
            (λ some r h. end-later-if S T H later c i y r h (λ j' joins same-start same-term begun. first-begun S H m i x ls e c y.start y.term h.stream_start begun)
            (λ z took own. end-taken c y there some h z took own))

    taken-goes : LogsGo (site_popped S (Site m) i) i (becomes s)
    taken-goes = becomes-goes (site_popped S (Site m) i) i s st refl refl (let d = ap length untaken.empty in omega (arith, d))
        (takes-joined S H i s (without S m i) S.pending st k j joined is refl refl refl
        (λ h. let d = subst (λ z. (S.sites i).on_disk ≤ length z) untaken.empty h.on_disk in omega (arith, d)) (λ h. h)
        (takes-joiner S H i s (without S m i) S.pending st k j joined refl old.told old.based
        (λ v is-view h. subst (λ z. InWord T i z joined) (same-some (sym view ∙ is-view)) (takes-word S H i s (without S m i) S.pending st k less w j joined (λ u. takes-it) word))
        (λ no h. absurd (none-and-some no view)) old)
        letters (first-foreign S H m i x ls e) streams)

  -- a member drops it, and a joiner takes it where it may
  stream-taken : LogsGo (site_popped S (Site m) i) i (becomes (on_stream_start (S.sites i) (S.sites i).joining (record l { body = msg.StreamStart head }) head))
  stream-taken = go (S.sites i).joining refl
    where
      some-term : 0 < l.term
      some-term = (subst (AllByRecursion (SiteLetterOk S m i)) e (H.letters m i (running-slot S H i up))).0.0.1

      go : (o : Option Joining) → (S.sites i).joining ≡ o → LogsGo (site_popped S (Site m) i) i (becomes (on_stream_start (S.sites i) o (record l { body = msg.StreamStart head }) head))
      go None none = stream-drops (λ j is. absurd (none-and-some none is))
      go (Some j) is = cond_both (may_stream (S.sites i) j l) _ _ (λ z. LogsGo (site_popped S (Site m) i) i (becomes z))
          (λ may. takes-stream-in (S.sites i).view refl may) (λ may. stream-drops (λ k e. subst (λ z. may_stream (S.sites i) z l ≡ false) (same-some (sym is ∙ e)) may))
        where
          streaming : SiteState
          streaming = record (S.sites i) {
            joining = Some (record j { stream = Some (record { stream_start = head.stream_start; mark = head.mark }) });
            log = l.past;
            floor = head.stream_start;
            contents = None ∷ [];
          }

          takes-stream-in : (o : Option Membership) → (S.sites i).view ≡ o → may_stream (S.sites i) j l ≡ true → LogsGo (site_popped S (Site m) i) i (becomes streaming)
          takes-stream-in None view may = let z : l.term ≡ 0 = term ∙ ap term_in view in absurd (omega (arith, z, some-term))
          takes-stream-in (Some w) view may =
              let p = and_parts (is_none j.stream) (nat_lt (S.sites i).earlier l.term) may in
              let same-term : l.term ≡ term_of w = term ∙ ap term_in view in
              taken-goes w view j is (is_none-none j.stream p.0) (below p.1 same-term)
            where
              below : nat_lt (S.sites i).earlier l.term ≡ true → l.term ≡ term_of w → (S.sites i).earlier < term_of w
              below r same-term = grind (arith, nat_tests, r, same-term)

pub stream-start-goes : (S : LogState) → LogsHold S → (i c : ℕ) (l : Letter) (ls : List Letter) (head : StreamHead) → between S c i ≡ record l { body = msg.StreamStart head } ∷ ls
    → 0 < site_start S i → l.start ≡ site_start S i → l.term ≡ term_at S i
    → LogsGo (site_popped S (Site c) i) i (becomes (on_stream_start (S.sites i) (S.sites i).joining (record l { body = msg.StreamStart head }) head))
stream-start-goes S H i c l ls head e up start term = stream-taken S H c i l ls head e up start term
