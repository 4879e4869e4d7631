-- A joiner is told that its stream is whole, once the position at which that began is everywhere.
use Rattle.log_laws.proofs.Names.{◌≡◌, ◌<◌, ◌≤◌, true, List, [], ◌∷◌, refl, sym, subst, ap, ◌∙◌, inl, inr, true≢false, arith, and_parts, leb-true, ℕ, nat_le, map, length, Option, Some, None, is_some, AllByRecursion, Entry, Membership, term_of, term_in, leader, SiteState, Streamed, Joining, Joiner, is_sent, without_count, ends_streams, In, Distinct, all-at, all-from, in-map, in-map-from, none-and-some, end_letter, stream_ends-all, cond_both, LogState, LogsHold, Follows, WordOf, CountedOk, IsCounted, BeginsAt, SiteLetterOk, JoinsIn, ViewIn, StreamIn, KeepsOk, flow, follows, part, site_start, term_at, between}
use Rattle.log_laws.proofs.Kept.{LogsGo, same-word, some-term, took-decided, SiteRests, SaysRests, Bare, map-joiners, map-slots, reach-same, site-same, rests-goes}
use Rattle.log_laws.proofs.Plain.{stream_ends-other, follows-one, leader-followed}
use Rattle.log_laws.proofs.Firmness.Firm.{LeaderOf, leader-of}

-- ---- a joiner loses its count

count-same : {A : Type 0} (f : Joiner → A) → ((j : Joiner) → f (record j { count = None }) ≡ f j) → (s : SiteState) (j : Joiner) → f (without_count s j) ≡ f j
count-same f same s j = cond_both (is_sent s j) _ _ (λ z. f z ≡ f j) (λ _. same j) (λ _. refl)

count-counted : (T : LogState) (p t : ℕ) (s : SiteState) (j : Joiner) → CountedOk T p t j → CountedOk T p t (without_count s j)
count-counted T p t s j k = cond_both (is_sent s j) _ _ (CountedOk T p t)
    (λ _. record { been = k.been; part_is = k.part_is; reached = k.reached; position = k.position; later = k.later }) (λ _. k)

-- joiners of one slot are one
pub slot-one : (js : List Joiner) → Distinct (map (λ j. j.slot) js) → (j k : Joiner) → In j js → In k js → j.slot ≡ k.slot → j ≡ k
slot-one [] d j k a b e = absurd a
slot-one (x ∷ js) d j k (inl p) (inl q) e = sym p ∙ q
slot-one (x ∷ js) d j k (inl p) (inr b) e =
    absurd (d.0 (subst (λ n. In n (map (λ j. j.slot) js)) (sym e ∙ ap (λ y. y.slot) (sym p)) (in-map (λ j. j.slot) k js b)))
slot-one (x ∷ js) d j k (inr a) (inl q) e =
    absurd (d.0 (subst (λ n. In n (map (λ j. j.slot) js)) (e ∙ ap (λ y. y.slot) (sym q)) (in-map (λ j. j.slot) j js a)))
slot-one (x ∷ js) d j k (inr a) (inr b) e = slot-one js d.1 j k a b e

-- ---- that a stream is whole

module _ (T : LogState) (H : LogsHold T) (i : ℕ) (up : 0 < site_start T i) where
  keeps : KeepsOk T i
  keeps = (H.sites i).keeps up

  counting : (j : Joiner) → In j (T.sites i).joiners → LeaderOf T i
  counting j here = elim keeps.leads [ inl e ↦ absurd (subst (In j) e here) | inr e ↦ leader-of T H i up e ]

  module _ (j : Joiner) (here : In j (T.sites i).joiners) (sent : is_sent (T.sites i) j ≡ true) where
    o : LeaderOf T i
    o = counting j here

    k : CountedOk T (part T i) (term_at T i) j
    k = all-at (CountedOk T (part T i) (term_at T i)) (T.sites i).joiners keeps.joiners j here

    own : WordOf T (term_of o.word) o.word
    own = record { decided = o.member.decided; term_is = refl }

    term : term_at T i ≡ term_of o.word
    term = ap term_in o.view

    -- a start of its slot that is counted in this term is this one
    counted-stream_start : (a stream_start : ℕ) (v : Membership) → WordOf T (term_of o.word) v → IsCounted T j.slot a stream_start v → stream_start ≡ j.stream_start
    counted-stream_start a stream_start v of c =
        let is : v ≡ o.word = same-word T H (term_of o.word) v o.word of own in
        let r = c i (ap (λ x. leader T.words.deployment x (part T j.slot)) is ∙ ap (λ p. leader T.words.deployment o.word p) k.part_is ∙ o.first)
        up o.none (o.view ∙ ap Some (sym is)) in
        sym r.4 ∙ ap (λ x. x.stream_start) (slot-one (T.sites i).joiners keeps.alone r.0 j r.1 here r.2)

    -- what is under way to it begins at its position
    view-begins : (x : Joining) → (T.sites j.slot).joining ≡ Some x → site_start T j.slot ≡ j.start → (T.sites j.slot).earlier < term_at T i
        → (v : Option Membership) → (T.sites j.slot).view ≡ v → term_in v ≡ term_at T i → ViewIn T j.slot x v
        → AllByRecursion (BeginsAt j.stream_start) (flow j.start (term_at T i) (between T i j.slot))
    view-begins x joins runs low None view is w = absurd (let p = some-term T H o.word o.member.decided in omega (arith, is, term, p))
    view-begins x joins runs low (Some v) view is w =
        subst (λ t. AllByRecursion (BeginsAt j.stream_start) (flow j.start t (between T i j.slot))) is
        (subst (λ a. AllByRecursion (BeginsAt j.stream_start) (flow a (term_of v) (between T i j.slot))) runs (stream-begins x.stream w.stream))
      where
        decided : In v T.words.history.decided
        decided = took-decided T H (site_start T j.slot) v w.took

        of : WordOf T (term_of o.word) v
        of = record { decided = decided; term_is = is ∙ term }

        followed : follows T.words.deployment v j.slot i ≡ true
        followed = subst (λ y. follows T.words.deployment y j.slot i ≡ true) (sym (same-word T H (term_of o.word) v o.word of own))
            (leader-followed T.words.deployment o.word i j.slot o.first k.part_is (λ e. none-and-some o.none (ap (λ c. (T.sites c).joining) (sym e) ∙ joins)))

        only-follows : (es : List Entry) → AllByRecursion (BeginsAt j.stream_start) (map Follows es)
        only-follows [] = tt
        only-follows (e ∷ es) = (tt, only-follows es)

        stream-begins : (st : Option Streamed) → StreamIn T j.slot v x st → AllByRecursion (BeginsAt j.stream_start) (flow (site_start T j.slot) (term_of v) (between T i j.slot))
        stream-begins None u = elim (u.comes i followed (subst (λ t. (T.sites j.slot).earlier < t) (sym is) low)) [
          | inl q ↦ absurd (q.uncounted j here refl (sym runs))
          | inr q ↦ subst (AllByRecursion (BeginsAt j.stream_start)) (sym q.0.flow_is) (counted-stream_start (site_start T j.slot) (length q.0.past) v of q.0.counted, only-follows q.0.more)
        ]
        stream-begins (Some st) u = subst (λ l. AllByRecursion (BeginsAt j.stream_start) (flow (site_start T j.slot) (term_of v) (between T l j.slot)))
            (follows-one T.words.deployment v j.slot u.from i u.following followed) (subst (AllByRecursion (BeginsAt j.stream_start)) (sym u.flow_is) (only-follows u.more))

    -- its position is everywhere
    everywhere : j.stream_start ≤ T.logs.reach (part T j.slot) (term_at T i)
    everywhere = subst (λ p. j.stream_start ≤ T.logs.reach p (term_at T i)) (sym k.part_is) (subst (λ t. j.stream_start ≤ T.logs.reach (part T i) t) (sym term)
        (let firm = o.member.firm in let b = leb-true j.stream_start (T.sites i).firm (and_parts (is_some j.count) (nat_le j.stream_start (T.sites i).firm) sent).1 in omega (arith, firm, b)))

    end-ok : SiteLetterOk T i j.slot (end_letter (T.sites i) j.slot j)
    end-ok = (
      ((k.been.some, subst (λ t. 0 < t) (sym term) (some-term T H o.word o.member.decided)), k.been.ran, k.reached),
      record {
        stream_start = j.stream_start;
        everywhere = everywhere;
        begun = λ x joins runs is low. view-begins x joins runs low (T.sites j.slot).view refl is ((H.sites j.slot).joiner x joins).view;
        taken = λ runs is x streamed start.
            let r = H.streamed j.slot (term_at T i) x streamed in
            counted-stream_start x.start x.stream_start r.word (record { decided = took-decided T H x.start r.word r.took; term_is = r.term_is ∙ term }) r.counted;
      },
    )

  ends-say : SaysRests T i (ends_streams (T.sites i)).sends
  ends-say = record {
    sites = λ c. stream_ends-all (T.sites i) c (λ l. Bare l × SiteLetterOk T i c l) (λ j here same sent.
        ((refl, refl, refl, tt), subst (λ x. SiteLetterOk T i x (end_letter (T.sites i) x j)) same (end-ok j here sent)));
    ended = λ c w joins decided away. stream_ends-other (T.sites i) c (site_start T c) (term_of w) (λ j here same start is sent.
        elim away [ inl q ↦ q.uncounted j here same start | inr f ↦ true≢false (sym (led j here c w same joins decided is) ∙ f) ]);
    told = λ h. tt;
  }
    where
      -- a joiner of its slot in its term follows it
      led : (j : Joiner) → In j (T.sites i).joiners → (c : ℕ) (w : Membership) → j.slot ≡ c → JoinsIn T c w → In w T.words.history.decided → term_at T i ≡ term_of w
          → follows T.words.deployment w c i ≡ true
      led j here c w same joins decided is =
          let o = counting j here in
          let k = all-at (CountedOk T (part T i) (term_at T i)) (T.sites i).joiners keeps.joiners j here in
          let e = same-word T H (term_of o.word) w o.word (record { decided = decided; term_is = sym is ∙ ap term_in o.view })
          (record { decided = o.member.decided; term_is = refl }) in
          subst (λ x. follows T.words.deployment x c i ≡ true) (sym e) (leader-followed T.words.deployment o.word i c o.first (ap (λ x. part T x) (sym same) ∙ k.part_is)
          (λ q. none-and-some o.none (ap (λ x. (T.sites x).joining) (sym q) ∙ joins.1)))

  pub ends_streams-goes : LogsGo T i (ends_streams (T.sites i))
  ends_streams-goes = rests-goes T H i (ends_streams (T.sites i)).state (ends_streams (T.sites i)).sends T.logs.reach rests (reach-same T H) ends-say
    where
      rests : SiteRests T T.logs.reach i (ends_streams (T.sites i)).state
      rests = record {
        is = refl;
        member = λ e. e;
        joiner = (site-same T H i T.logs.reach i).joiner;
        counts = inl (refl, refl);
        acks = λ _. keeps.acks;
        joiners = λ _. all-from (CountedOk T (part T i) (term_at T i)) (map (without_count (T.sites i)) (T.sites i).joiners) (λ x here.
            let r = in-map-from (without_count (T.sites i)) x (T.sites i).joiners here in
            subst (CountedOk T (part T i) (term_at T i)) r.2 (count-counted T (part T i) (term_at T i) (T.sites i) r.0
            (all-at (CountedOk T (part T i) (term_at T i)) (T.sites i).joiners keeps.joiners r.0 r.1)));
        alone = λ _. subst Distinct (sym (map-slots (without_count (T.sites i)) (count-same (λ j. j.slot) (λ j. refl) (T.sites i)) (T.sites i).joiners)) keeps.alone;
        leads = λ _. elim keeps.leads [ inl e ↦ inl (ap (map (without_count (T.sites i))) e) | inr e ↦ inr e ];
        counted = map-joiners (without_count (T.sites i)) (count-same (λ j. j.slot) (λ j. refl) (T.sites i)) (count-same (λ j. j.start) (λ j. refl) (T.sites i))
            (count-same (λ j. j.stream_start) (λ j. refl) (T.sites i)) (T.sites i).joiners;
        on_disk = λ _. keeps.on_disk;
        held = λ _. keeps.held;
      }
