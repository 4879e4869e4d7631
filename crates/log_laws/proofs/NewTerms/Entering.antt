-- A site comes into a term as a member of its word: what was so before.
use Rattle.log_laws.proofs.Names.{◌≡◌, ◌<◌, true, false, [], ◌++◌, append-nil, append_assoc, refl, sym, subst, ap, ◌∙◌, ◌⊎◌, inl, inr, ◌==◌, arith, cases_eq, and_from, eq-eqb, false_from_ne_true, ℕ, ◌≤◌, nat_lt, max, length, Option, Some, None, Membership, slots, term_of, term_in, start_of_slot, host_of_slot, SiteState, Joining, Streamed, In, Prefix, Admitted, names, HistoryOk, GoodWord, Recorded, none-and-some, same-some, all-at, not-both, admits-fresh, one-first, at-good, term-same, member-is, prefix-trans, LogState, Entered, Leadership, LogsHold, IsSlot, WordOf, WasIn, Last, Unled, Came, known, MemberOk, JoinerOk, InWord, Took, ViewIn, StreamIn, LeadsIn, FollowsIn, line, between, part, site_start, log_at, term_at}
use Rattle.log_laws.proofs.Kept.{running-slot, took-not-named, base-least, entered-start, leadership-entered, running-in, was-in, last-below}
use Rattle.log_laws.proofs.NewTerms.Since.{since-running}
use Rattle.log_laws.proofs.Plain.{leads-or-follows, none-or-some}

-- ---- starts and words

-- the start of a site that runs has run
pub running-ran : (S : LogState) → LogsHold S → (c : ℕ) → 0 < site_start S c → In (site_start S c) (S.logs.ran c)
running-ran S H c up = let r = (H.sites c).ran up in subst (λ l. In (site_start S c) l) (sym r.1) (inl refl)

-- what ran at a slot is its host's
pub ran-owner : (S : LogState) → LogsHold S → (c a : ℕ) → In a (S.logs.ran c) → S.words.owner a ≡ host_of_slot S.words.deployment c
ran-owner S H c a is = let h = host_of_slot S.words.deployment c in
    (all-at (λ x. (S.words.owner x ≡ h) × (0 < x) × (x < S.words.next)) (S.words.history.began h) (H.words.hosts h).began a ((H.views c).began a (inr (inl is)))).0

-- where a decided word names a start that took one as a joiner, it was admitted at the word that it took
pub took-admitted : (S : LogState) → LogsHold S → (a : ℕ) (v w : Membership) → S.words.history.took a ≡ Some v → In w S.words.history.decided → names w a ≡ true
    → (x : Admitted) × In x S.words.history.admitted × (x.start ≡ a) × (x.at ≡ v)
took-admitted S H a v w took decided named = let ok = h.admitted_ok r.entry r.is_one in (
  r.entry,
  r.is_one,
  r.same,
  term-same S.words h r.entry.at v (at-good S.words h r.entry r.is_one) gv (h.chain r.entry.at v ok.decided is)
      (sym ok.term_is ∙ ap term_of (same-some (sym ok.took ∙ ap S.words.history.took r.same ∙ took))),
)
  where
    h : HistoryOk S.words
    h = H.words.history

    is : In v S.words.history.decided
    is = (h.took_ok a v took).0

    gv : GoodWord S.words v
    gv = h.decided_good v is

    gw : GoodWord S.words w
    gw = h.decided_good w decided

    r : Recorded S.words w a
    r = gw.recorded a (admits-fresh v w a (one-first S.words h v w gv gw) (false_from_ne_true (names v a) (took-not-named S H a v took)) named)

-- who came before a term came before a later one
pub came-up : (S : LogState) (c t u a : ℕ) → t ≤ u → Came S c t a → Came S c u a
came-up S c t u a low (inl e) = inl e
came-up S c t u a low (inr (x, k, is, start, below)) = inr (x, k, is, start, omega (arith, low, below))

-- what a slot of a partition entered a term with, and the partition's last leader before
pub behind-at : (S : LogState) → LogsHold S → (p c t u : ℕ) (e : Entered) → part S c ≡ p → S.logs.entered c t ≡ Some e → (l : Last S.logs p u t)
    → Prefix e.log l.leadership.log × (known e ≤ S.logs.reach p u)
behind-at S H p c t u e part-is is l =
    let r = (H.entered c t e is).behind u (record {
      leadership = l.leadership;
      led = ap (λ q. S.logs.leadership q u) part-is ∙ l.led;
      below = l.below;
      greatest = λ x g k. l.greatest x g (ap (λ q. S.logs.leadership q x) (sym part-is) ∙ k);
    }) in
    (r.0, subst (λ q. known e ≤ S.logs.reach q u) part-is r.1)

-- ---- a member of a word

-- in its log there is the prefix of what its leader has, and it is as it entered where nobody leads
pub led-prefix : (S : LogState) → LogsHold S → (c : ℕ) (v : Membership) → MemberOk S c v → IsSlot S c → (g : Leadership) → S.logs.leadership (part S c) (term_of v) ≡ Some g
    → Prefix (log_at S c) g.log
led-prefix S H c v k slot g led = elim (leads-or-follows S.words.deployment v c (site_start S c) k.start_is) [
  | inl authoritative ↦ let e = (subst (LeadsIn (S.sites c)) led (k.leading authoritative)).1 in ([], sym e ∙ sym (append-nil (log_at S c)))
  | inr f ↦ follower f.0 (subst (FollowsIn (S.sites c) (line (site_start S c) (term_of v) (between S f.0 c))) led (k.following f.0 f.1))
]
  where
    own : (e : Entered) × (S.logs.entered c (term_of v) ≡ Some e) × (e.start ≡ site_start S c) × Prefix e.log g.begun
    own = leadership-entered S H (part S c) (term_of v) g led v (record { decided = k.decided; term_is = refl }) c (site_start S c) slot refl k.start_is

    follower : (l : ℕ) → FollowsIn (S.sites c) (line (site_start S c) (term_of v) (between S l c)) (Some g) → Prefix (log_at S c) g.log
    follower l (inl (es, _, _, e, _)) = (es, sym e)
    follower l (inr (es, rep, _, e)) =
        let log = (k.still rep).0 ∙ ap (λ x. x.log) (same-some (sym k.is_entered ∙ own.1)) in
        rw log (prefix-trans own.0.log g.begun g.log own.3 (es, sym e))

pub unled-repaired : (S : LogState) (c : ℕ) (v : Membership) → MemberOk S c v → S.logs.leadership (part S c) (term_of v) ≡ None → (S.sites c).repaired ≡ false
unled-repaired S c v k none = elim (leads-or-follows S.words.deployment v c (site_start S c) k.start_is) [
  | inl authoritative ↦ subst (LeadsIn (S.sites c)) none (k.leading authoritative)
  | inr f ↦ (subst (FollowsIn (S.sites c) (line (site_start S c) (term_of v) (between S f.0 c))) none (k.following f.0 f.1)).0
]

-- a joiner that has loaded all, with the word that it took
pub record LoadedAll (S : LogState) (i : ℕ) (v : Membership) : Type 0 where
  pub joining : Joining
  pub joins : (S.sites i).joining ≡ Some joining
  pub ok : JoinerOk S i joining
  pub in_word : InWord S i v joining
  pub loaded : joining.is_loaded ≡ true
  pub stream_start : ℕ
  pub took : Took S i v joining stream_start

-- what a site enters a term with
abbrev pub entering : SiteState → Entered
entering s = record { start = s.start; log = s.log; floor = s.floor; firm = s.firm }

-- ---- a site that gets a word which counts its start

module _ (S : LogState) (H : LogsHold S) (i : ℕ) (v w : Membership) (up : 0 < site_start S i) (view : (S.sites i).view ≡ Some v) (decided : In w S.words.history.decided)
    (member : start_of_slot S.words.deployment w i ≡ Some (site_start S i)) (above : term_of v < term_of w) where
  slot : IsSlot S i
  slot = running-slot S H i up

  word : WordOf S (term_of w) w
  word = record { decided = decided; term_is = refl }

  here : term_at S i ≡ term_of v
  here = ap term_in view

  -- Before, it was a member, or it is a joiner that has loaded all.
  pub was-member : MemberOk S i v ⊎ LoadedAll S i v
  was-member = elim (none-or-some (S.sites i).joining) [
    | inl e ↦ let m = (H.sites i).member up e in inl (subst (MemberOk S i) (same-some (sym m.1 ∙ view)) m.2)
    | inr (j, e) ↦ inr (joined j e)
  ]
    where
      joined : (j : Joining) → (S.sites i).joining ≡ Some j → LoadedAll S i v
      joined j joins = streamed j.stream refl in_word.stream
        where
          ok : JoinerOk S i j
          ok = (H.sites i).joiner j joins

          in_word : InWord S i v j
          in_word = subst (ViewIn S i j) view ok.view

          named : names w (site_start S i) ≡ true
          named = (member-is S.words H.words.history w (host_of_slot S.words.deployment i) (site_start S i) (H.words.history.decided_good w decided) member).0

          loaded : j.is_loaded ≡ true
          loaded =
              let x = took-admitted S H (site_start S i) v w in_word.took decided named in
              let owner = ap S.words.owner x.2 ∙ ran-owner S H i (site_start S i) (running-ran S H i up) in
              ok.based ((H.loads.admitted x.0 x.1 i (and_from (nat_lt i (slots S.words.deployment)) (host_of_slot S.words.deployment i == S.words.owner x.0.start)
              slot (eq-eqb (host_of_slot S.words.deployment i) (S.words.owner x.0.start) (sym owner)))).1 up (sym x.2) j joins)

          streamed : (o : Option Streamed) → j.stream ≡ o → StreamIn S i v j o → LoadedAll S i v
          streamed None e k = absurd (not-both j.is_loaded loaded k.loads)
          streamed (Some st) e k = record { joining = j; joins = joins; ok = ok; in_word = in_word; loaded = loaded; stream_start = st.stream_start; took = k }

  pub came : Came S i (term_of w) (site_start S i)
  came = elim was-member [
    | inl k ↦ came-up S i (term_of v) (term_of w) (site_start S i) (omega (arith, above))
        (subst (Came S i (term_of v)) k.since (H.entered i (term_of v) k.entered k.is_entered).came)
    | inr k ↦ inr (term_of v, _, k.took.streamed, refl, above)
  ]

  -- the slot's earlier starts had lower terms
  pub earlier-below : (S.sites i).earlier ≤ term_of v
  earlier-below = elim was-member [ inl k ↦ k.earlier | inr k ↦ let r = ((H.streamed i (term_of v) _ k.took.streamed).running refl).0 in omega (arith, r) ]

  -- it hasn't been in the term, and nobody leads it
  pub not-entered : S.logs.entered i (term_of w) ≡ None
  not-entered = elim (none-or-some (S.logs.entered i (term_of w))) [
    | inl e ↦ e
    | inr (f, e) ↦
        let start = same-some (sym member ∙ entered-start S H i (term_of w) f e w word) in
        let low = ((H.entered i (term_of w) f e).running start).1 in absurd (omega (arith, low, here, above))
  ]

  pub not-streamed : S.logs.streamed i (term_of w) ≡ None
  not-streamed = elim (none-or-some (S.logs.streamed i (term_of w))) [
    | inl e ↦ e
    | inr (x, e) ↦ let k = H.streamed i (term_of w) x e in elim (cases_eq (site_start S i) x.start) [
      | inl same ↦ let low = (k.running same).1 in absurd (omega (arith, low, here, above))
      | inr other ↦ let low = k.been.others up other in let b = earlier-below in absurd (omega (arith, low, b, above))
    ]
  ]

  pub not-led : S.logs.leadership (part S i) (term_of w) ≡ None
  not-led = elim (none-or-some (S.logs.leadership (part S i) (term_of w))) [
    | inl e ↦ e
    | inr (g, e) ↦ absurd (none-and-some not-entered (leadership-entered S H (part S i) (term_of w) g e w word i (site_start S i) slot refl member).1)
  ]

  -- It was in the last term that was led, and no later one.
  pub was-last : (u : ℕ) → Last S.logs (part S i) u (term_of w) → WasIn S i u (site_start S i)
  was-last u l = was-in S H i (term_of w) (site_start S i) w slot word member came u l

  -- as a member, in a term that nobody led
  unled-here : (k : MemberOk S i v) → S.logs.leadership (part S i) (term_of v) ≡ None → (log_at S i ≡ k.entered.log) × (known (entering (S.sites i)) ≡ known k.entered)
  unled-here k none = let s = k.still (unled-repaired S i v k none) in (s.0, λ n. max (s.1 n) (s.2 n))

  -- Its log is a prefix of that of the last leader before, and what it took to be everywhere was so in that leader's term.
  pub behind : (u : ℕ) (l : Last S.logs (part S i) u (term_of w)) → Prefix (log_at S i) l.leadership.log × (known (entering (S.sites i)) ≤ S.logs.reach (part S i) u)
  behind u l = elim was-member [
    | inl k ↦ elim (cases_eq u (term_of v)) [
      | inl e ↦ (led-prefix S H i v k slot l.leadership (rw (← e) l.led), (let a = k.floor in let b = k.firm in rw e (omega (arith, a, b))))
      | inr n ↦ lower k n
    ]
    | inr k ↦ joined k
  ]
    where
      low : u ≤ term_of v
      low = let b = (running-in S H i u (site_start S i) (was-last u l) refl).1 in omega (arith, b, here)

      lower : (k : MemberOk S i v) → (u ≡ term_of v → ⊥) → Prefix (log_at S i) l.leadership.log × (known (entering (S.sites i)) ≤ S.logs.reach (part S i) u)
      lower k n = let same = unled-here k (elim (none-or-some (S.logs.leadership (part S i) (term_of v))) [
        | inl e ↦ e
        | inr (g, e) ↦ let b = l.greatest (term_of v) g e above in absurd (n (omega (arith, low, b)))
      ]) in
          rw (same.0, same.1) ((H.entered i (term_of v) k.entered k.is_entered).behind u
          (record { leadership = l.leadership; led = l.led; below = omega (arith, low, n); greatest = λ x g is b. l.greatest x g is (omega (arith, b, above)) }))

      joined : (k : LoadedAll S i v) → Prefix (log_at S i) l.leadership.log × (known (entering (S.sites i)) ≤ S.logs.reach (part S i) u)
      joined k =
          let b = l.greatest (term_of v) k.took.leadership k.took.led above in
          let e : u ≡ term_of v = omega (arith, low, b) in
          let g = same-some (sym l.led ∙ ap (S.logs.leadership (part S i)) e ∙ k.took.led) in
          let r = k.took.ends (inl k.loaded) in (
            (k.joining.tasks ++ k.took.more, ap (λ z. z.log) g ∙ sym k.took.whole ∙ append_assoc (log_at S i) k.joining.tasks k.took.more),
            (let f = k.took.floor in let z = k.ok.firm in rw e (omega (arith, r, f, z))),
          )

  -- It was the same in the terms since, in which nobody led.
  pub still : (u : ℕ) (f : Entered) → u < term_of w → S.logs.entered i u ≡ Some f → f.start ≡ site_start S i → Unled S.logs (part S i) u (term_of w)
      → (log_at S i ≡ f.log) × (known (entering (S.sites i)) ≡ known f)
  still u f below is start unled = elim was-member [
    | inl k ↦
        let low = ((H.entered i u f is).running (sym start)).1 in
        let same = unled-here k (none k (S.logs.leadership (part S i) (term_of v)) refl) in
        elim (cases_eq u (term_of v)) [
          | inl e ↦ let g = same-some (sym k.is_entered ∙ ap (S.logs.entered i) (sym e) ∙ is) in (same.0 ∙ ap (λ z. z.log) g, same.1 ∙ ap known g)
          | inr n ↦
              let r = (H.entered i (term_of v) k.entered k.is_entered).still u f (omega (arith, low, here, n)) is (start ∙ sym k.since)
              (λ x g led a b. unled x g led a (omega (arith, b, above))) in
              (same.0 ∙ r.0, same.1 ∙ r.1)
        ]
    | inr k ↦ absurd (k.ok.unentered u f is start)
  ]
    where
      none : MemberOk S i v → (o : Option Leadership) → S.logs.leadership (part S i) (term_of v) ≡ o → S.logs.leadership (part S i) (term_of v) ≡ None
      none k None e = e
      none k (Some g) e = let low = ((H.entered i u f is).running (sym start)).1 in absurd (unled (term_of v) g e (omega (arith, low, here)) above)

  -- ---- what is everywhere is in each log

  last : (u : ℕ) × Last S.logs (part S i) u (term_of w)
  last = last-below S H (part S i) (term_of w) (elim was-member [
    | inl k ↦ let b = base-least S H v k.decided in omega (arith, b, above)
    | inr k ↦ let b = base-least S H v (H.words.history.took_ok (site_start S i) v k.in_word.took).0 in omega (arith, b, above)
  ])

  pub known-within : known (entering (S.sites i)) ≤ length (log_at S i)
  known-within = let a = (behind last.0 last.1).1 in let b = (running-in S H i last.0 (site_start S i) (was-last last.0 last.1) refl).0 in omega (arith, a, b)

  pub reach-within : S.logs.reach (part S i) (term_of w) ≤ length (log_at S i)
  reach-within = elim (H.unled (part S i) (term_of w) not-led) [
    | inl z ↦ omega (arith, z)
    | inr (c, f, part-is, is, reach) ↦
        let a = (behind-at S H (part S i) c (term_of w) last.0 f part-is is last.1).1 in
        let b = (running-in S H i last.0 (site_start S i) (was-last last.0 last.1) refl).0 in
        omega (arith, a, b, reach)
  ]

  -- and so is what was everywhere in each earlier term that was led
  pub since-within : (u : ℕ) (g : Leadership) → S.logs.leadership (part S i) u ≡ Some g → u < term_of w → S.logs.reach (part S i) u ≤ length (log_at S i)
  since-within = since-running S H i (term_of w) (site_start S i) w slot word member came refl

  -- in those of other copies that have entered the term too
  pub others-within : (c : ℕ) (f : Entered) → part S c ≡ part S i → S.logs.entered c (term_of w) ≡ Some f → site_start S c ≡ f.start
      → known (entering (S.sites i)) ≤ length (log_at S c)
  others-within c f part-is is runs =
      let k = H.entered c (term_of w) f is in
      let b = (running-in S H c last.0 f.start (was-in S H c (term_of w) f.start k.word k.slot k.is_word k.start_is k.came last.0
      (subst (λ q. Last S.logs q last.0 (term_of w)) (sym part-is) last.1)) runs).0 in
      let a = (behind last.0 last.1).1 in
      let e = ap (λ q. S.logs.reach q last.0) part-is in
      omega (arith, a, b, e)
