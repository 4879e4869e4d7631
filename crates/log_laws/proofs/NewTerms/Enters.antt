-- A site takes a word that counts its start, and enters its term: what holds, holds after it.
use Rattle.log_laws.proofs.Names.{◌≡◌, ◌<◌, List, [], ◌∷◌, refl, sym, subst, ap, ◌∙◌, ◌⊎◌, inl, inr, ◌==◌, arith, cases_eq, cases_lt, ℕ, ◌≤◌, length, drop, max, Option, Some, None, AllByRecursion, Membership, Actor, Agent, Site, Deployment, term_of, term_in, start_of_slot, leader, Letter, Sends, letter_in, sending, SiteState, Joiner, site_term, start_in_view, in_new_term, sent, In, Prefix, none-and-some, same-some, all-filter, set-here, set-there, set-both, prefix-refl, LogState, Logs, LogsHold, Entered, Streaming, IsSlot, known, EnteredOk, UnledOk, MemberOk, SiteOk, LeadsIn, FollowsIn, SiteLetterOk, AsksToJoin, HasBeen, HeldOk, ForeignOk, part, site_start, log_at, term_at, between, line, line_of, flow_of, end_of, asks_of_term, asked}
use Rattle.volt_wire.specs.declared.message.Msg.TheVariants as msg
use Rattle.log_laws.proofs.Kept.{after_site, site_popped, LogsLater, Stays, EntersNow, Turns, NoStreamStart, grown-reach, been-later, stays, entered-later, same-leaderships, leaderships-later, AtMost, running-slot, some-term, some-start, words-after, words-popped, still-same, member-keeps, put_at, put-both, put-here, put-there, site_turned, turned-later, turned-holds, fresh-keeps, said-same}
use Rattle.log_laws.proofs.Kept.Turned.{Turned}
use Rattle.log_laws.proofs.Plain.{if-none, leader-copy, start-in-view, flat-none, flat-same, if-empty}
use Rattle.log_laws.proofs.NewTerms.Entering.{since-within, running-ran, entering, was-member, came, earlier-below, not-entered, not-streamed, not-led, behind, still, known-within, reach-within, others-within}
use Rattle.log_laws.proofs.NewTerms.Taking.{no-line, later-word, popped-other, mine-taken, theirs-taken, tells-taken, foreign-taken, views-taken}

-- the site as it enters
abbrev pub entered_site : SiteState → Membership → SiteState
entered_site s w = record (in_new_term s w) { joining = None }

-- the history in which it has entered
abbrev pub entered_by : LogState → ℕ → ℕ → ℕ → ℕ → Option Entered
entered_by S i t = put_at S.logs.entered i t (Some (entering (S.sites i)))

abbrev pub reached_by : LogState → ℕ → ℕ → ℕ → ℕ → ℕ
reached_by S i t = put_at S.logs.reach (part S i) t (max (S.logs.reach (part S i) t) (known (entering (S.sites i))))

-- its report
abbrev pub report_letter : Deployment → SiteState → Membership → ℕ → Letter
report_letter D s w c = letter_in (term_of w) (start_in_view D (Some w) c) (msg.Report (length s.log) s.floor (drop s.floor s.log))

-- it sends at most that, to the leader of its partition alone, which is another
pub record Reporting (D : Deployment) (i p : ℕ) (s : SiteState) (w : Membership) (out : Sends) : Type 0 where
  pub sites : (c : ℕ) → ((leader D w p ≡ Some c) × (c ≡ i → ⊥) × (out (Site c) ≡ report_letter D s w c ∷ [])) ⊎ (out (Site c) ≡ [])
  pub agents : (h : ℕ) → out (Agent h) ≡ []

module _ (S : LogState) (H : LogsHold S) (h i : ℕ) (l : Letter) (w : Membership) (ls : List Letter) (is : S.words.channel (Agent h) (Site i) ≡ record l { body = msg.View w } ∷ ls)
    (start : l.start ≡ site_start S i) (up : 0 < site_start S i) (v : Membership) (view : (S.sites i).view ≡ Some v)
    (out : Sends) (says : Reporting S.words.deployment i (part S i) (S.sites i) w out) where
  abbrev D : Deployment
  D = S.words.deployment

  abbrev s : SiteState
  s = entered_site (S.sites i) w

  abbrev ch : Actor → Actor → List Letter
  ch = sent (site_popped S (Agent h) i).words.channel (Site i) out

  abbrev en : ℕ → ℕ → Option Entered
  en = entered_by S i (term_of w)

  abbrev rc : ℕ → ℕ → ℕ
  rc = reached_by S i (term_of w)

  abbrev T : LogState
  T = site_turned S i s ch en S.logs.leadership rc

  abbrev G : Logs
  G = record S.logs { entered = en; reach = rc }

  abbrev new : ℕ → List Letter
  new c = out (Site c)

  says-all : (P : Letter → Type 0) (c : ℕ) → (leader D w (part S i) ≡ Some c → (c ≡ i → ⊥) → P (report_letter D (S.sites i) w c)) → AllByRecursion P (new c)
  says-all P c f = elim (says.sites c) [ inl o ↦ subst (AllByRecursion P) (sym o.2) (f o.0 o.1, tt) | inr e ↦ subst (AllByRecursion P) (sym e) tt ]

  here : T.sites i ≡ s
  here = set-here S.sites i s

  there : (c : ℕ) → (c ≡ i → ⊥) → T.sites c ≡ S.sites c
  there c other = set-there S.sites i s c other

  slot : IsSlot S i
  slot = running-slot S H i up

  decided : In w S.words.history.decided
  decided = (later-word S H h i l w ls is start up v view).0

  member : start_of_slot D w i ≡ Some (site_start S i)
  member = (later-word S H h i l w ls is start up v view).1

  above : term_of v < term_of w
  above = (later-word S H h i l w ls is start up v view).2

  higher : term_at S i < term_of w
  higher = let a = above in let b = ap term_in view in omega (arith, a, b)

  fresh : S.logs.entered i (term_of w) ≡ None
  fresh = not-entered S H i v w up view decided member above

  unled : S.logs.leadership (part S i) (term_of w) ≡ None
  unled = not-led S H i v w up view decided member above

  entered-here : en i (term_of w) ≡ Some (entering (S.sites i))
  entered-here = put-here S.logs.entered i (term_of w) (Some (entering (S.sites i)))

  reach-here : rc (part S i) (term_of w) ≡ max (S.logs.reach (part S i) (term_of w)) (known (entering (S.sites i)))
  reach-here = put-here S.logs.reach (part S i) (term_of w) (max (S.logs.reach (part S i) (term_of w)) (known (entering (S.sites i))))

  later : LogsLater S T
  later = turned-later S i s ch en S.logs.leadership rc
      (record {
        start = refl;
        earlier = refl;
        greatest = omega arith;
        log = omega arith;
        term = (let a = higher in omega (arith, a));
        member = λ _. refl;
        loaded = λ k e. absurd (none-and-some refl e);
      })
      (put-both (λ c t x. (e : Entered) → S.logs.entered c t ≡ Some e → x ≡ Some e) S.logs.entered i (term_of w) (Some (entering (S.sites i)))
      (λ e m. absurd (none-and-some fresh m)) (λ c t _ e m. m))
      (put-both (λ c t x. (e : Entered) → x ≡ Some e → (S.logs.entered c t ≡ Some e) ⊎ EntersNow S c t e) S.logs.entered i (term_of w) (Some (entering (S.sites i)))
      (λ e m. let q = same-some m in inr (record {
        runs = up;
        start = ap (λ z. z.start) (sym q);
        log = subst (λ z. length (log_at S i) ≤ length z.log) q (omega arith);
        above = higher;
      }))
      (λ c t _ e m. inl m))
      (put-both (λ p t r. S.logs.reach p t ≤ r) S.logs.reach (part S i) (term_of w) (max (S.logs.reach (part S i) (term_of w)) (known (entering (S.sites i))))
      (omega arith) (λ p t _. omega arith))

  -- ---- what it sends is no more than its report

  line-there : (a c start t : ℕ) → line start t (ch (Site a) (Site c)) ≡ line start t (between S a c)
  line-there a c b t = said-same (line b t) S i ch new (mine-taken S H h i l w ls is start up out) (theirs-taken S H h i l w ls is start up out) a c
      (flat-same (line_of b t) (between S i c) (new c) (flat-none (line_of b t) (new c) (says-all (λ x. line_of b t x ≡ []) c (λ _ _. if-empty _ _ refl))))

  -- an ask of it is one of an earlier start
  asks-gone : (c t a : ℕ) → IsSlot S c → In a (asked S i c t) → AsksToJoin S (part S c) i t a → AsksToJoin T (part S c) i t a
  asks-gone c t a sl m k = record { been = been-later S T H later i t a k.been; part_is = k.part_is; joins = λ e. absurd (clash (sym (ap (λ z. z.start) here) ∙ e)) }
    where
      clash : site_start S i ≡ a → ⊥
      clash e = let j = k.joins e in elim (was-member S H i v w up view decided member above) [
        | inl o ↦ ((H.sites i).joiner j.1.0 j.1.1).unentered (term_of v) o.entered o.is_entered o.since
        | inr o ↦ let q = sym j.2 ∙ ap term_of (same-some (sym j.1.2 ∙ view)) in
            subst (In a) (ap (asked S i c) q ∙ o.took.asks c sl) m
      ]

  turns : Turned S i s ch en S.logs.leadership rc new
  turns = record {
    later = later;
    mine = mine-taken S H h i l w ls is start up out;
    theirs = theirs-taken S H h i l w ls is start up out;
    flows = λ c b t. flat-none (flow_of b t) (new c) (says-all (λ x. flow_of b t x ≡ []) c (λ _ _. if-empty _ _ refl));
    ends = λ c b t. flat-none (end_of b t) (new c) (says-all (λ x. end_of b t x ≡ []) c (λ _ _. if-empty _ _ refl));
    agreed = λ g k. refl;
    tells = tells-taken S H h i l w ls is start up out says.agents;
    views = λ c other. popped-other S H h i l w ls is start up c other _;
    foreign = foreign-taken S H h i l w ls is start up out (λ c. says-all (ForeignOk S c (Site i)) c (λ _ _. tt));
    waiting = refl;
    asks = λ c t. subst (AtMost (asks_of_term c t (S.sites i))) (sym (if-none (site_term s == t))) (record { shorter = omega arith; within = λ y m. absurd m });
    joiners = λ j m. absurd m;
    joins = asks-gone;
    entered = λ c t other. put-there S.logs.entered i (term_of w) (Some (entering (S.sites i))) c t (λ e _. other e);
    led = λ p t g m. (
      refl,
      put-there S.logs.reach (part S i) (term_of w) (max (S.logs.reach (part S i) (term_of w)) (known (entering (S.sites i)))) p t
          (λ e f. none-and-some unled (ap (λ z. S.logs.leadership z (term_of w)) (sym e) ∙ ap (S.logs.leadership p) (sym f) ∙ m)),
    );
    counted = λ c a stream_start u g _ led k l authoritative. set-both (λ l z. leader D u (part S c) ≡ Some l → 0 < z.start → z.joining ≡ None → z.view ≡ Some u
        → (j : Joiner) × In j z.joiners × (j.slot ≡ c) × (j.start ≡ a) × (j.stream_start ≡ stream_start)) S.sites i s
        (λ authoritative _ _ e. absurd (none-and-some unled (ap (λ z. S.logs.leadership z (term_of w)) (leader-copy D u (part S c) i authoritative).0
        ∙ ap (λ z. S.logs.leadership (part S c) (term_of z)) (same-some e) ∙ led)))
        (λ l _. k l) l authoritative;
    members = λ c u other _ _ _ k. member-keeps S T H later c (still-same (S.sites c) (T.sites c) (there c other)) u k (λ a. line-there a c (site_start S c) (term_of u)) refl;
    lines = λ c a u j other _ _ e. line-there a c (site_start S c) (term_of u) ∙ e;
  }

  -- ---- the site itself

  own-start : site_start T i ≡ site_start S i
  own-start = ap (λ z. z.start) here

  no-lines : (a : ℕ) → line (site_start T i) (term_of w) (ch (Site a) (Site i)) ≡ []
  no-lines a = subst (λ z. line z (term_of w) (ch (Site a) (Site i)) ≡ []) (sym own-start) (line-there a i (site_start S i) (term_of w) ∙ no-line S H i (term_of w) slot higher a)

  own-member : MemberOk T i w
  own-member = record {
    decided = decided;
    start_is = member ∙ ap Some (sym own-start);
    entered = entering (S.sites i);
    is_entered = entered-here;
    since = sym own-start;
    earlier = subst (λ z. z.earlier ≤ term_of w) (sym here) (let a = earlier-below S H i v w up view decided member above in let b = above in omega (arith, a, b));
    grown = subst (λ z. Prefix (log_at S i) z.log) (sym here) (prefix-refl (log_at S i));
    still = λ _. (ap (λ z. z.log) here, ap (λ z. z.floor) here, ap (λ z. z.firm) here);
    floor = subst (λ z. z.floor ≤ rc (part S i) (term_of w)) (sym here) (let e = reach-here in omega (arith, e));
    firm = subst (λ z. z.firm ≤ rc (part S i) (term_of w)) (sym here) (let e = reach-here in omega (arith, e));
    leading = λ _. subst (LeadsIn (T.sites i)) (sym unled) (ap (λ z. z.repaired) here);
    following = λ a _. subst (FollowsIn (T.sites i) (line (site_start T i) (term_of w) (ch (Site a) (Site i)))) (sym unled) (ap (λ z. z.repaired) here, no-lines a);
    others = λ a _. no-lines a;
  }

  own-site : SiteOk T i
  own-site = let k = H.sites i in record {
    environment = λ e. own-start ∙ k.environment e;
    ran = λ _. let r = k.ran up in (r.0, r.1 ∙ ap (λ z. z ∷ r.0) (sym own-start));
    term = subst (λ z. site_term z ≤ z.greatest) (sym here) (omega arith);
    earlier = subst (λ z. z.earlier ≤ z.greatest) (sym here) (let b = k.earlier in omega (arith, b));
    member = λ _ _. (w, ap (λ z. z.view) here, own-member);
    joiner = λ j e. absurd (none-and-some (ap (λ z. z.joining) here) e);
    keeps = λ _. let o = k.keeps up in fresh-keeps S H i s ch en S.logs.leadership rc new turns up refl refl refl refl refl o.on_disk
        (all-filter HeldOk _ (S.sites i).held o.held) o;
    stopped = λ e. let z = sym own-start ∙ e in absurd (omega (arith, up, z));
    blank = λ e. let z = sym own-start ∙ e in absurd (omega (arith, up, z));
  }

  been-here : HasBeen T i (term_of w) (site_start S i)
  been-here = record {
    some = up;
    ran = running-ran S H i up;
    greatest = subst (λ z. term_of w ≤ z.greatest) (sym here) (omega arith);
    others = λ _ n. absurd (n own-start);
  }

  -- ---- what was entered

  reach-there : (p t : ℕ) → (p ≡ part S i → t ≡ term_of w → ⊥) → rc p t ≡ S.logs.reach p t
  reach-there p t n = put-there S.logs.reach (part S i) (term_of w) (max (S.logs.reach (part S i) (term_of w)) (known (entering (S.sites i)))) p t n

  own-entered : EnteredOk T i (term_of w) (entering (S.sites i))
  own-entered = record {
    slot = slot;
    word = w;
    is_word = record { decided = decided; term_is = refl };
    start_is = member;
    been = been-here;
    came = came S H i v w up view decided member above;
    reach = let e = reach-here in omega (arith, e);
    behind = λ u l.
        let b = behind S H i v w up view decided member above u (record { leadership = l.leadership; led = l.led; below = l.below; greatest = l.greatest }) in
        (b.0, (let a = later.reach (part S i) u in let n = b.1 in omega (arith, a, n)));
    still = λ u f below then same none. still S H i v w up view decided member above u f below
        (sym (put-there S.logs.entered i (term_of w) (Some (entering (S.sites i))) i u (λ _ e. let a = below in absurd (omega (arith, a, e)))) ∙ then) same none;
    running = λ _. (
      ap (λ z. z.joining) here,
      subst (λ z. term_of w ≤ site_term z) (sym here) (omega arith),
      subst (λ z. rc (part S i) (term_of w) ≤ length z.log) (sym here)
          (let e = reach-here in let a = known-within S H i v w up view decided member above in
          let b = reach-within S H i v w up view decided member above in omega (arith, e, a, b)),
    );
    since = λ u g led below. let n = since-within S H i v w up view decided member above u g led below in let e = (turns.led (part S i) u g led).1 in omega (arith, n, e);
  }

  -- what is everywhere is in the logs of those that entered
  reach-kept : (c u : ℕ) (e : Entered) → (c ≡ i → u ≡ term_of w → ⊥) → S.logs.entered c u ≡ Some e → site_start T c ≡ e.start → rc (part S c) u ≤ length (log_at T c)
  reach-kept c u e n m runs = elim (cases_eq (part S c) (part S i)) [
    | inr d ↦ plain (λ q _. d q)
    | inl q ↦ elim (cases_eq u (term_of w)) [ inr d ↦ plain (λ _ r. d r) | inl r ↦ raised q r ]
  ]
    where
      k : EnteredOk S c u e
      k = H.entered c u e m

      y : Stays S T c
      y = stays S T H later c e.start k.been.some k.been.ran runs

      old : S.logs.reach (part S c) u ≤ length (log_at S c)
      old = (k.running (sym y.start ∙ runs)).2

      plain : (part S c ≡ part S i → u ≡ term_of w → ⊥) → rc (part S c) u ≤ length (log_at T c)
      plain d = let q = reach-there (part S c) u d in let a = old in let b = y.log in omega (arith, q, a, b)

      raised : part S c ≡ part S i → u ≡ term_of w → rc (part S c) u ≤ length (log_at T c)
      raised q r =
          let o = others-within S H i v w up view decided member above c e q (ap (S.logs.entered c) (sym r) ∙ m) (sym y.start ∙ runs) in
          let x = ap (λ z. rc z u) q ∙ ap (rc (part S i)) r ∙ reach-here in
          let z = ap (λ z. S.logs.reach z u) q ∙ ap (S.logs.reach (part S i)) r in
          let a = old in let b = y.log in omega (arith, o, x, z, a, b)

  entered : (c u : ℕ) (e : Entered) → en c u ≡ Some e → EnteredOk T c u e
  entered = put-both (λ c u x. (e : Entered) → x ≡ Some e → EnteredOk T c u e) S.logs.entered i (term_of w) (Some (entering (S.sites i)))
      (λ e m. subst (EnteredOk T i (term_of w)) (same-some m) own-entered)
      (λ c u n e m. entered-later S T H later c u e (H.entered c u e m) (same-leaderships S.logs T.logs refl) (reach-kept c u e n m)
      (λ x g led below. let r = (H.entered c u e m).since x g led below in let q = (turns.led (part S c) x g led).1 in omega (arith, r, q)))

  apart : (c u : ℕ) (x : Streaming) → S.logs.streamed c u ≡ Some x → en c u ≡ None
  apart = put-both (λ c u y. (x : Streaming) → S.logs.streamed c u ≡ Some x → y ≡ None) S.logs.entered i (term_of w) (Some (entering (S.sites i)))
      (λ x m. absurd (none-and-some (not-streamed S H i v w up view decided member above) m))
      (λ c u _ x m. (H.streamed c u x m).apart)

  -- where nobody leads, what is everywhere is so by one that entered
  unleds : (q x : ℕ) → S.logs.leadership q x ≡ None → UnledOk T q x
  unleds = put-both (λ q x r. S.logs.leadership q x ≡ None → (r ≡ 0) ⊎ ((c : ℕ) × (e : Entered) × (part S c ≡ q) × (en c x ≡ Some e) × (r ≡ known e)))
      S.logs.reach (part S i) (term_of w) (max (S.logs.reach (part S i) (term_of w)) (known (entering (S.sites i))))
      (λ m. elim (H.unled (part S i) (term_of w) m) [
        | inl z ↦ inr (i, entering (S.sites i), refl, entered-here, omega (arith, z))
        | inr (c, e, part-is, at, reach) ↦ elim (cases_lt (S.logs.reach (part S i) (term_of w)) (known (entering (S.sites i)))) [
          | inl less ↦ inr (i, entering (S.sites i), refl, entered-here, omega (arith, less))
          | inr more ↦ inr (c, e, part-is, later.entered c (term_of w) e at, omega (arith, more, reach))
        ]
      ])
      (λ q x _ m. elim (H.unled q x m) [ inl z ↦ inl z | inr (c, e, part-is, at, reach) ↦ inr (c, e, part-is, later.entered c x e at, reach) ])

  -- its report is one that may be under way
  report-ok : (c : ℕ) → leader D w (part S i) ≡ Some c → (c ≡ i → ⊥) → SiteLetterOk T i c (report_letter D (S.sites i) w c)
  report-ok c authoritative other = let k = leader-copy D w (part S i) c authoritative in (
    (subst (λ z. 0 < z) (sym (start-in-view D i s w refl c k.1.0 k.1.1)) (some-start S H w c k.1.0 decided k.1.1), some-term S H w decided),
    record {
      entered = entering (S.sites i);
      is_entered = entered-here;
      position_is = refl;
      floor_is = refl;
      tail_is = refl;
      part_is = sym k.0;
      word = w;
      is_word = record { decided = decided; term_is = refl };
      follower = λ e. other (same-some (sym authoritative ∙ ap (leader D w) (sym k.0) ∙ e));
    },
  )

  -- what holds, holds once it has entered
  pub enters-holds : LogsHold (after_site (site_popped S (Agent h) i) i s out G)
  enters-holds = turned-holds S H i s ch en S.logs.leadership rc new turns
      (words-after (site_popped S (Agent h) i) i s out G (words-popped S i (Agent h) H.words))
      own-site
      (views-taken S H h i l w ls is start up out s G later refl refl refl)
      (λ c sl. says-all (SiteLetterOk T i c) c (report-ok c))
      entered
      apart
      (leaderships-later S T H later (same-leaderships S.logs T.logs refl)
      (λ p t g m. let e = (turns.led p t g m).1 in let b = (H.leaderships p t g m).within in omega (arith, e, b)))
      unleds

  pub enters-turns : Turns (site_popped S (Agent h) i) i (sending s out)
  enters-turns = record {
    logs = G;
    start = refl;
    plain = λ c. says-all NoStreamStart c (λ _ _. tt);
    holds = enters-holds;
    grown = grown-reach D i s S.logs G refl later.reach;
    enters = record { kept = later.entered; now = λ t e is. elim (later.entered_now i t e is) [ inl old ↦ inl old | inr new ↦ inr new.log ] };
    longer = omega arith;
  }
