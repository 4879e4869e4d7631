-- A leader that has all reports begins its term: what holds, holds after it.
use Rattle.log_laws.proofs.Names.{◌≡◌, ◌<◌, true, false, List, [], ◌∷◌, ◌++◌, append-nil, refl, sym, subst, ap, ◌∙◌, inl, inr, ◌==◌, true≢false, arith, cases_eq, ℕ, ◌≤◌, length, drop, Option, Some, None, AllByRecursion, list_any, list_all, Membership, Actor, Agent, Site, term_of, term_in, leader, Letter, Sends, SiteState, Scanning, Joining, Joiner, Reported, site_term, start_in_view, other_copies, longest, lacks, repair_to, sent, In, Prefix, none-and-some, same-some, not-both, set-here, set-there, set-both, repair-all, repair_letter, prefix-length, prefix-refl, prefix-trans, grown, flat_map-append, LogState, Logs, Repairs, Entered, Leadership, LogsHold, WordOf, Last, known, EnteredOk, ReportOk, LeadershipOk, UnledOk, SiteOk, KeepsOk, MemberOk, JoinerOk, LeadsIn, FollowsIn, SiteLetterOk, MeantFor, IsCounted, ForeignOk, JoinsIn, asks_of_term, part, site_start, log_at, term_at, between, follows, line, line_of}
use Rattle.log_laws.proofs.Kept.{after_site, LogsLater, JoinsOn, grown-at, been-later, word_of-later, ask-later, reached-later, stays, leadership-later, unled-later, running-slot, same-word, some-term, entered-start, running-in, sent-here, sent-there, words-after, foreign-after, views-after, still-same, member-keeps-with, at-most-same, put_at, put-both, put-here, put-there, site_turned, turned-later, turned-holds, waiting-turned, pending-turned, asks-later, counteds-later, keeps-at, RunsOn, site-runs}
use Rattle.log_laws.proofs.Kept.Moves.{Grown}
use Rattle.log_laws.proofs.Kept.Turned.{Turned}
use Rattle.log_laws.proofs.Plain.{repair-line, repair-line-other, repair-flow, repair-ends, start-in-view, follows-leader, leader-follows-none, leader-followed, flat-same, one-and-others}
use Rattle.log_laws.proofs.NewTerms.Since.{since-unled, unled-above}
use Rattle.log_laws.proofs.NewTerms.Beginning.{begun-by, begun_log, begun_leadership, leading-member, not-begun, reported, own-prefix, has-report, all-entered, begun-behind}

-- the leader with the longest log, with its scans as they may be, and once it has begun its term
abbrev pub longest_site : SiteState → ℕ → Option Scanning → SiteState
longest_site s scans scanning = grown s (lacks (length s.log) (longest (length s.log) None s.reports)) scans scanning

abbrev pub begun_site : SiteState → ℕ → Option Scanning → SiteState
begun_site s scans scanning = record (longest_site s scans scanning) { repaired = true; owes = Some (site_term s); reports = [] }

-- the term is led now, with the log that it begins with
abbrev pub begun_leaderships : LogState → ℕ → ℕ → ℕ → ℕ → Option Leadership
begun_leaderships S i t = put_at S.logs.leadership (part S i) t (Some (begun_leadership (S.sites i)))

-- it is sent to each slot that reported
abbrev pub repairs_of : LogState → ℕ → ℕ → Option Scanning → ℕ → List Letter
repairs_of S i scans scanning c = repair_to S.words.deployment (longest_site (S.sites i) scans scanning) c (S.sites i).reports

module _ (S : LogState) (H : LogsHold S) (i : ℕ) (w : Membership) (up : 0 < site_start S i) (none : (S.sites i).joining ≡ None) (view : (S.sites i).view ≡ Some w)
    (leads : leader S.words.deployment w (part S i) ≡ Some i) (unrepaired : (S.sites i).repaired ≡ false)
    (all : list_all (λ c. list_any (λ r. r.slot == c) (S.sites i).reports) (other_copies S.words.deployment i (S.sites i)) ≡ true)
    (scans : ℕ) (scanning : Option Scanning) (out : Sends) (sends : (c : ℕ) → out (Site c) ≡ repairs_of S i scans scanning c) (inert : (h : ℕ) → out (Agent h) ≡ []) where
  abbrev s : SiteState
  s = begun_site (S.sites i) scans scanning

  abbrev ch : Actor → Actor → List Letter
  ch = sent S.words.channel (Site i) out

  abbrev re : ℕ → ℕ → Option Leadership
  re = begun_leaderships S i (term_of w)

  abbrev T : LogState
  T = site_turned S i s ch S.logs.entered re S.logs.reach

  abbrev new : ℕ → List Letter
  new = repairs_of S i scans scanning

  abbrev G : Logs
  G = record S.logs { leadership = re }

  here : T.sites i ≡ s
  here = set-here S.sites i s

  there : (c : ℕ) → (c ≡ i → ⊥) → T.sites c ≡ S.sites c
  there c other = set-there S.sites i s c other

  led-here : re (part S i) (term_of w) ≡ Some (begun_leadership (S.sites i))
  led-here = put-here S.logs.leadership (part S i) (term_of w) (Some (begun_leadership (S.sites i)))

  led-there : (q x : ℕ) → (q ≡ part S i → x ≡ term_of w → ⊥) → re q x ≡ S.logs.leadership q x
  led-there q x n = put-there S.logs.leadership (part S i) (term_of w) (Some (begun_leadership (S.sites i))) q x n

  -- a term that was led is led as it was
  led-still : (q x : ℕ) (g : Leadership) → S.logs.leadership q x ≡ Some g → re q x ≡ S.logs.leadership q x
  led-still q x g is = led-there q x (λ e f. none-and-some (not-begun S H i w up none view leads unrepaired all)
      (ap (λ z. S.logs.leadership z (term_of w)) (sym e) ∙ ap (S.logs.leadership q) (sym f) ∙ is))

  later : LogsLater S T
  later = turned-later S i s ch S.logs.entered re S.logs.reach
      (search (arith, prefix-length (log_at S i) (begun_log (S.sites i)) (own-prefix S H i w up none view leads unrepaired all)))
      (λ c t e is. is) (λ c t e is. inl is) (λ p t. omega arith)

  member : MemberOk S i w
  member = leading-member S H i w up none view leads unrepaired all

  word : WordOf S (term_of w) w
  word = record { decided = member.decided; term_is = refl }

  -- ---- what it sends

  -- who reported has entered the term with the start that is meant
  told-start : (r : Reported) (is : In r (S.sites i).reports)
      → start_in_view S.words.deployment (S.sites i).view r.slot ≡ (reported S H i w up none view leads unrepaired all r is).entered.start
  told-start r is = let k = reported S H i w up none view leads unrepaired all r is in
      start-in-view S.words.deployment i (S.sites i) w view r.slot k.entered.start (entered-start S H r.slot (term_of w) k.entered k.is_entered w word)

  -- nothing comes to itself, nor to other partitions, nor to another start or term
  none-new : (c a t : ℕ) → ((r : Reported) → In r (S.sites i).reports → r.slot ≡ c → start_in_view S.words.deployment (S.sites i).view c ≡ a → term_of w ≡ t → ⊥)
      → line a t (new c) ≡ []
  none-new c a t n = repair-line-other S.words.deployment (longest_site (S.sites i) scans scanning) c a t (S.sites i).reports
      (λ r is q start term. n r is q start (sym (ap term_in view) ∙ term))

  line-there : (l c a t : ℕ) → (l ≡ i → line a t (new c) ≡ []) → line a t (ch (Site l) (Site c)) ≡ line a t (between S l c)
  line-there l c a t = one-and-others (λ l. (l ≡ i → line a t (new c) ≡ []) → line a t (ch (Site l) (Site c)) ≡ line a t (between S l c)) i
      (λ e. ap (line a t) (sent-here S i s out G (Site c) ∙ ap (λ z. between S i c ++ z) (sends c)) ∙ flat-same (line_of a t) (between S i c) (new c) (e refl))
      (λ l n e. ap (line a t) (sent-there S i s out G l (Site c) n)) l

  -- each goes to a start that has been in the term
  reached-new : (c : ℕ) (r : Reported) → In r (S.sites i).reports → r.slot ≡ c
      → MeantFor S c (repair_letter S.words.deployment (longest_site (S.sites i) scans scanning) c r)
  reached-new c r is q = subst (λ z. ((0 < z) × (0 < site_term (S.sites i))) × In z (S.logs.ran c) × (site_start S c ≡ z → site_term (S.sites i) ≤ term_at S c)) (sym start) (
    (e.been.some, subst (λ z. 0 < z) (sym term) (some-term S H w member.decided)),
    subst (λ z. In k.entered.start (S.logs.ran z)) q e.been.ran,
    λ runs. (let low = (e.running (ap (site_start S) q ∙ runs)).1 in let z = ap (term_at S) q in let t = term in omega (arith, low, z, t)),
  )
    where
      k : ReportOk S (part S i) r.slot (term_of w) r.position r.floor r.tail
      k = reported S H i w up none view leads unrepaired all r is

      e : EnteredOk S r.slot (term_of w) k.entered
      e = H.entered r.slot (term_of w) k.entered k.is_entered

      term : site_term (S.sites i) ≡ term_of w
      term = ap term_in view

      start : start_in_view S.words.deployment (S.sites i).view c ≡ k.entered.start
      start = ap (start_in_view S.words.deployment (S.sites i).view) (sym q) ∙ told-start r is

  -- ---- copies of the partition in the term

  -- a report of a slot is of its partition, and of another start than a joiner's
  not-joiner : (c : ℕ) (j : Joining) (k : JoinerOk S c j) (t : ℕ) → line (site_start S c) t (new c) ≡ []
  not-joiner c j k t = none-new c (site_start S c) t (λ r is q start _.
      let o = reported S H i w up none view leads unrepaired all r is in
      k.unentered (term_of w) o.entered (ap (λ z. S.logs.entered z (term_of w)) (sym q) ∙ o.is_entered)
      (sym (told-start r is) ∙ ap (start_in_view S.words.deployment (S.sites i).view) q ∙ start))

  not-own : (c a t : ℕ) → (part S c ≡ part S i → t ≡ term_of w → ⊥) → line a t (new c) ≡ []
  not-own c a t n = none-new c a t (λ r is q start term. n (ap (part S) (sym q) ∙ (reported S H i w up none view leads unrepaired all r is).part_is) (sym term))

  not-self : (a t : ℕ) → line a t (new i) ≡ []
  not-self a t = none-new i a t (λ r is q start term.
      let k = reported S H i w up none view leads unrepaired all r is in
      k.follower (ap (λ z. leader S.words.deployment z (part S i)) (same-word S H (term_of w) k.word w k.is_word word) ∙ leads ∙ ap Some (sym q)))

  -- a copy that follows, has entered the term and is behind: its repair is under way to it
  repaired-by : (c : ℕ) → (c ≡ i → ⊥) → part S c ≡ part S i → MemberOk S c w
      → FollowsIn (S.sites c) (line (site_start S c) (term_of w) (between S i c)) None
      → FollowsIn (S.sites c) (line (site_start S c) (term_of w) (ch (Site i) (Site c))) (Some (begun_leadership (S.sites i)))
  repaired-by c other part-is k f =
      let r = has-report S H i w up none view leads unrepaired all c (site_start S c) other part-is k.start_is in
      let n = repair-line S.words.deployment (longest_site (S.sites i) scans scanning) c (site_start S c) (term_of w) (S.sites i).reports r.0 r.1 r.2
      (start-in-view S.words.deployment i (S.sites i) w view c (site_start S c) k.start_is) (ap term_in view) in
      let o = reported S H i w up none view leads unrepaired all n.0 n.1 in
      let e = same-some (sym o.is_entered ∙ ap (λ z. S.logs.entered z (term_of w)) n.2 ∙ k.is_entered) in
      let position = o.position_is ∙ ap (λ z. length z.log) e ∙ ap length (sym (k.still f.0).0) in
      inr (
        [],
        f.0,
        ap (line (site_start S c) (term_of w)) (sent-here S i s out G (Site c) ∙ ap (λ z. between S i c ++ z) (sends c))
            ∙ flat_map-append (line_of (site_start S c) (term_of w)) (between S i c) (new c)
            ∙ ap (λ z. z ++ line (site_start S c) (term_of w) (new c)) f.1
            ∙ n.3
            ∙ ap (λ z. Repairs z (drop z (begun_log (S.sites i))) ∷ []) position,
        append-nil (begun_log (S.sites i)),
      )

  -- each other member
  members : (c : ℕ) (u : Membership) → (c ≡ i → ⊥) → 0 < site_start S c → (S.sites c).joining ≡ None → (S.sites c).view ≡ Some u → MemberOk S c u → MemberOk T c u
  members c u other runs joins has k = elim (cases_eq (part S c) (part S i)) [
    | inr n ↦ plain (λ e _. n e)
    | inl e ↦ elim (cases_eq (term_of u) (term_of w)) [
      | inr n ↦ plain (λ _ q. n q)
      | inl q ↦ let same = same-word S H (term_of w) w u word (record { decided = k.decided; term_is = q }) in
          subst (MemberOk T c) same (follower e (subst (MemberOk S c) (sym same) k))
    ]
  ]
    where
      plain : (part S c ≡ part S i → term_of u ≡ term_of w → ⊥) → MemberOk T c u
      plain n = member-keeps-with S T H later c (still-same (S.sites c) (T.sites c) (there c other)) u k
          (λ _. subst (LeadsIn (S.sites c)) (sym (led-there (part S c) (term_of u) n)))
          (λ l _ f. rw (line-there l c (site_start S c) (term_of u) (λ _. not-own c (site_start S c) (term_of u) n), led-there (part S c) (term_of u) n) f)
          (λ l _ f. line-there l c (site_start S c) (term_of u) (λ _. not-own c (site_start S c) (term_of u) n) ∙ f)

      follower : part S c ≡ part S i → MemberOk S c w → MemberOk T c w
      follower e k = member-keeps-with S T H later c (still-same (S.sites c) (T.sites c) (there c other)) w k
          (λ authoritative. absurd (other (same-some (sym authoritative ∙ ap (leader S.words.deployment w) e ∙ leads))))
          (λ l fo f. let q = same-some (sym (follows-leader S.words.deployment w c l fo).0 ∙ ap (leader S.words.deployment w) e ∙ leads) in
          subst (λ z. FollowsIn (S.sites c) (line (site_start S c) (term_of w) (ch (Site z) (Site c))) (re (part S c) (term_of w))) (sym q)
          (subst (FollowsIn (S.sites c) (line (site_start S c) (term_of w) (ch (Site i) (Site c)))) (sym (ap (λ z. re z (term_of w)) e ∙ led-here))
          (repaired-by c other e k
          (subst (FollowsIn (S.sites c) (line (site_start S c) (term_of w) (between S i c)))
          (ap (λ z. S.logs.leadership z (term_of w)) e ∙ not-begun S H i w up none view leads unrepaired all)
          (subst (λ z. FollowsIn (S.sites c) (line (site_start S c) (term_of w) (between S z c)) (S.logs.leadership (part S c) (term_of w))) q f)))))
          (λ l fo f. line-there l c (site_start S c) (term_of w) (λ q. absurd (not-both (follows S.words.deployment w c l)
          (subst (λ z. follows S.words.deployment w c z ≡ true) (sym q) (leader-followed S.words.deployment w i c leads e other)) fo)) ∙ f)

  -- ---- the turn

  counted : (c a stream_start : ℕ) (u : Membership) → IsCounted S c a stream_start u → IsCounted T c a stream_start u
  counted c a stream_start u k l authoritative = set-both (λ l z. leader S.words.deployment u (part S c) ≡ Some l → 0 < z.start → z.joining ≡ None → z.view ≡ Some u
      → (j : Joiner) × In j z.joiners × (j.slot ≡ c) × (j.start ≡ a) × (j.stream_start ≡ stream_start)) S.sites i s (k i) (λ l _. k l) l authoritative

  turns : Turned S i s ch S.logs.entered re S.logs.reach new
  turns = record {
    later = later;
    mine = λ c. sent-here S i s out G (Site c) ∙ ap (λ z. between S i c ++ z) (sends c);
    theirs = λ a c other. sent-there S i s out G a (Site c) other;
    flows = λ c start t. repair-flow S.words.deployment (longest_site (S.sites i) scans scanning) c start t (S.sites i).reports;
    ends = λ c start t. repair-ends S.words.deployment (longest_site (S.sites i) scans scanning) c start t (S.sites i).reports;
    agreed = λ h g. refl;
    tells = one-and-others _ i (λ h. sent-here S i s out G (Agent h) ∙ ap (λ z. S.words.channel (Site i) (Agent h) ++ z) (inert h) ∙ append-nil (S.words.channel (Site i) (Agent h)))
        (λ c n h. sent-there S i s out G c (Agent h) n);
    views = λ c _. refl;
    foreign = foreign-after S H i s out G later (λ c. subst (AllByRecursion (ForeignOk S c (Site i))) (sym (sends c))
        (repair-all S.words.deployment (longest_site (S.sites i) scans scanning) c (ForeignOk S c (Site i)) (S.sites i).reports (λ r is q. tt)));
    waiting = refl;
    asks = λ c t. at-most-same (asks_of_term c t (S.sites i));
    joiners = λ j is. is;
    joins = λ c t a slot is. ask-later S T H later (part S c) i t a (λ u j. (j.0, ap (λ z. z.joining) here ∙ j.1, ap (λ z. z.view) here ∙ j.2));
    entered = λ c t other. refl;
    led = λ q x g is. (led-still q x g is, refl);
    counted = λ c a stream_start u g _ _ k. counted c a stream_start u k;
    members = members;
    lines = λ c l u j other joins k e. line-there l c (site_start S c) (term_of u) (λ _. not-joiner c j k (term_of u)) ∙ e;
  }

  -- ---- what was entered, and what is led

  entered : (c u : ℕ) (e : Entered) → S.logs.entered c u ≡ Some e → EnteredOk T c u e
  entered c u e is = let k = H.entered c u e is in record {
    slot = k.slot;
    word = k.word;
    is_word = word_of-later S T H later u k.word k.is_word;
    start_is = k.start_is;
    been = been-later S T H later c u e.start k.been;
    came = k.came;
    reach = k.reach;
    behind = behind;
    still = λ v f below then start unled. k.still v f below then start (λ x g led low high. unled x g (led-still (part S c) x g led ∙ led) low high);
    running = λ runs.
        let y = stays S T H later c e.start k.been.some k.been.ran runs in
        let r = k.running (sym y.start ∙ runs) in
        (y.member r.0, (let a = r.1 in let b = y.term in omega (arith, a, b)), (let a = r.2 in let b = y.log in omega (arith, a, b)));
    since = since;
  }
    where
      since : (v : ℕ) (g : Leadership) → re (part S c) v ≡ Some g → v < u → S.logs.reach (part S c) v ≤ length e.log
      since v g led below = elim (cases_eq (part S c) (part S i)) [
        | inr n ↦ before (λ q _. n q)
        | inl q ↦ elim (cases_eq v (term_of w)) [
          | inr n ↦ before (λ _ t. n t)
          | inl t ↦
              let none = not-begun S H i w up none view leads unrepaired all in
              let n = since-unled S H (part S i) (term_of w) none (unled-above S H (part S i) w member.decided none) c u e q is (omega (arith, below, t)) in
              let a = ap (λ z. S.logs.reach z v) q in
              let b = ap (λ z. S.logs.reach (part S i) z) t in
              omega (arith, n, a, b)
        ]
      ]
        where
          before : (part S c ≡ part S i → v ≡ term_of w → ⊥) → S.logs.reach (part S c) v ≤ length e.log
          before n = (H.entered c u e is).since v g (sym (led-there (part S c) v n) ∙ led) below

      behind : (v : ℕ) (l : Last T.logs (part S c) v u) → Prefix e.log l.leadership.log × (known e ≤ S.logs.reach (part S c) v)
      behind v l = elim (cases_eq (part S c) (part S i)) [
        | inr n ↦ plain (λ q _. n q)
        | inl q ↦ elim (cases_eq v (term_of w)) [ inr n ↦ plain (λ _ t. n t) | inl t ↦ now q t ]
      ]
        where
          plain : (part S c ≡ part S i → v ≡ term_of w → ⊥) → Prefix e.log l.leadership.log × (known e ≤ S.logs.reach (part S c) v)
          plain n = (H.entered c u e is).behind v (record {
            leadership = l.leadership;
            led = sym (led-there (part S c) v n) ∙ l.led;
            below = l.below;
            greatest = λ x g led. l.greatest x g (led-still (part S c) x g led ∙ led);
          })

          now : part S c ≡ part S i → v ≡ term_of w → Prefix e.log l.leadership.log × (known e ≤ S.logs.reach (part S c) v)
          now q t =
              let r = begun-behind S H i w up none view leads unrepaired all c u e q is (let b = l.below in omega (arith, b, t)) (λ x g led high.
              let at = ap (λ z. S.logs.leadership z x) q ∙ led in
              let b = l.greatest x g (led-still (part S c) x g at ∙ at) high in omega (arith, b, t)) in
              let g = same-some (sym led-here ∙ ap (re (part S i)) (sym t) ∙ ap (λ z. re z v) (sym q) ∙ l.led) in
              (subst (λ z. Prefix e.log z.log) g r.0, subst (λ z. known e ≤ S.logs.reach z v) (sym q) (subst (λ z. known e ≤ S.logs.reach (part S i) z) (sym t) r.1))

  leaderships : (q x : ℕ) (g : Leadership) → re q x ≡ Some g → LeadershipOk T q x g
  leaderships = put-both (λ q x o. (g : Leadership) → o ≡ Some g → LeadershipOk T q x g) S.logs.leadership (part S i) (term_of w) (Some (begun_leadership (S.sites i)))
      (λ g e. subst (LeadershipOk T (part S i) (term_of w)) (same-some e) begun)
      (λ q x _ g is. leadership-later S T H later q x g g refl (prefix-refl g.log) (H.leaderships q x g is).within (H.leaderships q x g is))
    where
      begun : LeadershipOk T (part S i) (term_of w) (begun_leadership (S.sites i))
      begun = record {
        word = w;
        is_word = record { decided = member.decided; term_is = refl };
        grown = prefix-refl (begun_log (S.sites i));
        within =
            let b = (running-in S H i (term_of w) (site_start S i) (inl (member.entered, member.is_entered, member.since)) refl).0 in
            let l = prefix-length (log_at S i) (begun_log (S.sites i)) (own-prefix S H i w up none view leads unrepaired all) in
            omega (arith, b, l);
        entered = all-entered S H i w up none view leads unrepaired all;
        begun_by = λ _. begun-by S H i w up none view leads unrepaired all;
      }

  unled : (q x : ℕ) → re q x ≡ None → UnledOk T q x
  unled = put-both (λ q x o. o ≡ None → UnledOk T q x) S.logs.leadership (part S i) (term_of w) (Some (begun_leadership (S.sites i)))
      (λ e. absurd (none-and-some e refl))
      (λ q x _ is. unled-later S T H later q x refl (H.unled q x is))

  -- ---- the site itself

  own-start : site_start T i ≡ site_start S i
  own-start = ap (λ z. z.start) here

  own-member : MemberOk T i w
  own-member = record {
    decided = member.decided;
    start_is = member.start_is ∙ ap Some (sym own-start);
    entered = member.entered;
    is_entered = member.is_entered;
    since = member.since ∙ sym own-start;
    earlier = rw here member.earlier;
    grown = subst (λ z. Prefix member.entered.log z.log) (sym here)
        (prefix-trans member.entered.log (log_at S i) (begun_log (S.sites i)) member.grown (own-prefix S H i w up none view leads unrepaired all));
    still = λ e. absurd (true≢false (sym (ap (λ z. z.repaired) here) ∙ e));
    floor = rw here member.floor;
    firm = rw here member.firm;
    leading = λ _. subst (LeadsIn (T.sites i)) (sym led-here) (ap (λ z. z.repaired) here, ap (λ z. z.log) here);
    following = λ l f. absurd (not-both (follows S.words.deployment w i l) f (leader-follows-none S.words.deployment w i l leads));
    others = λ l f. subst (λ z. line z.start (term_of w) (ch (Site l) (Site i)) ≡ []) (sym here)
        (line-there l i (site_start S i) (term_of w) (λ _. not-self (site_start S i) (term_of w)) ∙ member.others l f);
  }

  own-keeps : KeepsOk T i
  own-keeps = let k = (H.sites i).keeps up in keeps-at S T H later i s here refl k.acks tt
      (counteds-later S T H later (part S i) (term_at S i) (S.sites i).joiners k.joiners) k.alone k.leads (asks-later S T H later (part S i) (term_at S i) on (S.sites i).asks k.asks)
      (waiting-turned S H i s ch S.logs.entered re S.logs.reach new turns i (running-slot S H i up) own-start k)
      (pending-turned S H i s ch S.logs.entered re S.logs.reach new turns i (running-slot S H i up) own-start k)
      (let a = k.on_disk in let b = prefix-length (log_at S i) (begun_log (S.sites i)) (own-prefix S H i w up none view leads unrepaired all) in omega (arith, a, b)) k.held
    where
      on : (c : ℕ) → JoinsOn S T c
      on c = set-both (λ c z. (u : Membership) → JoinsIn S c u → (j : Joining) × (z.joining ≡ Some j) × (z.view ≡ Some u)) S.sites i s (λ u j. j) (λ c _ u j. j) c

  own-site : SiteOk T i
  own-site = site-runs S T H later i (subst (RunsOn (S.sites i)) (sym here) search) refl (λ _ _ v is _. subst (MemberOk T i) (same-some (sym view ∙ is)) own-member)
      (λ j k is _ _. absurd (none-and-some none is)) (λ _ _. own-keeps) (λ z _. absurd (omega (arith, up, z))) (H.sites i)

  -- what holds, holds once it has begun
  pub begun-holds : LogsHold (after_site S i s out G)
  begun-holds = turned-holds S H i s ch S.logs.entered re S.logs.reach new turns
      (words-after S i s out G H.words)
      own-site
      (views-after S H i s out G later i (λ _. (refl, refl)) refl (H.views i))
      (λ c slot. repair-all S.words.deployment (longest_site (S.sites i) scans scanning) c (SiteLetterOk T i c) (S.sites i).reports
      (λ r is q. reached-later S T H later c (repair_letter S.words.deployment (longest_site (S.sites i) scans scanning) c r) (reached-new c r is q)))
      entered
      (λ c t x is. (H.streamed c t x is).apart)
      leaderships
      unled

  -- the term is led from now on
  pub begun-grown : Grown S.words.deployment i s S.logs G
  begun-grown = grown-at S.words.deployment i s S.logs G (part S i) (term_of w)
      (record { word = w; view = view; part_is = refl; term_is = refl; first = leads; start_is = member.start_is })
      (record { kept = λ q x g is. (g, led-still q x g is ∙ is, refl, prefix-refl g.log); reach = λ q x. omega arith }) led-there
