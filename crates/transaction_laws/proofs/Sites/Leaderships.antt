-- A turn of a site, in its effect on the logs of leaders: the term that it leads goes on with calls behind what was due, or it begins.
use Rattle.transaction_laws.proofs.Names.{Actor, Bool, CallsOk, Submissions, Database, Deployment, DueOk, Entered, Enters, Entry, Grown, Heads, In, IsSlot, Leadership, Leading, LeadsIn, Letter, List, LogState, Logs, LogsHold, MemberOk, None, Option, Prefix, ReportOk, Reported, Sends, SiteState, Some, Transactions, WordOf, [], after_site, all-at, all-behind, all-first, and_from, and_parts, ap, append-nil, append_assoc, arith, cases_Bool, drop, drop-append_seam, drop_all, entered-start, eq-eqb, eqb-same, eqb-true, false, first_stage, heads-authoritative, here, if-false, if-true, if◌then◌else◌, inl, inr, is_none-none, lacks, leader-is, leadership-entered, leading, leads, leads-from, leads-runs, length, length-append, length-drop, log_at, longest, longest-cases, nil_from_length, none-and-some, nothing_open, open_in, option_map, part, prefix-length, prefixes-order, refl, running-slot, same-some, same-word, site_start, site_term, stage, start_of_slot, subst, sym, term_at, term_in, term_of, true, ℕ, ◌&&◌, ◌++◌, ◌-◌, ◌<◌, ◌==◌, ◌∙◌, ◌≡◌, ◌≤◌, ◌⊎◌}
use Rattle.transaction_laws.proofs.Kept.{IsCallAt, CallsAt, RunsBehind, Moved}
use Rattle.transaction_laws.proofs.Entries.{calls-only, calls-opened, ok-prefix, open_in-stage, stage-append}
use Rattle.transaction_laws.proofs.Sites.SiteLogs.{SteadyLog, Started, repaired_log}

-- ---- logs

-- nothing is open behind a log
nothing-opened : (E : Database) (p : ℕ) (log : List Entry) → nothing_open log ≡ true → (stage E p log).opened ≡ None
nothing-opened E p log e = go (stage E p log).opened (sym (open_in-stage E p log) ∙ is_none-none (open_in log) e)
  where
    go : (o : Option (ℕ × ℕ)) → option_map (λ x. x.0) o ≡ None → o ≡ None
    go None e = refl
    go (Some x) e = absurd (none-and-some e refl)

-- Behind this log stand calls, and it is a prefix of what a term began with: so calls stand behind that.
runs-behind : (E : Database) (A : Submissions) (p stamp : ℕ) (low begun log more : List Entry) → log ≡ low ++ more → Prefix low begun → Prefix begun log → CallsAt stamp more
    → (more ≡ []) ⊎ (nothing_open low ≡ true) → (CallsOk A p low → CallsOk A p log) → RunsBehind E A p stamp begun log
runs-behind E A p stamp low begun log more is (a, f) (b, g) at room once = record {
  calls = b;
  is = g;
  at = all-behind (IsCallAt stamp) a b both;
  room = elim room [
    | inl none ↦ inl (nil_from_length b (let n = ap length (sym parts ∙ none) in let m = length-append a b in omega (arith, n, m)))
    | inr closed ↦ inr (subst (λ xs. (stage E p xs).opened ≡ None) (sym f)
        (ap (λ x. x.opened) (stage-append (first_stage E p) low a) ∙ calls-opened (stage E p low) a (calls-only stamp a (all-first (IsCallAt stamp) a b both)) ∙ nothing-opened E p low closed))
  ];
  once = λ h. once (ok-prefix A p low begun (a, f) h);
}
  where
    parts : more ≡ a ++ b
    parts = sym (drop-append_seam low more) ∙ ap (drop (length low)) (sym is ∙ g ∙ ap (λ xs. xs ++ b) f ∙ append_assoc low a b) ∙ drop-append_seam low (a ++ b)

    both : CallsAt stamp (a ++ b)
    both = subst (CallsAt stamp) parts at

-- ---- the longest of the logs that were reported

-- The log with the longest one isn't longer than this, if neither the site's own log nor one that was reported is.
repaired-short : (s : SiteState) (reports : List Reported) (n : ℕ) → length s.log ≤ n
    → ((r : Reported) → In r reports → (log : List Entry) × (r.tail ≡ drop r.floor log) × (r.position ≡ length log) × (r.position ≤ n)) → length (repaired_log s reports) ≤ n
repaired-short s reports n low each = elim (longest-cases (length s.log) None reports) [
  | inl (is, _) ↦ let e = length-append s.log (lacks (length s.log) (longest (length s.log) None reports)) in
      let f = ap (λ o. length (lacks (length s.log) o)) is in omega (arith, low, e, f)
  | inr (r, at, is, longer, _) ↦
      let k = each r at in
      let e = length-append s.log (lacks (length s.log) (longest (length s.log) None reports)) in
      let f = ap (λ o. length (lacks (length s.log) o)) is in
      let g = ap (λ xs. length (drop (length s.log - r.floor) xs)) k.1 in
      let a = length-drop (length s.log - r.floor) (drop r.floor k.0) in
      let b = length-drop r.floor k.0 in
      omega (arith, low, e, f, g, a, b, longer, k.2, k.3)
]

-- ---- a site that leads after a turn

-- Slot i has this site after its turn, with what it sent, and these channels before that.
module _ (S : LogState) (H : LogsHold S) (i : ℕ) (ch : Actor → Actor → List Letter) (u : SiteState) (out : Sends) (G : Logs) where
  abbrev D : Deployment
  D = S.words.deployment

  abbrev s : SiteState
  s = S.sites i

  abbrev pub next : LogState
  next = after_site (record S { words = record S.words { channel = ch } }) i u out G

  -- In a term that it heads, and that is led, it leads.
  pub heads-own : LogsHold next → (p t : ℕ) (g : Leadership) → G.leadership p t ≡ Some g → Heads D i u p t → (leads D i u ≡ true) × (p ≡ part S i) × (t ≡ site_term u)
  heads-own J p t g is heads =
      let there = here (record S { words = record S.words { channel = ch } }) i u out G in
      let authoritative = heads-authoritative next J i p t g (subst (λ x. Heads D i x p t) (sym there) heads) is in
      (ap (leads D i) (sym there) ∙ authoritative, sym heads.part_is, sym heads.term_is ∙ ap term_in (sym heads.view))

  module _ (J : LogsHold next) (enters : Enters i (length (log_at S i)) S.logs G) (on : (u.start ≡ site_start S i) ⊎ (u.view ≡ None)) (authoritative : leads D i u ≡ true) where
    site : next.sites i ≡ u
    site = here (record S { words = record S.words { channel = ch } }) i u out G

    authoritative-there : leads D i (next.sites i) ≡ true
    authoritative-there = ap (leads D i) site ∙ authoritative

    -- what it has, as a leader
    pub authoritative-on : Leading next i
    authoritative-on = leading next i J (leads-runs next J i authoritative-there) authoritative-there

    abbrev k : Leading next i
    k = authoritative-on

    view : u.view ≡ Some k.word
    view = ap (λ x. x.view) (sym site) ∙ k.view

    log : u.log ≡ k.leadership.log
    log = ap (λ x. x.log) (sym site) ∙ k.log

    -- it goes on with its start
    pub start : site_start next i ≡ site_start S i
    start = ap (λ x. x.start) site ∙ go on
      where
        go : (u.start ≡ site_start S i) ⊎ (u.view ≡ None) → u.start ≡ site_start S i
        go (inl e) = e
        go (inr e) = absurd (none-and-some e view)

    pub runs : 0 < site_start S i
    runs = subst (λ n. 0 < n) start (leads-runs next J i authoritative-there)

    slot : IsSlot S i
    slot = running-slot S H i runs

    word : WordOf S (term_of k.word) k.word
    word = record { decided = k.member.decided; term_is = refl }

    member-start : start_of_slot D k.word i ≡ Some (site_start S i)
    member-start = k.member.start_is ∙ ap Some start

    -- ---- what it was before

    -- It had entered the term with this start: so it was in it, with this word.
    in-term : (e : Entered) → S.logs.entered i (term_of k.word) ≡ Some e → e.start ≡ site_start S i
        → (s.joining ≡ None) × (s.view ≡ Some k.word) × MemberOk S i k.word
    in-term e is own =
        let r = (H.entered i (term_of k.word) e is).running (sym own) in
        let m = (H.sites i).member runs r.0 in
        let up = ((J.entered i (term_of m.0) m.2.entered (enters.kept i (term_of m.0) m.2.entered m.2.is_entered)).running (start ∙ sym m.2.since)).1 in
        let high = r.1 in let a = ap term_in m.1 in let b = ap term_in k.view in
        let same : m.0 ≡ k.word = same-word S H (term_of k.word) m.0 k.word (record { decided = m.2.decided; term_is = omega (arith, up, high, a, b) }) word in
        (r.0, m.1 ∙ ap Some same, subst (MemberOk S i) same m.2)

    -- The term was led: by this site, with this log.
    pub led-before : (g : Leadership) → S.logs.leadership (part S i) (term_of k.word) ≡ Some g
        → (leads D i s ≡ true) × (s.view ≡ Some k.word) × (log_at S i ≡ g.log)
    led-before g is =
        let e = leadership-entered S H (part S i) (term_of k.word) g is k.word word i (site_start S i) slot refl member-start in
        let m = in-term e.0 e.1 e.2 in
        let l = subst (LeadsIn s) is (m.2.leading k.first) in
        (leads-from D i s (leader-is D i s k.word m.1 m.0 k.first) l.0, m.1, l.1)

    -- The term wasn't led: what it begins with has all that its log had.
    own-low : S.logs.leadership (part S i) (term_of k.word) ≡ None → length (log_at S i) ≤ length k.leadership.begun
    own-low none =
        let r = leadership-entered next J (part S i) (term_of k.word) k.leadership k.led k.word (record { decided = k.member.decided; term_is = refl }) i (site_start next i) slot refl k.member.start_is in
        let low = prefix-length r.0.log k.leadership.begun r.3 in
        elim (enters.now (term_of k.word) r.0 r.1) [
          | inl old ↦
              let m = in-term r.0 old (r.2 ∙ start) in
              let e = ap length ((m.2.still (subst (LeadsIn s) none (m.2.leading k.first))).0 ∙ ap (λ x. x.log) (same-some (sym m.2.is_entered ∙ old))) in
              omega (arith, low, e)
          | inr new ↦ omega (arith, low, new)
        ]

    -- so it has all of each log that was reported
    abbrev Reports : Reported → Type 0
    Reports r = ReportOk S (part S i) r.slot (term_of k.word) r.position r.floor r.tail

    report-low : (r : Reported) → Reports r → r.position ≤ length k.leadership.begun
    report-low r o =
        let a = H.entered r.slot (term_of k.word) o.entered o.is_entered in
        let m = entered-start S H r.slot (term_of k.word) o.entered o.is_entered k.word word in
        let f = leadership-entered next J (part S i) (term_of k.word) k.leadership k.led k.word (record { decided = k.member.decided; term_is = refl }) r.slot o.entered.start a.slot o.part_is m in
        let same = same-some (sym f.1 ∙ enters.kept r.slot (term_of k.word) o.entered o.is_entered) in
        let low = prefix-length f.0.log k.leadership.begun f.3 in let e = ap (λ x. length x.log) same in let q = o.position_is in
        omega (arith, low, e, q)

    report-log : (r : Reported) → Reports r → (log : List Entry) × (r.tail ≡ drop r.floor log) × (r.position ≡ length log) × (r.position ≤ length k.leadership.begun)
    report-log r o = (o.entered.log, o.tail_is ∙ ap (λ n. drop n o.entered.log) (sym o.floor_is), o.position_is, report-low r o)

    -- So it begins with the longest of these logs, and perhaps some of the calls that ran then: calls stand behind what it begins with.
    begins-runs : (E : Database) (A : Submissions) (stamp : ℕ) → S.logs.leadership (part S i) (term_of k.word) ≡ None → Started D A stamp i s u Reports
        → RunsBehind E A (part S i) stamp k.leadership.begun k.leadership.log
    begins-runs E A stamp none st =
        let is : k.leadership.log ≡ repaired_log s st.reports ++ st.more = sym log ∙ st.log_is in
        let begun = (J.leaderships (part S i) (term_of k.word) k.leadership k.led).grown in
        let short = repaired-short s st.reports (length k.leadership.begun) (own-low none) (λ r at. report-log r (all-at Reports st.reports st.ok r at)) in
        runs-behind E A (part S i) stamp (repaired_log s st.reports) k.leadership.begun k.leadership.log st.more is
        (prefixes-order (repaired_log s st.reports) k.leadership.begun k.leadership.log (st.more, is) begun short) begun st.at st.room
        (λ h. subst (CallsOk A (part S i)) log (st.once h))

    -- It goes on with what it took, and calls.
    goes-runs : (E : Database) (A : Submissions) (stamp : ℕ) (taken : List Entry) (g : Leadership) → log_at S i ≡ g.log → SteadyLog A (part S i) stamp s u taken
        → RunsBehind E A (part S i) stamp (g.log ++ taken) k.leadership.log
    goes-runs E A stamp taken g is st = record {
      calls = st.more;
      is = sym log ∙ st.log_is ∙ ap (λ xs. (xs ++ taken) ++ st.more) is;
      at = st.at;
      room = elim st.room [
        | inl none ↦ inl none
        | inr closed ↦ inr (nothing-opened E (part S i) (g.log ++ taken) (subst (λ xs. nothing_open (xs ++ taken) ≡ true) is closed))
      ];
      once = λ h. subst (CallsOk A (part S i)) log (st.once (subst (λ xs. CallsOk A (part S i) (xs ++ taken)) (sym is) h));
    }

-- ---- what is due after the turn

-- whether it leads on in its term
abbrev pub leads_on : LogState → ℕ → SiteState → Bool
leads_on S i u = leads S.words.deployment i u && site_term u == term_at S i

-- What it took in its term isn't due any more, where it is at the beginning.
abbrev pub due_after : LogState → Transactions → ℕ → SiteState → List Entry → ℕ → ℕ → List Entry
due_after S K i u taken p t = if (p == part S i && t == term_at S i) && leads_on S i u then drop (length taken) (K.due p t) else K.due p t

module _ (S : LogState) (K : Transactions) (i : ℕ) (u : SiteState) (taken : List Entry) where
  abbrev test : ℕ → ℕ → Bool
  test p t = (p == part S i && t == term_at S i) && leads_on S i u

  test-parts : (p t : ℕ) → test p t ≡ true → (p ≡ part S i) × (t ≡ term_at S i) × (leads S.words.deployment i u ≡ true) × (site_term u ≡ term_at S i)
  test-parts p t e =
      let r = and_parts (p == part S i && t == term_at S i) (leads_on S i u) e in
      let q = and_parts (p == part S i) (t == term_at S i) r.0 in
      let b = and_parts (leads S.words.deployment i u) (site_term u == term_at S i) r.1 in
      (eqb-true p (part S i) q.0, eqb-true t (term_at S i) q.1, b.0, eqb-true (site_term u) (term_at S i) b.1)

  -- where nothing was
  pub due-none : (p t : ℕ) → K.due p t ≡ [] → due_after S K i u taken p t ≡ []
  due-none p t e = choice (test p t)
    where
      choice : (b : Bool) → (if b then drop (length taken) (K.due p t) else K.due p t) ≡ []
      choice true = ap (drop (length taken)) e ∙ drop_all (length taken) [] (omega arith)
      choice false = e

  -- unless it led on there
  due-there : (p t : ℕ) → test p t ≡ false → due_after S K i u taken p t ≡ K.due p t
  due-there p t e = if-false (test p t) (drop (length taken) (K.due p t)) (K.due p t) e

  pub due-unless : (p t : ℕ) → (p ≡ part S i → t ≡ term_at S i → leads S.words.deployment i u ≡ true → site_term u ≡ term_at S i → ⊥) → due_after S K i u taken p t ≡ K.due p t
  due-unless p t n = elim (cases_Bool (test p t)) [ inl e ↦ let r = test-parts p t e in absurd (n r.0 r.1 r.2 r.3) | inr e ↦ due-there p t e ]

  -- in its own
  pub due-here : leads S.words.deployment i u ≡ true → site_term u ≡ term_at S i → due_after S K i u taken (part S i) (term_at S i) ≡ drop (length taken) (K.due (part S i) (term_at S i))
  due-here authoritative same = if-true (test (part S i) (term_at S i)) (drop (length taken) (K.due (part S i) (term_at S i))) (K.due (part S i) (term_at S i))
      (and_from (part S i == part S i && term_at S i == term_at S i) (leads_on S i u)
      (and_from (part S i == part S i) (term_at S i == term_at S i) (eqb-same (part S i)) (eqb-same (term_at S i)))
      (and_from (leads S.words.deployment i u) (site_term u == term_at S i) authoritative (eq-eqb (site_term u) (term_at S i) same)))

-- ---- all terms

-- in a term that isn't led nothing is due
pub unled-due : (S : LogState) (K : Transactions) (p t : ℕ) → DueOk S K p t → S.logs.leadership p t ≡ None → K.due p t ≡ []
unled-due S K p t (inl e) none = e
unled-due S K p t (inr (e, g, is, order, led, low)) none = absurd (none-and-some none led)

-- what is taken is what was due, or nothing
taken-first : (due taken : List Entry) → (taken ≡ []) ⊎ (due ≡ taken) → due ≡ taken ++ drop (length taken) due
taken-first due taken (inl e) = rw e
taken-first due taken (inr e) = rw e (sym (ap (λ xs. taken ++ xs) (drop_all (length taken) taken (omega arith)) ∙ append-nil taken))

module _ (E : Database) (S : LogState) (H : LogsHold S) (K : Transactions) (due : (p t : ℕ) → DueOk S K p t) (stamp i : ℕ) (ch : Actor → Actor → List Letter) (u : SiteState) (out : Sends)
    (G : Logs) (J : LogsHold (next S H i ch u out G)) (grown : Grown S.words.deployment i u S.logs G) (enters : Enters i (length (log_at S i)) S.logs G)
    (on : (u.start ≡ site_start S i) ⊎ (u.view ≡ None)) (taken : List Entry) where
  -- What must be so of the site's own turn.
  pub record OwnTurn : Type 0 where
    pub steady : leads S.words.deployment i (S.sites i) ≡ true → leads S.words.deployment i u ≡ true → u.view ≡ (S.sites i).view → SteadyLog K.submitted (part S i) stamp (S.sites i) u taken
    pub starts : leads S.words.deployment i u ≡ true → (leads S.words.deployment i (S.sites i) ≡ true → u.view ≡ (S.sites i).view → ⊥)
        → Started S.words.deployment K.submitted stamp i (S.sites i) u (λ r. ReportOk S (part S i) r.slot (site_term u) r.position r.floor r.tail)
    -- what it took was due
    pub was_due : leads S.words.deployment i (S.sites i) ≡ true → leads S.words.deployment i u ≡ true → u.view ≡ (S.sites i).view
        → (taken ≡ []) ⊎ (K.due (part S i) (term_at S i) ≡ taken)

  none-due : (p t : ℕ) → S.logs.leadership p t ≡ None → K.due p t ≡ []
  none-due p t none = unled-due S K p t (due p t) none

  module _ (own : OwnTurn) where
    abbrev after-due : ℕ → ℕ → List Entry
    after-due = due_after S K i u taken

    abbrev MovedHere : ℕ → ℕ → Type 0
    MovedHere p t = Moved E K.submitted S.logs G K.due after-due stamp p t

    module _ (authoritative : leads S.words.deployment i u ≡ true) where
      abbrev l : Leading (next S H i ch u out G) i
      l = authoritative-on S H i ch u out G J enters on authoritative

      term-is : site_term u ≡ term_of l.word
      term-is = ap term_in (view S H i ch u out G J enters on authoritative)

      -- its term goes on
      here-goes : (g : Leadership) → S.logs.leadership (part S i) (term_of l.word) ≡ Some g → MovedHere (part S i) (term_of l.word)
      here-goes g is =
          let b = led-before S H i ch u out G J enters on authoritative g is in
          let same = view S H i ch u out G J enters on authoritative ∙ sym b.1 in
          let before : term_at S i ≡ term_of l.word = ap term_in b.1 in
          let f = grown.onward.kept (part S i) (term_of l.word) g is in
          inr (inr (record {
            old = g;
            was = is;
            new = l.leadership;
            is = l.led;
            begun = ap (λ x. x.begun) (same-some (sym l.led ∙ f.1)) ∙ f.2;
            taken = taken;
            due_is = subst (λ t. K.due (part S i) t ≡ taken ++ after-due (part S i) t) before
                (taken-first (K.due (part S i) (term_at S i)) taken (own.was_due b.0 authoritative same) ∙ ap (λ xs. taken ++ xs) (sym (due-here S K i u taken authoritative (term-is ∙ sym before))));
            runs = goes-runs S H i ch u out G J enters on authoritative E K.submitted stamp taken g b.2 (own.steady b.0 authoritative same);
          }))

      -- or it begins
      here-begins : S.logs.leadership (part S i) (term_of l.word) ≡ None → MovedHere (part S i) (term_of l.word)
      here-begins none = inr (inl (record {
        none = none;
        leadership = l.leadership;
        led = l.led;
        before = none-due (part S i) (term_of l.word) none;
        after = due-none S K i u taken (part S i) (term_of l.word) (none-due (part S i) (term_of l.word) none);
        runs = begins-runs S H i ch u out G J enters on authoritative E K.submitted stamp none (subst (λ t. Started S.words.deployment K.submitted stamp i (S.sites i) u
            (λ r. ReportOk S (part S i) r.slot t r.position r.floor r.tail)) term-is (own.starts authoritative apart));
      }))
        where
          -- it didn't lead in that term
          apart : leads S.words.deployment i (S.sites i) ≡ true → u.view ≡ (S.sites i).view → ⊥
          apart was same =
              let b = leading S i H (runs S H i ch u out G J enters on authoritative) was in
              let e = same-some (sym b.view ∙ sym same ∙ view S H i ch u out G J enters on authoritative) in
              none-and-some none (subst (λ w. S.logs.leadership (part S i) (term_of w) ≡ Some b.leadership) e b.led)

      here-moves : MovedHere (part S i) (term_of l.word)
      here-moves = go (S.logs.leadership (part S i) (term_of l.word)) refl
        where
          go : (o : Option Leadership) → S.logs.leadership (part S i) (term_of l.word) ≡ o → MovedHere (part S i) (term_of l.word)
          go None e = here-begins e
          go (Some g) e = here-goes g e

      at-moves : (p t : ℕ) → p ≡ part S i → t ≡ term_of l.word → MovedHere p t
      at-moves p t e f = subst (λ q. MovedHere q t) (sym e) (subst (MovedHere (part S i)) (sym f) here-moves)

    -- Each term stays as it was, or goes on or begins in this way.
    pub all-moved : (p t : ℕ) → MovedHere p t
    all-moved p t = go (G.leadership p t) refl
      where
        -- no other term is led, or with a longer log
        still : (h : Leadership) → G.leadership p t ≡ Some h → S.logs.leadership p t ≡ Some h → MovedHere p t
        still h is old = elim (cases_Bool (test S K i u taken p t)) [
          | inl e ↦ let r = test-parts S K i u taken p t e in at-moves r.2 p t r.0 (r.1 ∙ sym r.3 ∙ term-is r.2)
          | inr e ↦ inl (is ∙ sym old, due-there S K i u taken p t e)
        ]

        leads-there : (h : Leadership) → G.leadership p t ≡ Some h → Heads S.words.deployment i u p t → MovedHere p t
        leads-there h is heads = let r = heads-own S H i ch u out G J p t h is heads in at-moves r.0 p t r.1 (r.2 ∙ term-is r.0)

        go : (o : Option Leadership) → G.leadership p t ≡ o → MovedHere p t
        go (Some h) e = elim (grown.led p t h e) [ inl old ↦ still h e old | inr new ↦ leads-there h e new ]
        go None e = let none = unled (S.logs.leadership p t) refl in inl (e ∙ sym none, let n = none-due p t none in due-none S K i u taken p t n ∙ sym n)
          where
            unled : (o : Option Leadership) → S.logs.leadership p t ≡ o → S.logs.leadership p t ≡ None
            unled None f = f
            unled (Some g) f = absurd (none-and-some e (grown.onward.kept p t g f).1)
