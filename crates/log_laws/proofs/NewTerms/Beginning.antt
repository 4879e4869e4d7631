-- A leader that has all reports begins its term: the log with which it does, and what that means for each copy.
use Rattle.log_laws.proofs.Names.{◌≡◌, ◌<◌, Bool, true, false, List, [], ◌∷◌, ◌++◌, append-nil, refl, sym, subst, ap, ◌∙◌, ◌⊎◌, inl, inr, ◌==◌, drop-drop, arith, cases_eq, eqb-true, nat_tests, drop-append_seam, ℕ, ◌≤◌, ◌-◌, nat_lt, length, drop, if◌then◌else◌, Option, Some, None, AllByRecursion, list_any, list_all, Entry, Membership, term_of, term_in, start_of_slot, leader, SiteState, Reported, other_copies, longest, lacks, In, Prefix, none-and-some, same-some, all-at, not-both, list_all-at, list_any-from, prefixes-order, LogState, Entered, Leadership, LogsHold, IsSlot, WordOf, Last, Unled, known, EnteredOk, ReportOk, MemberOk, LeadsIn, epoch_base, part, site_start, log_at, term_at}
use Rattle.log_laws.proofs.Kept.{base-least, entered-start, member-or-joined, named-first, last-below}
use Rattle.log_laws.proofs.Plain.{copy-other, is_in-in, none-or-some}
use Rattle.log_laws.proofs.NewTerms.Entering.{behind-at}

-- ---- the longest of the logs

-- no report is longer, or it is one of them that is, and none is longer than that
pub longest-cases : (end : ℕ) (best : Option Reported) (rs : List Reported)
    → ((longest end best rs ≡ best) × AllByRecursion (λ r. r.position ≤ end) rs)
    ⊎ ((r : Reported) × In r rs × (longest end best rs ≡ Some r) × (end < r.position) × AllByRecursion (λ k. k.position ≤ r.position) rs)
longest-cases end best [] = inl (refl, tt)
longest-cases end best (r ∷ rs) = choice (nat_lt end r.position) refl (longest-cases r.position (Some r) rs) (longest-cases end best rs)
  where
    choice : (b : Bool) → nat_lt end r.position ≡ b
        → ((longest r.position (Some r) rs ≡ Some r) × AllByRecursion (λ k. k.position ≤ r.position) rs)
        ⊎ ((q : Reported) × In q rs × (longest r.position (Some r) rs ≡ Some q) × (r.position < q.position) × AllByRecursion (λ k. k.position ≤ q.position) rs)
        → ((longest end best rs ≡ best) × AllByRecursion (λ k. k.position ≤ end) rs)
        ⊎ ((q : Reported) × In q rs × (longest end best rs ≡ Some q) × (end < q.position) × AllByRecursion (λ k. k.position ≤ q.position) rs)
        → (((if b then longest r.position (Some r) rs else longest end best rs) ≡ best) × ((r.position ≤ end) × AllByRecursion (λ k. k.position ≤ end) rs))
        ⊎ ((q : Reported) × In q (r ∷ rs) × ((if b then longest r.position (Some r) rs else longest end best rs) ≡ Some q) × (end < q.position)
        × ((r.position ≤ q.position) × AllByRecursion (λ k. k.position ≤ q.position) rs))
    choice true e (inl (is, low)) _ = inr (r, inl refl, is, grind (arith, nat_tests, e), (omega arith, low))
    choice true e (inr (q, i, is, more, low)) _ =
        let above : end < r.position = grind (arith, nat_tests, e) in inr (q, inr i, is, omega (arith, above, more), (omega (arith, more), low))
    choice false e _ (inl (is, low)) = inl (is, (grind (arith, nat_tests, e), low))
    choice false e _ (inr (q, i, is, more, low)) =
        let below : r.position ≤ end = grind (arith, nat_tests, e) in inr (q, inr i, is, more, (omega (arith, below, more), low))

-- what a report's tail has behind a position
pub lacks-behind : (end floor : ℕ) (log : List Entry) (r : Reported) → r.floor ≡ floor → r.tail ≡ drop floor log → floor ≤ end → lacks end (Some r) ≡ drop end log
lacks-behind end floor log r f t low =
    ap (λ n. drop (end - n) r.tail) f ∙ ap (drop (end - floor)) t ∙ drop-drop (end - floor) floor log ∙ ap (λ n. drop n log) (omega (arith, low))

-- the log with which a leader begins
abbrev pub begun_log : SiteState → List Entry
begun_log s = s.log ++ lacks (length s.log) (longest (length s.log) None s.reports)

abbrev pub begun_leadership : SiteState → Leadership
begun_leadership s = record { begun = begun_log s; log = begun_log s }

-- ---- a leader with all reports

module _ (T : LogState) (H : LogsHold T) (i : ℕ) (w : Membership) (up : 0 < site_start T i) (none : (T.sites i).joining ≡ None) (view : (T.sites i).view ≡ Some w)
    (leads : leader T.words.deployment w (part T i) ≡ Some i) (unrepaired : (T.sites i).repaired ≡ false)
    (all : list_all (λ c. list_any (λ r. r.slot == c) (T.sites i).reports) (other_copies T.words.deployment i (T.sites i)) ≡ true) where
  pub leading-member : MemberOk T i w
  leading-member = let m = (H.sites i).member up none in subst (MemberOk T i) (same-some (sym m.1 ∙ view)) m.2

  same : log_at T i ≡ leading-member.entered.log
  same = (leading-member.still unrepaired).0

  word : WordOf T (term_of w) w
  word = record { decided = leading-member.decided; term_is = refl }

  -- nobody has led it
  pub not-begun : T.logs.leadership (part T i) (term_of w) ≡ None
  not-begun = elim (none-or-some (T.logs.leadership (part T i) (term_of w))) [
    | inl e ↦ e
    | inr (g, e) ↦ absurd (not-both (T.sites i).repaired (subst (LeadsIn (T.sites i)) e (leading-member.leading leads)).0 unrepaired)
  ]

  -- what was reported
  pub reported : (r : Reported) → In r (T.sites i).reports → ReportOk T (part T i) r.slot (term_of w) r.position r.floor r.tail
  reported r is = subst (λ t. ReportOk T (part T i) r.slot t r.position r.floor r.tail) (ap term_in view)
      (all-at (λ r. ReportOk T (part T i) r.slot (term_at T i) r.position r.floor r.tail) (T.sites i).reports ((H.sites i).keeps up).reports r is)

  -- the last leader before
  last : (u : ℕ) × Last T.logs (part T i) u (term_of w)
  last = last-below T H (part T i) (term_of w) (elim (cases_eq (epoch_base T) (term_of w)) [
    | inl e ↦ let f = H.first (part T i) in absurd (none-and-some not-begun (ap (T.logs.leadership (part T i)) (sym e) ∙ f.1))
    | inr n ↦ let b = base-least T H w leading-member.decided in omega (arith, b, n)
  ])

  -- Each log that entered the term is a prefix of that leader's, and its floor isn't above this leader's end.
  entered-prefix : (c : ℕ) (e : Entered) → part T c ≡ part T i → T.logs.entered c (term_of w) ≡ Some e → Prefix e.log last.1.leadership.log
  entered-prefix c e part-is is = (behind-at T H (part T i) c (term_of w) last.0 e part-is is last.1).0

  floor-low : (c : ℕ) (e : Entered) → part T c ≡ part T i → T.logs.entered c (term_of w) ≡ Some e → e.floor ≤ length (log_at T i)
  floor-low c e part-is is =
      let a = (H.entered c (term_of w) e is).reach in
      let b = ((H.entered i (term_of w) leading-member.entered leading-member.is_entered).running (sym leading-member.since)).2 in
      let q = ap (λ q. T.logs.reach q (term_of w)) part-is in
      omega (arith, a, b, q)

  -- ---- the log with which it begins

  -- of a report that is longer than its own log, its own stands at the beginning
  own-before : (r : Reported) (is : In r (T.sites i).reports) → length (log_at T i) < r.position → Prefix (log_at T i) (reported r is).entered.log
  own-before r is longer = let k = reported r is in
      let e = k.position_is in
      prefixes-order (log_at T i) k.entered.log last.1.leadership.log
      (rw same (entered-prefix i leading-member.entered refl leading-member.is_entered)) (entered-prefix r.slot k.entered k.part_is k.is_entered)
      (omega (arith, longer, e))

  -- it is its own or the longest one
  begun-cases : ((begun_log (T.sites i) ≡ log_at T i) × AllByRecursion (λ r. r.position ≤ length (log_at T i)) (T.sites i).reports)
      ⊎ ((r : Reported) × (is : In r (T.sites i).reports) × (begun_log (T.sites i) ≡ (reported r is).entered.log) × (length (log_at T i) < r.position)
      × AllByRecursion (λ k. k.position ≤ r.position) (T.sites i).reports)
  begun-cases = elim (longest-cases (length (log_at T i)) None (T.sites i).reports) [
    | inl (is, low) ↦ inl (ap (λ o. log_at T i ++ lacks (length (log_at T i)) o) is ∙ append-nil (log_at T i), low)
    | inr (r, i, is, longer, low) ↦ inr (r, i, found r i is longer, longer, low)
  ]
    where
      found : (r : Reported) (is : In r (T.sites i).reports) → longest (length (log_at T i)) None (T.sites i).reports ≡ Some r → length (log_at T i) < r.position
          → begun_log (T.sites i) ≡ (reported r is).entered.log
      found r is e longer =
          let k = reported r is in
          let f = own-before r is longer in
          ap (λ o. log_at T i ++ lacks (length (log_at T i)) o) e
          ∙ ap (λ l. log_at T i ++ l) (lacks-behind (length (log_at T i)) k.entered.floor k.entered.log r k.floor_is k.tail_is (floor-low r.slot k.entered k.part_is k.is_entered)
          ∙ ap (drop (length (log_at T i))) f.1 ∙ drop-append_seam (log_at T i) f.0)
          ∙ sym f.1

  begun-prefix : Prefix (begun_log (T.sites i)) last.1.leadership.log
  begun-prefix = elim begun-cases [
    | inl (e, low) ↦ rw (e, same) (entered-prefix i leading-member.entered refl leading-member.is_entered)
    | inr (r, is, e, longer, low) ↦ let k = reported r is in rw e (entered-prefix r.slot k.entered k.part_is k.is_entered)
  ]

  -- it is one with which a copy entered the term
  pub begun-by : (c : ℕ) × (e : Entered) × IsSlot T c × (part T c ≡ part T i) × (T.logs.entered c (term_of w) ≡ Some e) × (e.log ≡ begun_log (T.sites i))
  begun-by = elim begun-cases [
    | inl (e, low) ↦ let m = leading-member in (i, m.entered, (H.entered i (term_of w) m.entered m.is_entered).slot, refl, m.is_entered, sym (e ∙ same))
    | inr (r, is, e, longer, low) ↦ let k = reported r is in
        (r.slot, k.entered, (H.entered r.slot (term_of w) k.entered k.is_entered).slot, k.part_is, k.is_entered, sym e)
  ]

  -- its own log stands at its beginning
  pub own-prefix : Prefix (log_at T i) (begun_log (T.sites i))
  own-prefix = (lacks (length (log_at T i)) (longest (length (log_at T i)) None (T.sites i).reports), refl)

  -- and so does each that was reported
  pub report-prefix : (r : Reported) (is : In r (T.sites i).reports) → Prefix (reported r is).entered.log (begun_log (T.sites i))
  report-prefix r is =
      let k = reported r is in
      prefixes-order k.entered.log (begun_log (T.sites i)) last.1.leadership.log (entered-prefix r.slot k.entered k.part_is k.is_entered) begun-prefix
      (let e = k.position_is in elim begun-cases [
        | inl (b, low) ↦ let n = ap length b in let m = all-at (λ r. r.position ≤ length (log_at T i)) (T.sites i).reports low r is in omega (arith, n, m, e)
        | inr (q, at, b, longer, low) ↦
            let n = ap length b in let f = (reported q at).position_is in
            let m = all-at (λ k. k.position ≤ q.position) (T.sites i).reports low r is in omega (arith, n, m, e, f)
      ])

  -- ---- all copies have entered the term

  -- each other one has reported
  pub has-report : (c a : ℕ) → (c ≡ i → ⊥) → part T c ≡ part T i → start_of_slot T.words.deployment w c ≡ Some a → (r : Reported) × In r (T.sites i).reports × (r.slot ≡ c)
  has-report c a n part-is member =
      let r = list_any-from (λ r. r.slot == c) (T.sites i).reports
      (list_all-at (λ c. list_any (λ r. r.slot == c) (T.sites i).reports) (other_copies T.words.deployment i (T.sites i)) c all
      (is_in-in c (other_copies T.words.deployment i (T.sites i)) (copy-other T.words.deployment i (T.sites i) w view c a n part-is member))) in
      (r.0, r.1, eqb-true r.0.slot c r.2)

  pub all-entered : (c a : ℕ) → IsSlot T c → part T c ≡ part T i → start_of_slot T.words.deployment w c ≡ Some a
      → (e : Entered) × (T.logs.entered c (term_of w) ≡ Some e) × (e.start ≡ a) × Prefix e.log (begun_log (T.sites i))
  all-entered c a slot part-is member = elim (cases_eq c i) [
    | inl e ↦ (
      leading-member.entered,
      ap (λ x. T.logs.entered x (term_of w)) e ∙ leading-member.is_entered,
      same-some (sym (entered-start T H i (term_of w) leading-member.entered leading-member.is_entered w word) ∙ ap (start_of_slot T.words.deployment w) (sym e) ∙ member),
      subst (λ l. Prefix l (begun_log (T.sites i))) same own-prefix,
    )
    | inr n ↦ other n
  ]
    where
      other : (c ≡ i → ⊥) → (e : Entered) × (T.logs.entered c (term_of w) ≡ Some e) × (e.start ≡ a) × Prefix e.log (begun_log (T.sites i))
      other n =
          let r = has-report c a n part-is member in
          let k = reported r.0 r.1 in
          let is = ap (λ x. T.logs.entered x (term_of w)) (sym r.2) ∙ k.is_entered in
          (k.entered, is, same-some (sym (entered-start T H c (term_of w) k.entered is w word) ∙ member), report-prefix r.0 r.1)

  -- ---- slots that have gone on

  -- Where this term is the last one that was led before a later one that a slot has entered, it had entered this one too.
  pub begun-behind : (c u : ℕ) (e : Entered) → part T c ≡ part T i → T.logs.entered c u ≡ Some e → term_of w < u
      → ((x : ℕ) (g : Leadership) → T.logs.leadership (part T i) x ≡ Some g → x < u → x ≤ term_of w)
      → Prefix e.log (begun_log (T.sites i)) × (known e ≤ T.logs.reach (part T i) (term_of w))
  begun-behind c u e part-is is above greatest =
      let f = all-entered c e.start k.slot part-is member in
      let s = k.still (term_of w) f.0 above f.1 f.2 unled in
      let r = (H.entered c (term_of w) f.0 f.1).reach in
      (rw s.0 f.3, (let q = ap (λ q. T.logs.reach q (term_of w)) part-is in let n = s.1 in omega (arith, n, r, q)))
    where
      k : EnteredOk T c u e
      k = H.entered c u e is

      -- it isn't led in between
      unled : Unled T.logs (part T c) (term_of w) u
      unled x g led low high =
          let at = ap (λ q. T.logs.leadership q x) (sym part-is) ∙ led in
          let b = greatest x g at high in
          let q : x ≡ term_of w = omega (arith, b, low) in
          none-and-some not-begun (ap (T.logs.leadership (part T i)) (sym q) ∙ at)

      up-to : term_of w ≤ term_of k.word
      up-to = let t = k.is_word.term_is in omega (arith, above, t)

      member : start_of_slot T.words.deployment w c ≡ Some e.start
      member = elim k.came [
        | inl first ↦ named-first T H w k.word c e.start leading-member.decided k.is_word.decided up-to first k.start_is
        | inr (z, x, streamed, start, below) ↦ elim (member-or-joined T H w k.word c e.start leading-member.decided k.is_word.decided up-to k.start_is) [
          | inl m ↦ m
          | inr (y, took, after, before) ↦
              let h = H.streamed c z x streamed in
              let same-took : h.word ≡ y = same-some (sym h.took ∙ ap T.words.history.took start ∙ took) in
              let t = ap term_of same-took in
              let low : term_of w ≤ z = (let a = h.term_is in omega (arith, after, t, a)) in
              absurd (unled z h.leadership h.led low below)
        ]
      ]
