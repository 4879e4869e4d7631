-- What a recovery chooses, where none was stopped since the last one that worked: logs of which one transaction at most isn't over everywhere.
use Rattle.transaction_laws.proofs.Names.{Aligned, Books, CallsOk, Chosen, ContentOk, Database, DisksHold, Entry, Everywhere, Firm, HeardPart, IsPart, Leadership, LeadershipFits, List, LogState, LogsHold, Prefix, Shown, Shows, Some, Transactions, WellFormed, Written, all-at, ap, arith, at_least-mark, cases_lt, chosen, chosen-firm, false, firm-prefix, firm-within, first_stage, inl, inr, led_log, length, length-take, part, prefix-append, prefix-take, prefix-trans, prefixes-order, shown_at, shows-slot, stage, subst, sym, take, take-grown, take_all, top-chosen, whole, ℕ, ◌++◌, ◌∙◌, ◌≡◌, ◌≤◌}
use Rattle.transaction_laws.proofs.Kept.{Under, inert-leadership}
use Rattle.transaction_laws.proofs.Entries.{formed-prefix, ok-prefix, prefix-point, under-prefix, under-trans, aligned-under}

module _ (E : Database) (S : LogState) (F : Firm) (K : Transactions) (now : ℕ) (H : LogsHold S) (disks : DisksHold S F false) (B : Books E S F K now) (shown : ℕ → Shown)
    (shows : Shows S shown) (p : ℕ) (is_part : IsPart S p) where
  abbrev log : List Entry
  log = chosen S.words.deployment shown p

  abbrev h : HeardPart S F K p
  h = B.heard.each p is_part

  -- ---- the content that is chosen

  c : Chosen S.words.deployment shown p K.heard 0
  c = top-chosen S shown shows.one p K.heard 0 h.top

  -- it was written, a prefix of the log of a term that isn't before the one that was heard
  w : Written S p c.content
  w =
      let q = shows-slot S shown shows c.slot c.content c.shows in
      let ok : ContentOk S F false (part S c.slot) (Some c.content) = subst (ContentOk S F false (part S c.slot)) c.shows
      (all-at (ContentOk S F false (part S c.slot)) (shown_at S c.slot) (disks.disks c.slot q).contents (shown c.slot) (shows.one c.slot q)) in
      subst (λ x. Written S x c.content) c.part_is ok

  later : K.heard ≤ w.term
  later = let a = at_least-mark K.heard 0 (Some c.content) c.good in let b = w.above in omega (arith, a, b)

  prefix : Prefix log w.later.log
  prefix = subst (λ l. Prefix l w.later.log) (sym c.log_is) w.prefix

  -- ---- so it fits

  fits : LeadershipFits E S K now p w.term w.later
  fits = B.leaderships p w.term w.later is_part w.later_led

  with-due : Prefix log (w.later.log ++ K.due p w.term)
  with-due = prefix-trans log w.later.log (w.later.log ++ K.due p w.term) prefix (prefix-append w.later.log (K.due p w.term))

  chosen-formed : WellFormed (first_stage E p) log × ((stage E p log).point ≤ now)
  chosen-formed = (
    formed-prefix (first_stage E p) log (w.later.log ++ K.due p w.term) with-due fits.formed,
    (let a = prefix-point (first_stage E p) log (w.later.log ++ K.due p w.term) with-due fits.formed in let b = fits.past in omega (arith, a, b)),
  )

  whole-is : whole S K K.heard p ≡ h.leadership.log ++ K.due p K.heard
  whole-is = ap (λ r. led_log r ++ K.due p K.heard) h.led

  chosen-calls : CallsOk K.submitted p log
  chosen-calls = ok-prefix K.submitted p log (w.later.log ++ K.due p w.term) with-due fits.calls

  chosen-under : Under log (whole S K K.heard p)
  chosen-under = subst (Under log) (sym whole-is) (under-trans log h.leadership.log (h.leadership.log ++ K.due p K.heard)
      (under-trans log w.later.log h.leadership.log (under-prefix log w.later.log prefix)
      (inert-leadership E S F K now H B p w.term h.leadership w.later is_part h.led w.later_led later))
      (under-prefix h.leadership.log (h.leadership.log ++ K.due p K.heard) (prefix-append h.leadership.log (K.due p K.heard))))

  -- ---- what is firm in the term that was heard is there

  -- all that was counted firm, in the term of its witness
  module _ (v : ℕ) (g : Leadership) (led : S.logs.leadership p v ≡ Some g) (reach : F p ≤ S.logs.reach p v) (xs : List Entry) (inside : Prefix xs h.leadership.log)
      (firm : Everywhere S F p K.heard (length xs)) where
    -- It has these entries: both are a prefix of the log of the later one of the two terms.
    counted-has : Prefix xs (take (F p) g.log)
    counted-has = elim (cases_lt v K.heard) [
      | inl l ↦ prefixes-order xs (take (F p) g.log) h.leadership.log inside (firm-prefix S H p v K.heard (F p) g h.leadership led h.led reach (omega (arith, l))) short
      | inr l ↦ prefixes-order xs (take (F p) g.log) g.log
          (subst (λ ys. Prefix ys g.log) own (firm-prefix S H p K.heard v (length xs) h.leadership g h.led led firm.reach l)) (prefix-take (F p) g.log) short
    ]
      where
        short : length xs ≤ length (take (F p) g.log)
        short = let a = firm-within S H p v (F p) g led reach in let b = firm.firm in let n = length-take (F p) g.log in omega (arith, a, b, n)

        own : take (length xs) h.leadership.log ≡ xs
        own = take-grown (length xs) xs h.leadership.log inside (omega arith) ∙ take_all (length xs) xs (omega arith)

  chosen-has : (xs : List Entry) → Prefix xs h.leadership.log → Everywhere S F p K.heard (length xs) → Prefix xs log
  chosen-has xs inside firm =
      let f = disks.firm p in
      prefix-trans xs (take (F p) f.leadership.log) log (counted-has f.term f.leadership f.led f.reach xs inside firm)
      (chosen-firm S H F false disks shown shows p f.term f.leadership f.led f.reach)

-- Whatever the disks show.
pub choice-aligned : (E : Database) (S : LogState) (F : Firm) (K : Transactions) (now : ℕ) → LogsHold S → DisksHold S F false → Books E S F K now → (shown : ℕ → Shown) → Shows S shown
    → Aligned E S.words.deployment now K (chosen S.words.deployment shown)
choice-aligned E S F K now H disks B shown shows =
    aligned-under E S.words.deployment now now K K.heard (whole S K K.heard) (chosen S.words.deployment shown) (omega arith) B.heard.aligned
    (λ p q. chosen-formed E S F K now H disks B shown shows p q)
    (λ p q. (chosen-under E S F K now H disks B shown shows p q, (let k = B.heard.each p q in chosen-has E S F K now H disks B shown shows p q (K.closed p) k.inside k.closed)))
    (λ p x q e. let k = (B.heard.each p q).decided x e in chosen-has E S F K now H disks B shown shows p q (K.decided p) k.0 k.1)

-- Each call stands once in each of them.
pub choice-calls : (E : Database) (S : LogState) (F : Firm) (K : Transactions) (now : ℕ) → LogsHold S → DisksHold S F false → Books E S F K now → (shown : ℕ → Shown) → Shows S shown
    → (p : ℕ) → IsPart S p → CallsOk K.submitted p (chosen S.words.deployment shown p)
choice-calls E S F K now H disks B shown shows p part = chosen-calls E S F K now H disks B shown shows p part
