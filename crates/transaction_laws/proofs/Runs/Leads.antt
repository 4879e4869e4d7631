-- The leads of all partitions, the logs of their leaders of the greatest terms, are aligned.
use Rattle.transaction_laws.proofs.Names.{Aligned, AuthoritativeLog, AuthoritativeOk, Books, CallsOk, Database, Entry, Everywhere, Firm, HeardPart, IsPart, LeadershipFits, List, LogState, LogsHold, Prefix, Transactions, WellFormed, ap, arith, cases_eq, first_stage, inl, inr, led_log, length, prefix-append, prefix-trans, same-some, stage, subst, sym, whole, ℕ, ◌++◌, ◌∙◌, ◌≡◌, ◌≤◌}
use Rattle.transaction_laws.proofs.Kept.{Under, inert-leadership, everywhere-prefix}
use Rattle.transaction_laws.proofs.Entries.{formed-prefix, ok-prefix, prefix-point, under-prefix, under-trans, aligned-under}

module _ (E : Database) (S : LogState) (F : Firm) (K : Transactions) (now : ℕ) (H : LogsHold S) (B : Books E S F K now) (p : ℕ) (part : IsPart S p) (l : AuthoritativeLog) (k : AuthoritativeOk S.logs p l) where
  abbrev h : HeardPart S F K p
  h = B.heard.each p part

  -- Its term isn't before the one that was heard.
  later : K.heard ≤ l.term
  later = k.greatest K.heard h.leadership h.led

  authoritative-fits : WellFormed (first_stage E p) l.log × ((stage E p l.log).point ≤ now)
  authoritative-fits =
      let fits : LeadershipFits E S K now p l.term k.leadership = B.leaderships p l.term k.leadership part k.led in
      let whole_log = k.leadership.log ++ K.due p l.term in
      let within : Prefix l.log whole_log = subst (λ xs. Prefix xs whole_log) (sym k.log) (prefix-append k.leadership.log (K.due p l.term)) in
      let low = prefix-point (first_stage E p) l.log whole_log within fits.formed in
      let past = fits.past in
      (formed-prefix (first_stage E p) l.log whole_log within fits.formed, omega (arith, low, past))

  authoritative-calls : CallsOk K.submitted p l.log
  authoritative-calls = subst (CallsOk K.submitted p) (sym k.log) (ok-prefix K.submitted p k.leadership.log (k.leadership.log ++ K.due p l.term) (prefix-append k.leadership.log (K.due p l.term))
      (B.leaderships p l.term k.leadership part k.led).calls)

  authoritative-under : Under l.log (whole S K K.heard p)
  authoritative-under =
      let whole_log = h.leadership.log ++ K.due p K.heard in
      let is : whole_log ≡ whole S K K.heard p = ap (λ r. led_log r ++ K.due p K.heard) (sym h.led) in
      subst (Under l.log) is (subst (λ xs. Under xs whole_log) (sym k.log)
      (under-trans k.leadership.log h.leadership.log whole_log (inert-leadership E S F K now H B p l.term h.leadership k.leadership part h.led k.led later)
      (under-prefix h.leadership.log whole_log (prefix-append h.leadership.log (K.due p K.heard)))))

  -- What was firm in that term is at its beginning.
  authoritative-has : (xs : List Entry) → Prefix xs h.leadership.log → Everywhere S F p K.heard (length xs) → Prefix xs l.log
  authoritative-has xs f firm = subst (Prefix xs) (sym k.log) (elim (cases_eq l.term K.heard) [
    | inl e ↦ subst (λ g. Prefix xs g.log) (same-some (sym h.led ∙ ap (S.logs.leadership p) (sym e) ∙ k.led)) f
    | inr n ↦ prefix-trans xs k.leadership.begun k.leadership.log
        (everywhere-prefix S F H p K.heard l.term h.leadership k.leadership xs h.led k.led (omega (arith, later, n)) f firm) (H.leaderships p l.term k.leadership k.led).grown
  ])

pub leads-aligned : (E : Database) (S : LogState) (F : Firm) (K : Transactions) (now : ℕ) → LogsHold S → Books E S F K now → (authoritative : ℕ → AuthoritativeLog) → ((p : ℕ) → AuthoritativeOk S.logs p (authoritative p))
    → Aligned E S.words.deployment now K (λ p. (authoritative p).log)
leads-aligned E S F K now H B authoritative k =
    aligned-under E S.words.deployment now now K K.heard (whole S K K.heard) (λ p. (authoritative p).log) (omega arith) B.heard.aligned
    (λ p q. authoritative-fits E S F K now H B p q (authoritative p) (k p))
    (λ p q. (
      authoritative-under E S F K now H B p q (authoritative p) (k p),
      (let h = B.heard.each p q in authoritative-has E S F K now H B p q (authoritative p) (k p) (K.closed p) h.inside h.closed),
    ))
    (λ p x q e. let d = (B.heard.each p q).decided x e in authoritative-has E S F K now H B p q (authoritative p) (k p) (K.decided p) d.0 d.1)

-- Each call stands once in each of them.
pub leads-calls : (E : Database) (S : LogState) (F : Firm) (K : Transactions) (now : ℕ) → LogsHold S → Books E S F K now → (authoritative : ℕ → AuthoritativeLog) → ((p : ℕ) → AuthoritativeOk S.logs p (authoritative p))
    → (p : ℕ) → IsPart S p → CallsOk K.submitted p (authoritative p).log
leads-calls E S F K now H B authoritative k p part = authoritative-calls E S F K now H B p part (authoritative p) (k p)
