-- What was everywhere in a term that was led is a prefix of the log of each later one.
use Rattle.log_laws.proofs.Names.{◌≡◌, ◌+◌, ◌<◌, ◌≤◌, zero, suc, List, length, take, sym, subst, ap, ◌∙◌, inl, inr, arith, cases_eq, ℕ, Some, Entry, same-some, Prefix, prefix-trans, prefixes-order, prefix-take, take-short, LogState, LogsHold, Entered, Leadership, EnteredOk, Last, IsSlot, known, epoch_base, part, between}
use Rattle.log_laws.proofs.Kept.{base-least, last-below}

module _ (S : LogState) (H : LogsHold S) (p v : ℕ) (g : Leadership) (led : S.logs.leadership p v ≡ Some g) where
  -- those that are everywhere in the term
  abbrev pub everywhere : List Entry
  everywhere = take (S.logs.reach p v) g.log

  above-base : (t : ℕ) → v < t → epoch_base S < t
  above-base t above = let k = H.leaderships p v g led in let b = base-least S H k.word k.is_word.decided in omega (arith, b, k.is_word.term_is, above)

  -- A later term began with them, if those between have them in their logs.
  agrees-from : (t : ℕ) (h : Leadership) → S.logs.leadership p t ≡ Some h → v < t
      → ((u : ℕ) (k : Leadership) → S.logs.leadership p u ≡ Some k → v < u → u < t → Prefix everywhere k.log)
      → (S.logs.reach p v ≤ length h.begun) × Prefix everywhere h.begun
  agrees-from t h is above between = (
    subst (λ x. S.logs.reach p v ≤ length x) log since,
    subst (Prefix everywhere) log (prefixes-order everywhere r.1.log l.1.leadership.log last behind (short since)),
  )
    where
      r : (c : ℕ) × (e : Entered) × IsSlot S c × (part S c ≡ p) × (S.logs.entered c t ≡ Some e) × (e.log ≡ h.begun)
      r = (H.leaderships p t h is).begun_by (above-base t above)

      log : r.1.log ≡ h.begun
      log = r.5

      entered : EnteredOk S r.0 t r.1
      entered = H.entered r.0 t r.1 r.4

      since : S.logs.reach p v ≤ length r.1.log
      since = subst (λ q. S.logs.reach q v ≤ length r.1.log) r.3 (entered.since v g (ap (λ q. S.logs.leadership q v) r.3 ∙ led) above)

      short : S.logs.reach p v ≤ length r.1.log → length everywhere ≤ length r.1.log
      short low = let n = take-short (S.logs.reach p v) g.log in omega (arith, low, n)

      -- the last term that was led before is the first one, or has them in its log
      l : (u : ℕ) × Last S.logs p u t
      l = last-below S H p t (above-base t above)

      behind : Prefix r.1.log l.1.leadership.log
      behind = (subst (λ q. (x : Last S.logs q l.0 t) → Prefix r.1.log x.leadership.log × (known r.1 ≤ S.logs.reach q l.0)) r.3 (entered.behind l.0) l.1).0

      last : Prefix everywhere l.1.leadership.log
      last = elim (cases_eq l.0 v) [
        | inl q ↦ subst (λ x. Prefix everywhere x.log) (same-some (sym led ∙ ap (S.logs.leadership p) (sym q) ∙ l.1.led)) (prefix-take (S.logs.reach p v) g.log)
        | inr n ↦ let b = l.1.greatest v g led above in between l.0 l.1.leadership l.1.led (omega (arith, b, n)) l.1.below
      ]

  agrees-up : (m t : ℕ) (h : Leadership) → t < m → S.logs.leadership p t ≡ Some h → v < t → (S.logs.reach p v ≤ length h.begun) × Prefix everywhere h.begun
  agrees-up zero t h small is above = absurd (omega (arith, small))
  agrees-up (suc m) t h small is above = agrees-from t h is above (λ u k led after before.
      prefix-trans everywhere k.begun k.log (agrees-up m u k (omega (arith, small, before)) led after).1 (H.leaderships p u k led).grown)

  -- What is everywhere is in the log with which each later term began, at its beginning.
  pub agrees-begun : (t : ℕ) (h : Leadership) → S.logs.leadership p t ≡ Some h → v < t → (S.logs.reach p v ≤ length h.begun) × Prefix everywhere h.begun
  agrees-begun t h = agrees-up (t + 1) t h (omega arith)

  -- So they are a prefix of its log.
  pub agrees : (t : ℕ) (h : Leadership) → S.logs.leadership p t ≡ Some h → v < t → Prefix everywhere h.log
  agrees t h is above = prefix-trans everywhere h.begun h.log (agrees-begun t h is above).1 (H.leaderships p t h is).grown
