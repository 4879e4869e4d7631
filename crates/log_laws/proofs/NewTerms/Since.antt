-- What was everywhere in a term that was led is in each log with which a slot entered a later one.
use Rattle.log_laws.proofs.Names.{◌≡◌, ◌+◌, ◌<◌, ◌≤◌, zero, suc, length, refl, sym, subst, ap, ◌∙◌, ◌⊎◌, inl, inr, arith, cases_eq, ℕ, Some, None, Membership, term_of, start_of_slot, In, none-and-some, same-some, LogState, LogsHold, Entered, Streaming, Leadership, WordOf, WasIn, Last, Came, LeadershipOk, IsSlot, epoch_base, part, site_start, log_at}
use Rattle.log_laws.proofs.Kept.{base-least, named-first, member-or-joined, running-in, last-below}

module _ (S : LogState) (H : LogsHold S) where
  -- A member was in an earlier term that was led, or it took the stream of a term in between.
  pub was-in-or-joined : (c t a : ℕ) (w : Membership) → IsSlot S c → WordOf S t w → start_of_slot S.words.deployment w c ≡ Some a → Came S c t a
      → (v : ℕ) (g : Leadership) → S.logs.leadership (part S c) v ≡ Some g → v < t
      → WasIn S c v a ⊎ ((u : ℕ) × (x : Streaming) × (S.logs.streamed c u ≡ Some x) × (x.start ≡ a) × (v < u) × (u < t))
  was-in-or-joined c t a w s d m came v g led below = from came
    where
      k : LeadershipOk S (part S c) v g
      k = H.leaderships (part S c) v g led

      entered : start_of_slot S.words.deployment k.word c ≡ Some a → WasIn S c v a
      entered n = let r = k.entered c a s refl n in inl (r.0, r.1, r.2)

      up-to : term_of k.word ≤ term_of w
      up-to = omega (arith, k.is_word.term_is, d.term_is, below)

      from : Came S c t a → WasIn S c v a ⊎ ((u : ℕ) × (x : Streaming) × (S.logs.streamed c u ≡ Some x) × (x.start ≡ a) × (v < u) × (u < t))
      from (inl f) = inl (entered (named-first S H k.word w c a k.is_word.decided d.decided up-to f m))
      from (inr (u, x, e, q, b)) = elim (member-or-joined S H k.word w c a k.is_word.decided d.decided up-to m) [
        | inl n ↦ inl (entered n)
        | inr (y, took, after, before) ↦
            let h = H.streamed c u x e in
            let same : h.word ≡ y = same-some (sym h.took ∙ ap S.words.history.took q ∙ took) in
            let low : v ≤ u = omega (arith, after, k.is_word.term_is, h.term_is, ap term_of same) in
            elim (cases_eq u v) [ inl at ↦ inl (inr (x, subst (λ z. S.logs.streamed c z ≡ Some x) at e, q)) | inr n ↦ inr (u, x, e, q, omega (arith, low, n), b) ]
      ]

  -- what isn't above the logs with which slots entered the term of a stream isn't above the position at which that began
  stream-bound : (n v c u : ℕ) (x : Streaming) (g : Leadership) → S.logs.streamed c u ≡ Some x → S.logs.leadership (part S c) v ≡ Some g → v < u
      → ((d : ℕ) (f : Entered) → part S d ≡ part S c → S.logs.entered d u ≡ Some f → n ≤ length f.log) → n ≤ x.stream_start
  stream-bound n v c u x g is led above bound =
      let h = H.streamed c u x is in
      let k = H.leaderships (part S c) v g led in
      let r = (H.leaderships (part S c) u h.leadership h.led).begun_by (let b = base-least S H k.word k.is_word.decided in omega (arith, b, k.is_word.term_is, above)) in
      let low = bound r.0 r.1 r.3 r.4 in
      let b = h.behind in
      let e = ap length r.5 in
      omega (arith, low, b, e)

  -- It is in the log of a member that goes on in a later term.
  pub since-running : (c t a : ℕ) (w : Membership) → IsSlot S c → WordOf S t w → start_of_slot S.words.deployment w c ≡ Some a → Came S c t a → site_start S c ≡ a
      → (v : ℕ) (g : Leadership) → S.logs.leadership (part S c) v ≡ Some g → v < t → S.logs.reach (part S c) v ≤ length (log_at S c)
  since-running c t a w s d m came runs v g led below = elim (was-in-or-joined c t a w s d m came v g led below) [
    | inl k ↦ (running-in S H c v a k runs).0
    | inr (u, x, is, start, after, before) ↦
        let n = stream-bound (S.logs.reach (part S c) v) v c u x g is led after (λ d f same at.
        subst (λ p. S.logs.reach p v ≤ length f.log) same ((H.entered d u f at).since v g (ap (λ p. S.logs.leadership p v) same ∙ led) after)) in
        let m = ((H.streamed c u x is).running (runs ∙ sym start)).3 in
        omega (arith, n, m)
  ]

  -- a term that nobody led is above the first one
  pub unled-above : (p : ℕ) (w : Membership) → In w S.words.history.decided → S.logs.leadership p (term_of w) ≡ None → epoch_base S < term_of w
  unled-above p w d none = elim (cases_eq (epoch_base S) (term_of w)) [
    | inl e ↦ let f = H.first p in absurd (none-and-some none (ap (S.logs.leadership p) (sym e) ∙ f.1))
    | inr n ↦ let b = base-least S H w d in omega (arith, b, n)
  ]

  -- What nobody led a term with, and is taken to be everywhere in it, was so in the last term that was led before.
  pub since-unled : (p v : ℕ) → S.logs.leadership p v ≡ None → epoch_base S < v → (c t : ℕ) (e : Entered) → part S c ≡ p → S.logs.entered c t ≡ Some e → v < t
      → S.logs.reach p v ≤ length e.log
  since-unled p v none some c t e same is below = elim (H.unled p v none) [
    | inl z ↦ omega (arith, z)
    | inr (d, f, at, was, reach) ↦
        let l = last-below S H p v some in
        let b = ((H.entered d v f was).behind l.0 (subst (λ q. Last S.logs q l.0 v) (sym at) l.1)).1 in
        let q = ap (λ q. S.logs.reach q l.0) at in
        let n = (H.entered c t e is).since l.0 l.1.leadership (ap (λ q. S.logs.leadership q l.0) same ∙ l.1.led) (omega (arith, l.1.below, below)) in
        let m = ap (λ q. S.logs.reach q l.0) same in
        omega (arith, reach, b, q, n, m)
  ]

  -- What isn't above the logs with which those went on that were in a term that was led isn't above any with which a later one was entered.
  pub since-raised : (p v n : ℕ) (g : Leadership) → S.logs.leadership p v ≡ Some g
      → ((c t : ℕ) (e f : Entered) → part S c ≡ p → S.logs.entered c v ≡ Some f → S.logs.entered c t ≡ Some e → f.start ≡ e.start → v < t → n ≤ length e.log)
      → ((c t : ℕ) (e : Entered) (x : Streaming) → part S c ≡ p → S.logs.streamed c v ≡ Some x → S.logs.entered c t ≡ Some e → x.start ≡ e.start → v < t → n ≤ length e.log)
      → (c t : ℕ) (e : Entered) → part S c ≡ p → S.logs.entered c t ≡ Some e → v < t → n ≤ length e.log
  since-raised p v n g led entered streamed c t e = up-to (t + 1) c t e (omega arith)
    where
      up-to : (m c t : ℕ) (e : Entered) → t < m → part S c ≡ p → S.logs.entered c t ≡ Some e → v < t → n ≤ length e.log
      up-to zero c t e small same is above = absurd (omega (arith, small))
      up-to (suc m) c t e small same is above =
          let k = H.entered c t e is in
          let here = ap (λ q. S.logs.leadership q v) same ∙ led in
          elim (was-in-or-joined c t e.start k.word k.slot k.is_word k.start_is k.came v g here above) [
            | inl (inl (f, was, start)) ↦ entered c t e f same was is start above
            | inl (inr (x, was, start)) ↦ streamed c t e x same was is start above
            | inr (u, x, was, start, after, before) ↦
                let b = stream-bound n v c u x g was here after (λ d f q at. up-to m d u f (omega (arith, small, before)) (q ∙ same) at after) in
                let l = ((H.streamed c u x was).later t e is (sym start)).1 in
                omega (arith, b, l)
          ]
