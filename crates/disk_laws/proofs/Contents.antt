-- Contents and firm positions from one state to a later one, and where the logs that stand behind them are.
use Rattle.disk_laws.proofs.Names.{none-or-some, ◌≡◌, ◌<◌, ◌≤◌, Bool, true, false, List, length, take, refl, sym, subst, ap, ◌∙◌, inl, inr, arith, cases_eq, cases_lt, ℕ, Some, None, AllByRecursion, Membership, Content, Shown, term_of, term_in, all-mono, same-some, none-and-some, LogState, LogsHold, Leadership, MemberOk, part, site_start, log_at, term_at, Prefix, prefix-refl, prefix-trans, prefix-take, take-prefix, take-grown, take-of-prefix, agrees-begun, copy-behind, copy-entered, last-before, Written, Firm, Rebuilt, ContentOk, Top, FirmOk}

-- ---- from a state to a later one

-- Terms that were led are led, with what they began with and with logs that have only grown. What is everywhere only rises.
pub record Rises (S T : LogState) : Type 0 where
  pub deployment : T.words.deployment ≡ S.words.deployment
  pub kept : (p t : ℕ) (g : Leadership) → S.logs.leadership p t ≡ Some g → (h : Leadership) × (T.logs.leadership p t ≡ Some h) × (h.begun ≡ g.begun) × Prefix g.log h.log
  pub reach : (p t : ℕ) → S.logs.reach p t ≤ T.logs.reach p t

-- with the same history
pub rises-same : (S T : LogState) → T.words.deployment ≡ S.words.deployment → T.logs ≡ S.logs → Rises S T
rises-same S T same logs = record {
  deployment = same;
  kept = λ p t g is. (g, ap (λ G. G.leadership p t) logs ∙ is, refl, prefix-refl g.log);
  reach = λ p t. let e : T.logs.reach p t ≡ S.logs.reach p t = ap (λ G. G.reach p t) logs in omega (arith, e);
}

-- ---- what is everywhere in a led term

module _ (S : LogState) (H : LogsHold S) (p : ℕ) where
  -- is in its log
  pub firm-within : (v n : ℕ) (g : Leadership) → S.logs.leadership p v ≡ Some g → n ≤ S.logs.reach p v → n ≤ length g.log
  firm-within v n g led reach = let k = (H.leaderships p v g led).within in omega (arith, k, reach)

  -- A later term began with it.
  pub firm-begun : (v t n : ℕ) (g h : Leadership) → S.logs.leadership p v ≡ Some g → S.logs.leadership p t ≡ Some h → n ≤ S.logs.reach p v → v < t
      → (n ≤ length h.begun) × Prefix (take n g.log) h.begun
  firm-begun v t n g h led is reach above =
      let k = agrees-begun S H p v g led t h is above in
      (omega (arith, k.0, reach), prefix-trans (take n g.log) (take (S.logs.reach p v) g.log) h.begun (take-prefix n (S.logs.reach p v) g.log reach) k.1)

  -- It is a prefix of the log of that term and of each later one.
  pub firm-prefix : (v t n : ℕ) (g h : Leadership) → S.logs.leadership p v ≡ Some g → S.logs.leadership p t ≡ Some h → n ≤ S.logs.reach p v → v ≤ t → Prefix (take n g.log) h.log
  firm-prefix v t n g h led is reach above = elim (cases_eq v t) [
    | inl e ↦ subst (λ x. Prefix (take n g.log) x.log) (same-some (sym led ∙ ap (S.logs.leadership p) e ∙ is)) (prefix-take n g.log)
    | inr d ↦ prefix-trans (take n g.log) h.begun h.log (firm-begun v t n g h led is reach (omega (arith, above, d))).1 (H.leaderships p t h is).grown
  ]

  -- So it is the same in all terms that have it.
  pub firm-same : (v t n : ℕ) (g h : Leadership) → S.logs.leadership p v ≡ Some g → S.logs.leadership p t ≡ Some h → n ≤ S.logs.reach p v → n ≤ S.logs.reach p t
      → take n g.log ≡ take n h.log
  firm-same v t n g h led is reach more = elim (cases_lt v t) [
    | inl l ↦ sym (take-of-prefix n g.log h.log (firm-prefix v t n g h led is reach (omega (arith, l))) (firm-within v n g led reach))
    | inr l ↦ take-of-prefix n h.log g.log (firm-prefix t v n h g is led more l) (firm-within t n h is more)
  ]

-- ---- contents

module _ (S T : LogState) (f : Rises S T) where
  written-later : (p : ℕ) (x : Content) → Written S p x → Written T p x
  written-later p x w =
      let g = f.kept p x.mark w.leadership w.led in
      let h = f.kept p w.term w.later w.later_led in
      record {
        leadership = g.0;
        led = g.1;
        begun = subst (λ b. Prefix b x.log) (sym g.2) w.begun;
        term = w.term;
        above = w.above;
        later = h.0;
        later_led = h.1;
        prefix = prefix-trans x.log w.later.log h.0.log w.prefix h.3;
      }

  -- also where it is the base of a recovery, if that stays so
  pub content-later : (F G : Firm) (p : ℕ) (halted : Bool) → (halted ≡ true → (x : Content) → Rebuilt S F p x → Rebuilt T G p x)
      → (x : Shown) → ContentOk S F halted p x → ContentOk T G halted p x
  content-later F G p true base None h = tt
  content-later F G p false base None h = tt
  content-later F G p false base (Some x) h = written-later p x h
  content-later F G p true base (Some x) (inl h) = inl (written-later p x h)
  content-later F G p true base (Some x) (inr h) = inr (base refl x h)

  -- where what was counted firm stays so
  module _ (H : LogsHold S) (K : LogsHold T) (F G : Firm) (p : ℕ) (firm : FirmOk S F p) where
    rebuilt-later : G p ≡ F p → (x : Content) → Rebuilt S F p x → Rebuilt T G p x
    rebuilt-later same x r v h led reach =
        let k = f.kept p firm.term firm.leadership firm.led in
        let up = f.reach p firm.term in
        let e : take (G p) h.log ≡ take (G p) k.0.log = firm-same T K p v firm.term (G p) h k.0 led k.1 reach (omega (arith, same, firm.reach, up)) in
        let within : G p ≤ length firm.leadership.log = firm-within S H p firm.term (G p) firm.leadership firm.led (omega (arith, same, firm.reach)) in
        subst (λ l. Prefix l x.log) (sym (e ∙ take-grown (G p) firm.leadership.log k.0.log k.3 within))
        (subst (λ n. Prefix (take n firm.leadership.log) x.log) (sym same) (r firm.term firm.leadership firm.led firm.reach))

    pub contents-later : (halted : Bool) → (halted ≡ true → G p ≡ F p) → (xs : List Shown)
        → AllByRecursion (ContentOk S F halted p) xs → AllByRecursion (ContentOk T G halted p) xs
    contents-later halted same xs h = all-mono (ContentOk S F halted p) (ContentOk T G halted p) (content-later F G p halted (λ e. rebuilt-later (same e))) xs h

  -- What was counted firm stands where it stood.
  pub firm-later : (F G : Firm) (p : ℕ) → G p ≡ F p → ((m n : ℕ) → Top S p m n → Top T p m n) → FirmOk S F p → FirmOk T G p
  firm-later F G p same tops k =
      let g = f.kept p k.term k.leadership k.led in
      let up = f.reach p k.term in
      record {
        term = k.term;
        leadership = g.0;
        led = g.1;
        reach = omega (arith, same, k.reach, up);
        top = λ some. subst (Top T p k.term) (sym same) (tops k.term (F p) (k.top (omega (arith, some, same))));
      }

-- ---- members

-- The log of a slot's site is a prefix of that of a term that was led, not before that of a mark.
pub record Behind (S : LogState) (c mark : ℕ) : Type 0 where
  pub term : ℕ
  pub above : mark ≤ term
  pub later : Leadership
  pub led : S.logs.leadership (part S c) term ≡ Some later
  pub prefix : Prefix (log_at S c) later.log

module _ (S : LogState) (H : LogsHold S) (c mark : ℕ) (r : Leadership) (led : S.logs.leadership (part S c) mark ≡ Some r) where
  word-behind : 0 < site_start S c → (w : Membership) → MemberOk S c w → mark ≤ term_of w → Behind S c mark
  word-behind up w m low = elim (none-or-some (S.logs.leadership (part S c) (term_of w))) [
    | inl is ↦
        let unlike : mark ≡ term_of w → ⊥ = λ e. none-and-some is (ap (S.logs.leadership (part S c)) (sym e) ∙ led) in
        let l = last-before S H c w m is in
        record {
          term = l.0;
          above = l.1.greatest mark r led (omega (arith, low, unlike));
          later = l.1.leadership;
          led = l.1.led;
          prefix = copy-entered S H c w l.0 m is l.1;
        }
    | inr (g, is) ↦ record { term = term_of w; above = low; later = g; led = is; prefix = copy-behind S H c w g up m is }
  ]

  -- A member's log is a prefix of that of a term that was led: its own, or the last one before.
  pub member-behind : 0 < site_start S c → (S.sites c).joining ≡ None → mark ≤ term_at S c → Behind S c mark
  member-behind up joins low =
      let k = (H.sites c).member up joins in
      let term : term_at S c ≡ term_of k.0 = ap term_in k.1 in
      word-behind up k.0 k.2 (omega (arith, low, term))

  -- So a content with a prefix of its log is written, once that has all that the mark's term began with.
  pub member-written : 0 < site_start S c → (S.sites c).joining ≡ None → mark ≤ term_at S c
      → (x : Content) → x.mark ≡ mark → Prefix x.log (log_at S c) → Prefix r.begun x.log → Written S (part S c) x
  member-written up joins low x same prefix begun =
      let k = member-behind up joins low in
      record {
        leadership = r;
        led = ap (S.logs.leadership (part S c)) same ∙ led;
        begun = begun;
        term = k.term;
        above = omega (arith, same, k.above);
        later = k.later;
        later_led = k.led;
        prefix = prefix-trans x.log (log_at S c) k.later.log prefix k.prefix;
      }
