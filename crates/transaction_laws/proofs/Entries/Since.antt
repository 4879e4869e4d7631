-- Aligned logs: what stands in one behind what is over, and where it is by then.
use Rattle.transaction_laws.proofs.Names.{Aligned, AllByRecursion, Database, Deployment, Done, DueOk, Entry, Frag, In, IsCall, IsOrder, Leadership, List, LogState, NoRound, None, OfNumber, OnlyCalls, Outcome, Some, Sp, Stage, Transactions, WellFormed, [], all-at, all-mono, all_parts, ap, append-nil, arith, drop, drop-append-le, first_stage, in-range, inl, inr, led_log, length, nat_lt, nat_tests, parts, prefix-length, prefix-rest, range-in, refl, since, stage, stage_behind, subst, sym, true, whole, ℕ, ◌++◌, ◌∙◌, ◌∷◌, ◌≡◌, ◌≤◌, ◌⊎◌}
use Rattle.transaction_laws.proofs.Entries.Machine.{first-sound, stage-append, formed-rest, prefix-number, calls-opened, calls-number, opened-number, only-number}

-- ---- lists

-- each partition is one of all
pub part-in : (D : Deployment) (p : ℕ) → nat_lt p (parts D) ≡ true → In p (all_parts D)
part-in D p part = range-in p 0 (parts D) (omega arith) (grind (arith, nat_tests, part))

pub in-part : (D : Deployment) (p : ℕ) → In p (all_parts D) → nat_lt p (parts D) ≡ true
in-part D p i = let l = (in-range p 0 (parts D) i).1 in grind (arith, nat_tests, l)

-- ---- calls on one partition

-- They are of any number, and no rounds.
pub call-number : (n : ℕ) (x : Entry) → IsCall x → OfNumber n x
call-number n (Sp call client point body) h = tt
call-number n x h = absurd h

pub call-round : (x : Entry) → IsCall x → NoRound x
call-round (Sp call client point body) h = tt
call-round (Frag m round body) h = h
call-round (Done m o) h = tt

pub calls-of : (n : ℕ) (es : List Entry) → OnlyCalls es → AllByRecursion (OfNumber n) es
calls-of n es h = all-mono IsCall (OfNumber n) (call-number n) es h

pub calls-no-round : (es : List Entry) → OnlyCalls es → AllByRecursion NoRound es
calls-no-round es h = all-mono IsCall NoRound call-round es h

-- no end is there
pub calls-no-end : (es : List Entry) (m : ℕ) (o : Outcome) → OnlyCalls es → In (Done m o) es → ⊥
calls-no-end es m o h i = all-at IsCall es h (Done m o) i

-- nor orders
pub call-no-order : (e : Entry) → IsCall e → IsOrder e → ⊥
call-no-order (Sp call client point body) k o = o
call-no-order (Frag m round body) k o = k
call-no-order (Done m o) k x = k

-- What is due is no call: nothing is, if it is nothing else.
pub due-calls : (S : LogState) (K : Transactions) (p t : ℕ) → DueOk S K p t → OnlyCalls (K.due p t) → K.due p t ≡ []
due-calls S K p t (inl none) h = none
due-calls S K p t (inr (e, g, is, order, led, up)) h = absurd (call-no-order e (subst OnlyCalls is h).0 order)

-- the log of a term that is led, where nothing is due
pub whole-led : (S : LogState) (K : Transactions) (p t : ℕ) (g : Leadership) → S.logs.leadership p t ≡ Some g → K.due p t ≡ [] → whole S K t p ≡ g.log
whole-led S K p t g led none = ap (λ r. led_log r ++ K.due p t) led ∙ ap (λ d. g.log ++ d) none ∙ append-nil g.log

-- where no round is, nothing is opened
pub no-round-opened : (s : Stage) (es : List Entry) → AllByRecursion NoRound es → s.opened ≡ None → (stage_behind s es).opened ≡ None
no-round-opened s [] h e = e
no-round-opened s (Sp call client point body ∷ es) h e = no-round-opened (record s { point = point }) es h.1 e
no-round-opened s (Frag m round body ∷ es) h e = absurd h.0
no-round-opened s (Done m o ∷ es) h e = no-round-opened _ es h.1 refl

-- ---- aligned logs

module _ (E : Database) (D : Deployment) (now : ℕ) (K : Transactions) (logs : ℕ → List Entry) (A : Aligned E D now K logs) (p : ℕ) (part : nat_lt p (parts D) ≡ true) where
  pub log-since : logs p ≡ K.closed p ++ since K logs p
  log-since = prefix-rest (K.closed p) (logs p) (A.prefix p part)

  pub stage-since : stage E p (logs p) ≡ stage_behind (stage E p (K.closed p)) (since K logs p)
  stage-since = ap (stage E p) log-since ∙ stage-append (first_stage E p) (K.closed p) (since K logs p)

  pub formed-since : WellFormed (stage E p (K.closed p)) (since K logs p)
  formed-since = formed-rest (first_stage E p) (K.closed p) (since K logs p) (subst (WellFormed (first_stage E p)) log-since (A.formed p part))

  -- with more entries behind it
  pub since-more : (es : List Entry) → drop (length (K.closed p)) (logs p ++ es) ≡ since K logs p ++ es
  since-more es = drop-append-le (length (K.closed p)) (logs p) es (prefix-length (K.closed p) (logs p) (A.prefix p part))

  -- ---- numbers

  pub closed-number : (stage E p (K.closed p)).number ≤ (stage E p (logs p)).number
  closed-number = prefix-number (first_stage E p) (K.closed p) (logs p) (first-sound E p) (A.prefix p part) (A.formed p part)

  -- Its number is the last one, unless all are calls.
  pub number-since : OnlyCalls (since K logs p) ⊎ ((stage E p (logs p)).number ≡ K.number)
  number-since = elim (only-number (stage E p (K.closed p)) (since K logs p) K.number (A.only p part)) [
    | inl calls ↦ inl calls
    | inr is ↦ inr (ap (λ s. s.number) stage-since ∙ is)
  ]

  pub calls-since : OnlyCalls (since K logs p) → ((stage E p (logs p)).opened ≡ None) × ((stage E p (logs p)).number ≡ (stage E p (K.closed p)).number)
  calls-since h = (
    ap (λ s. s.opened) stage-since ∙ calls-opened (stage E p (K.closed p)) (since K logs p) h ∙ A.over p part,
    ap (λ s. s.number) stage-since ∙ calls-number (stage E p (K.closed p)) (since K logs p) h,
  )

  pub number-within : (stage E p (logs p)).number ≤ K.number
  number-within = elim number-since [ inl calls ↦ subst (λ n. n ≤ K.number) (sym (calls-since calls).1) (A.below p part) | inr is ↦ omega (arith, is) ]

  -- No other one is open.
  pub open-number : (m r : ℕ) → (stage E p (logs p)).opened ≡ Some (m, r) → m ≡ K.number
  open-number m r e =
      opened-number (stage E p (K.closed p)) (since K logs p) K.number m r (A.over p part) (A.only p part) (ap (λ s. s.opened) (sym stage-since) ∙ e)
