-- The ends that apply calls on all partitions in aligned logs.
use Rattle.transaction_laws.proofs.Names.{Aligned, Database, Deployment, Done, Entry, In, List, None, OfNumber, Option, Outcome, Some, Transactions, WellFormed, all-at, ap, arith, cases_lt, first_stage, in-cases, in-left, in-right, inl, inr, nat_lt, parts, point_in, refl, same-some, since, stage, subst, sym, true, ℕ, ◌<◌, ◌∙◌, ◌≡◌, ◌⊎◌}
use Rattle.transaction_laws.proofs.Entries.Machine.{first-sound, stage-append, formed-prefix, formed-rest, open-ends, end-number, one-end}
use Rattle.transaction_laws.proofs.Entries.Since.{calls-no-end, log-since, open-number}

-- An end that applies a call in one of these logs stands in all.
abbrev pub AppliedInAll : Deployment → (ℕ → List Entry) → Type 0
AppliedInAll D logs = (p q m x : ℕ) (o : Outcome) → nat_lt p (parts D) ≡ true → nat_lt q (parts D) ≡ true → point_in (Some o) ≡ Some x
    → In (Done m o) (logs p) → In (Done m o) (logs q)

module _ (E : Database) (D : Deployment) (now : ℕ) (K : Transactions) (logs : ℕ → List Entry) (A : Aligned E D now K logs) where
  -- An end stands in what is over, or behind that.
  end-stands : (p m : ℕ) (o : Outcome) → nat_lt p (parts D) ≡ true → In (Done m o) (logs p) → In (Done m o) (K.closed p) ⊎ In (Done m o) (since K logs p)
  end-stands p m o part i = in-cases (Done m o) (K.closed p) (since K logs p) (subst (In (Done m o)) (log-since E D now K logs A p part) i)

  closed-stands : (p m : ℕ) (o : Outcome) → nat_lt p (parts D) ≡ true → In (Done m o) (K.closed p) → In (Done m o) (logs p)
  closed-stands p m o part i = subst (In (Done m o)) (sym (log-since E D now K logs A p part)) (in-left (Done m o) (K.closed p) (since K logs p) i)

  -- One that stands behind it is that of the last transaction, whose number no log has in what is over.
  module _ (p m : ℕ) (o : Outcome) (part : nat_lt p (parts D) ≡ true) (i : In (Done m o) (since K logs p)) where
    end-last-number : m ≡ K.number
    end-last-number = all-at (OfNumber K.number) (since K logs p) (A.only p part) (Done m o) i

    end-agreed : K.agreed ≡ Some o
    end-agreed = A.ends p part o (subst (λ n. In (Done n o) (since K logs p)) end-last-number i)

    closed-below : (q : ℕ) → nat_lt q (parts D) ≡ true → (stage E q (K.closed q)).number < K.number
    closed-below q other = elim (cases_lt (stage E q (K.closed q)).number K.number) [
      | inl l ↦ l
      | inr l ↦ absurd (calls-no-end (since K logs p) m o (A.fresh q p other part (omega (arith, l, A.below q other))) i)
    ]

    -- Another end of that number stands behind what is over too, and is the same.
    end-alike : (q : ℕ) (a : Outcome) → nat_lt q (parts D) ≡ true → In (Done m a) (logs q) → a ≡ o
    end-alike q a other j = elim (end-stands q m a other j) [
      | inl c ↦
          let s = first_stage E q in
          let n = end-number s (K.closed q) m a (first-sound E q) (formed-prefix s (K.closed q) (logs q) (A.prefix q other) (A.formed q other)) c in
          absurd (omega (arith, n, closed-below q other, end-last-number))
      | inr b ↦ same-some (sym (A.ends q other a (subst (λ n. In (Done n a) (since K logs q)) end-last-number b)) ∙ end-agreed)
    ]

    -- Where nothing is open, that transaction has ended, if it was decided.
    last-even : (q x : ℕ) → nat_lt q (parts D) ≡ true → (stage E q (logs q)).opened ≡ None → point_in (Some o) ≡ Some x → In (Done m o) (logs q)
    last-even q x other none point =
        let ((more, is), is_open, low) = A.decided q x other (ap point_in end-agreed ∙ point) in
        let s = first_stage E q in
        let formed = formed-rest s (K.decided q) more (subst (WellFormed s) is (A.formed q other)) in
        let over = ap (λ z. z.opened) (sym (stage-append s (K.decided q) more) ∙ ap (stage E q) (sym is)) ∙ none in
        let (a, j) = open-ends (stage E q (K.decided q)) more K.number is_open.0 formed is_open.1 over in
        let there = subst (In (Done K.number a)) (sym is) (in-right (Done K.number a) (K.decided q) more j) in
        let here = subst (λ n. In (Done n a) (logs q)) (sym end-last-number) there in
        subst (λ b. In (Done m b) (logs q)) (end-alike q a other here) here

  -- Where nothing is open, the outcome that is agreed stands, if it applies a call and no transaction before had its number.
  pub agreed-stands : (q x : ℕ) (o : Outcome) → nat_lt q (parts D) ≡ true → K.agreed ≡ Some o → point_in (Some o) ≡ Some x → ((stage E q (K.closed q)).number ≡ K.number → ⊥)
      → (stage E q (logs q)).opened ≡ None → In (Done K.number o) (logs q)
  agreed-stands q x o other agreed point new none =
      let ((more, is), is_open, low) = A.decided q x other (ap point_in agreed ∙ point) in
      let s = first_stage E q in
      let formed = formed-rest s (K.decided q) more (subst (WellFormed s) is (A.formed q other)) in
      let over = ap (λ z. z.opened) (sym (stage-append s (K.decided q) more) ∙ ap (stage E q) (sym is)) ∙ none in
      let (a, j) = open-ends (stage E q (K.decided q)) more K.number is_open.0 formed is_open.1 over in
      let there = subst (In (Done K.number a)) (sym is) (in-right (Done K.number a) (K.decided q) more j) in
      elim (end-stands q K.number a other there) [
        | inl c ↦
            let n = end-number s (K.closed q) K.number a (first-sound E q) (formed-prefix s (K.closed q) (logs q) (A.prefix q other) (A.formed q other)) c in
            absurd (new (omega (arith, n, A.below q other)))
        | inr b ↦ subst (λ z. In (Done K.number z) (logs q)) (same-some (sym (A.ends q other a b) ∙ agreed)) there
      ]

  -- An end that applies a call in one of them stands in each other one, or its transaction is open there.
  pub stands-or-open : (p q m x : ℕ) (o : Outcome) → nat_lt p (parts D) ≡ true → nat_lt q (parts D) ≡ true → point_in (Some o) ≡ Some x → In (Done m o) (logs p)
      → In (Done m o) (logs q) ⊎ ((r : ℕ) × ((stage E q (logs q)).opened ≡ Some (m, r)))
  stands-or-open p q m x o part other point i = elim (end-stands p m o part i) [
    | inl c ↦ inl (closed-stands q m o other (A.even p q m x o part other point c))
    | inr b ↦ choice b (stage E q (logs q)).opened refl
  ]
    where
      choice : In (Done m o) (since K logs p) → (now_open : Option (ℕ × ℕ)) → (stage E q (logs q)).opened ≡ now_open
          → In (Done m o) (logs q) ⊎ ((r : ℕ) × ((stage E q (logs q)).opened ≡ Some (m, r)))
      choice b None e = inl (last-even p m o part b q x other e point)
      choice b (Some (n, r)) e = inr (r, e ∙ ap (λ k. Some (k, r)) (open-number E D now K logs A q other n r e ∙ sym (end-last-number p m o part b)))

  -- Where nothing is open in any of them, an end that applies a call in one stands in all.
  pub even-logs : ((p : ℕ) → nat_lt p (parts D) ≡ true → (stage E p (logs p)).opened ≡ None) → AppliedInAll D logs
  even-logs none p q m x o part other point i = elim (end-stands p m o part i) [
    | inl c ↦ closed-stands q m o other (A.even p q m x o part other point c)
    | inr b ↦ last-even p m o part b q x other (none q other) point
  ]

  -- The call ends in no other way, in any log.
  pub one-way : (p q m x : ℕ) (o a : Outcome) → nat_lt p (parts D) ≡ true → nat_lt q (parts D) ≡ true → point_in (Some o) ≡ Some x
      → In (Done m o) (logs p) → In (Done m a) (logs q) → a ≡ o
  one-way p q m x o a part other point i j = elim (end-stands p m o part i) [
    | inl c ↦
        one-end (first_stage E q) (logs q) m o a (first-sound E q) (A.formed q other) (closed-stands q m o other (A.even p q m x o part other point c)) j
    | inr b ↦ end-alike p m o part b q a other j
  ]
