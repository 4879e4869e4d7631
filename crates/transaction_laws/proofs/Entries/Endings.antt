-- How the transaction that is open in one of aligned logs may end, and that they stay aligned then.
use Rattle.transaction_laws.proofs.Names.{Aborted, Aligned, AllByRecursion, Bool, Database, Deployment, Done, Dropped, EndFits, Entry, In, Kept, List, None, OfNumber, Option, Outcome, Prefix, Snapshot, Some, Transactions, WellFormed, [], all-append, all-at, ap, arith, cases_lt, drop, eqb-same, eqb-true, false, first_outcome, first_stage, if-true, if◌then◌else◌, in-cases, inl, inr, last_done, length, nat_lt, none-and-some, outcome_if_last, parts, point_after, point_in, prefix-grows, refl, same-some, since, stage, subst, sym, true, unwrap_or, ℕ, ◌++◌, ◌<◌, ◌==◌, ◌∙◌, ◌∷◌, ◌≡◌, ◌≤◌, ◌⊎◌}
use Rattle.transaction_laws.proofs.Entries.Machine.{first-sound, stage-sound, stage-append, formed-append, formed-rest, opened-point, last-in, in-last}
use Rattle.transaction_laws.proofs.Entries.Since.{no-round-opened, log-since, stage-since, since-more, calls-since}

-- ---- outcomes that are known of a transaction

-- an end with its outcome, as the last one
abbrev pub end_of : ℕ → Outcome → Option (ℕ × Outcome)
end_of m o = Some (m, o)

-- none of these is known, and so it is dropped, or the first one that is known is that of one of these
abbrev KnownOutcome : ℕ → List (Option (ℕ × Outcome)) → Type 0
KnownOutcome n lasts =
    (AllByRecursion (λ x. outcome_if_last n x ≡ None) lasts × (first_outcome n lasts ≡ Dropped))
    ⊎ ((last : Option (ℕ × Outcome)) × In last lasts × (outcome_if_last n last ≡ Some (first_outcome n lasts)))

known-more : (n : ℕ) (x : Option (ℕ × Outcome)) (xs : List (Option (ℕ × Outcome))) → KnownOutcome n xs → (o : Option Outcome) → outcome_if_last n x ≡ o → KnownOutcome n (x ∷ xs)
known-more n x xs k (Some o) e = inr (x, inl refl, e ∙ ap (λ z. Some (unwrap_or z (first_outcome n xs))) (sym e))
known-more n x xs (inl (none, dropped)) None e = inl ((e, none), ap (λ z. unwrap_or z (first_outcome n xs)) e ∙ dropped)
known-more n x xs (inr (last, i, f)) None e = inr (last, inr i, f ∙ ap (λ z. Some (unwrap_or z (first_outcome n xs))) (sym e))

first-known : (n : ℕ) (lasts : List (Option (ℕ × Outcome))) → KnownOutcome n lasts
first-known n [] = inl (tt, refl)
first-known n (x ∷ xs) = known-more n x xs (first-known n xs) (outcome_if_last n x) refl

known-if : (n k : ℕ) (a o : Outcome) → (a ≡ Snapshot → ⊥) → (if k == n then Some a else None) ≡ Some o → (end_of k a ≡ end_of n o) × (o ≡ Snapshot → ⊥)
known-if n k a o d e = choice (k == n) refl e
  where
    choice : (b : Bool) → (k == n) ≡ b → (if b then Some a else None) ≡ Some o → (end_of k a ≡ end_of n o) × (o ≡ Snapshot → ⊥)
    choice true q f = (λ i. Some (eqb-true k n q i, same-some f i), λ s. d (same-some f ∙ s))
    choice false q f = absurd (none-and-some refl f)

-- the outcome that is known is that of its end, which isn't a snapshot's
known-last : (n : ℕ) (last : Option (ℕ × Outcome)) (o : Outcome) → outcome_if_last n last ≡ Some o → (last ≡ Some (n, o)) × (o ≡ Snapshot → ⊥)
known-last n None o e = absurd (none-and-some refl e)
known-last n (Some (k, Snapshot)) o e = absurd (none-and-some refl e)
known-last n (Some (k, Kept call client point reply)) o e = known-if n k (Kept call client point reply) o (λ s. absurd (cc)) e
known-last n (Some (k, Aborted call client point reply)) o e = known-if n k (Aborted call client point reply) o (λ s. absurd (cc)) e
known-last n (Some (k, Dropped)) o e = known-if n k Dropped o (λ s. absurd (cc)) e

-- of an end of this number none is known only if it is a snapshot's
unknown-last : (n : ℕ) (o : Outcome) → outcome_if_last n (Some (n, o)) ≡ None → o ≡ Snapshot
unknown-last n Snapshot e = refl
unknown-last n (Kept call client point reply) e = absurd (none-and-some e (if-true (n == n) (Some (Kept call client point reply)) None (eqb-same n)))
unknown-last n (Aborted call client point reply) e = absurd (none-and-some e (if-true (n == n) (Some (Aborted call client point reply)) None (eqb-same n)))
unknown-last n Dropped e = absurd (none-and-some e (if-true (n == n) (Some Dropped) None (eqb-same n)))

-- ---- the last transaction, and aligned logs

-- It is open in a partition's log, with its last round.
abbrev pub OpenAt : Database → Transactions → (ℕ → List Entry) → ℕ → ℕ → Type 0
OpenAt E K logs p r = (stage E p (logs p)).opened ≡ Some (K.number, r)

-- It may end with this outcome: it is dropped, where it ended in no log, or ends as was agreed.
abbrev pub Closing : Deployment → Transactions → (ℕ → List Entry) → Outcome → Type 0
Closing D K logs o =
    ((o ≡ Dropped) × ((q : ℕ) → nat_lt q (parts D) ≡ true → (a : Outcome) → In (Done K.number a) (since K logs q) → ⊥))
    ⊎ ((K.agreed ≡ Some o) × (o ≡ Snapshot → ⊥))

-- It is dropped, where it ended in no log, or its end with this outcome stands in one.
abbrev pub Standing : Deployment → Transactions → (ℕ → List Entry) → Outcome → Type 0
Standing D K logs o =
    ((o ≡ Dropped) × ((q : ℕ) → nat_lt q (parts D) ≡ true → (a : Outcome) → In (Done K.number a) (since K logs q) → ⊥))
    ⊎ ((q : ℕ) × (nat_lt q (parts D) ≡ true) × In (Done K.number o) (since K logs q) × (o ≡ Snapshot → ⊥))

-- A log has that end where it was open, or is the same.
abbrev pub EndsOrSame : Database → Transactions → (ℕ → List Entry) → Outcome → (ℕ → List Entry) → ℕ → Type 0
EndsOrSame E K logs o after p = (after p ≡ logs p) ⊎ ((r : ℕ) × OpenAt E K logs p r × (after p ≡ logs p ++ Done K.number o ∷ []))

-- ---- where it is open

module _ (E : Database) (D : Deployment) (now : ℕ) (K : Transactions) (logs : ℕ → List Entry) (k : Aligned E D now K logs) where
  -- Its number is above all before it.
  open-below : (p r q : ℕ) → nat_lt p (parts D) ≡ true → OpenAt E K logs p r → nat_lt q (parts D) ≡ true → (stage E q (K.closed q)).number < K.number
  open-below p r q part e other = elim (cases_lt (stage E q (K.closed q)).number K.number) [
    | inl l ↦ l
    | inr l ↦
        let calls = k.fresh q p other part (omega (arith, l, k.below q other)) in
        absurd (none-and-some (calls-since E D now K logs k p part calls).0 e)
  ]

  -- It is no snapshot.
  pub open-no-snapshot : (p r : ℕ) → nat_lt p (parts D) ≡ true → OpenAt E K logs p r → K.agreed ≡ Some Snapshot → ⊥
  open-no-snapshot p r part e a = none-and-some
      (ap (λ z. z.opened) (stage-since E D now K logs k p part) ∙ no-round-opened (stage E p (K.closed p)) (since K logs p) (k.snapshot p part a) (k.over p part)) e

  -- Its end, if one stands in a log, is the last one there.
  pub end-last : (p : ℕ) (o : Outcome) → nat_lt p (parts D) ≡ true → In (Done K.number o) (since K logs p) → last_done E p (logs p) ≡ Some (K.number, o)
  end-last p o part i = let split = log-since E D now K logs k p part in
      ap (last_done E p) split ∙ in-last E p (K.closed p) (since K logs p) K.number o (subst (WellFormed (first_stage E p)) split (k.formed p part)) (k.only p part) i

  last-end : (p r q : ℕ) (o : Outcome) → nat_lt p (parts D) ≡ true → OpenAt E K logs p r → nat_lt q (parts D) ≡ true → last_done E q (logs q) ≡ Some (K.number, o)
      → In (Done K.number o) (since K logs q)
  last-end p r q o part e other f = let split = log-since E D now K logs k q other in
      last-in E q (K.closed q) (since K logs q) K.number o (subst (WellFormed (first_stage E q)) split (k.formed q other))
      (open-below p r q part e other) (ap (last_done E q) (sym split) ∙ f)

  -- ---- how it may end

  -- The first outcome that is known of it from last ends, if all that stand in logs are among these, and none but those that do: it is
  -- dropped, where it ended in no log, or its end stands in one.
  pub known-stands : (p r : ℕ) → nat_lt p (parts D) ≡ true → OpenAt E K logs p r → (lasts : List (Option (ℕ × Outcome)))
      → ((q : ℕ) (a : Outcome) → nat_lt q (parts D) ≡ true → In (Done K.number a) (since K logs q) → In (end_of K.number a) lasts)
      → ((a : Outcome) → In (end_of K.number a) lasts → (q : ℕ) × (nat_lt q (parts D) ≡ true) × (last_done E q (logs q) ≡ end_of K.number a))
      → Standing D K logs (first_outcome K.number lasts)
  known-stands p r part e lasts all only = elim (first-known K.number lasts) [
    | inl (none, dropped) ↦ inl (
      dropped,
      λ q other a i.
          let unknown = unknown-last K.number a (all-at (λ x. outcome_if_last K.number x ≡ None) lasts none (end_of K.number a) (all q a other i)) in
          open-no-snapshot p r part e (k.ends q other a i ∙ ap Some unknown),
    )
    | inr (last, i, f) ↦
        let o = first_outcome K.number lasts in
        let (same, call) = known-last K.number last o f in
        let (q, other, at) = only o (subst (λ x. In x lasts) same i) in
        inr (q, other, last-end p r q o part e other at, call)
  ]

  -- So it may end.
  pub standing-closing : (o : Outcome) → Standing D K logs o → Closing D K logs o
  standing-closing o (inl dropped) = inl dropped
  standing-closing o (inr (q, other, i, call)) = inr (k.ends q other o i, call)

  -- so its end fits, and adds no later point
  agreed-point : (p r x : ℕ) → nat_lt p (parts D) ≡ true → OpenAt E K logs p r → point_in K.agreed ≡ Some x → (stage E p (logs p)).point ≤ x
  agreed-point p r x part e a =
      let d = k.decided p x part a in
      let more = d.0.0 in
      let whole = ap (stage E p) d.0.1 ∙ stage-append (first_stage E p) (K.decided p) more in
      let same = opened-point (stage E p (K.decided p)) more K.number d.1.0 r (stage-sound (first_stage E p) (K.decided p) (first-sound E p))
      (formed-rest (first_stage E p) (K.decided p) more (subst (WellFormed (first_stage E p)) d.0.1 (k.formed p part))) d.1.1 (ap (λ z. z.opened) (sym whole) ∙ e) in
      omega (arith, ap (λ z. z.point) whole, same, d.2)

  pub closing-fits : (p r : ℕ) (o : Outcome) → nat_lt p (parts D) ≡ true → OpenAt E K logs p r → Closing D K logs o → EndFits (stage E p (logs p)) K.number o
  closing-fits p r Dropped part e c = (r, e)
  closing-fits p r (Kept call client x reply) part e (inl c) = absurd (cc)
  closing-fits p r (Kept call client x reply) part e (inr c) = ((r, e), agreed-point p r x part e (ap point_in c.0))
  closing-fits p r (Aborted call client x reply) part e (inl c) = absurd (cc)
  closing-fits p r (Aborted call client x reply) part e (inr c) = ((r, e), agreed-point p r x part e (ap point_in c.0))
  closing-fits p r Snapshot part e (inl c) = absurd (cc)
  closing-fits p r Snapshot part e (inr c) = absurd (c.1 refl)

  pub closing-past : (point : ℕ) (o : Outcome) → Closing D K logs o → point ≤ now → point_after point o ≤ now
  closing-past point Dropped c l = l
  closing-past point (Kept call client x reply) (inl c) l = absurd (cc)
  closing-past point (Kept call client x reply) (inr c) l = k.agreed x (ap point_in c.0)
  closing-past point (Aborted call client x reply) (inl c) l = absurd (cc)
  closing-past point (Aborted call client x reply) (inr c) l = k.agreed x (ap point_in c.0)
  closing-past point Snapshot c l = l

  -- a point that it has is that which was agreed
  pub closing-point : (o : Outcome) → Closing D K logs o → (x : ℕ) → point_in (Some o) ≡ Some x → point_in K.agreed ≡ Some x
  closing-point o (inl (dropped, none)) x e = absurd (none-and-some (ap (λ z. point_in (Some z)) dropped) e)
  closing-point o (inr (agreed, d)) x e = ap point_in agreed ∙ e

  closing-no-snapshot : (o : Outcome) → Closing D K logs o → o ≡ Snapshot → ⊥
  closing-no-snapshot o (inl (dropped, none)) e = absurd (cc)
  closing-no-snapshot o (inr (agreed, d)) e = d e

  closing-ends : (o : Outcome) → Closing D K logs o → (q : ℕ) → nat_lt q (parts D) ≡ true → (a : Outcome) → In (Done K.number a) (since K logs q) → o ≡ a
  closing-ends o (inl (dropped, none)) q other a i = absurd (none q other a i)
  closing-ends o (inr (agreed, d)) q other a i = same-some (sym agreed ∙ k.ends q other a i)

-- ---- the logs with its end

-- It is open in the log of partition p.
module _ (E : Database) (D : Deployment) (now : ℕ) (K : Transactions) (logs : ℕ → List Entry) (k : Aligned E D now K logs) (p r : ℕ) (part : nat_lt p (parts D) ≡ true)
    (at : OpenAt E K logs p r) (o : Outcome) (c : Closing D K logs o) (after : ℕ → List Entry)
    (either : (q : ℕ) → nat_lt q (parts D) ≡ true → EndsOrSame E K logs o after q) where
  -- what holds of the log as it was, and with the end where it was open
  of-log : (P : List Entry → Type 0) (q : ℕ) → nat_lt q (parts D) ≡ true → P (logs q) → ((r : ℕ) → OpenAt E K logs q r → P (logs q ++ Done K.number o ∷ [])) → P (after q)
  of-log P q other was ended = elim (either q other) [ inl e ↦ subst P (sym e) was | inr (r, now-open, e) ↦ subst P (sym e) (ended r now-open) ]

  of-since : (P : List Entry → Type 0) (q : ℕ) → nat_lt q (parts D) ≡ true → P (since K logs q) → P (since K logs q ++ Done K.number o ∷ []) → P (since K after q)
  of-since P q other was ended = of-log (λ xs. P (drop (length (K.closed q)) xs)) q other was
      (λ r e. subst P (sym (since-more E D now K logs k q other (Done K.number o ∷ []))) ended)

  formed : (q : ℕ) → nat_lt q (parts D) ≡ true → WellFormed (first_stage E q) (after q)
  formed q other = of-log (WellFormed (first_stage E q)) q other (k.formed q other)
      (λ r e. formed-append (first_stage E q) (logs q) (Done K.number o ∷ []) (k.formed q other) (closing-fits E D now K logs k q r o other e c, tt))

  past : (q : ℕ) → nat_lt q (parts D) ≡ true → (stage E q (after q)).point ≤ now
  past q other = of-log (λ xs. (stage E q xs).point ≤ now) q other (k.past q other)
      (λ r e. subst (λ s. s.point ≤ now) (sym (stage-append (first_stage E q) (logs q) (Done K.number o ∷ [])))
      (closing-past E D now K logs k (stage E q (logs q)).point o c (k.past q other)))

  prefix : (q : ℕ) → nat_lt q (parts D) ≡ true → (xs : List Entry) → Prefix xs (logs q) → Prefix xs (after q)
  prefix q other xs f = of-log (Prefix xs) q other f (λ r e. prefix-grows xs (logs q) (Done K.number o ∷ []) f)

  ends : (q : ℕ) → nat_lt q (parts D) ≡ true → (a : Outcome) → In (Done K.number a) (since K after q) → o ≡ a
  ends q other a = of-since (λ xs. In (Done K.number a) xs → o ≡ a) q other (closing-ends E D now K logs k o c q other a)
      (λ i. elim (in-cases (Done K.number a) (since K logs q) (Done K.number o ∷ []) i) [
        | inl j ↦ closing-ends E D now K logs k o c q other a j
        | inr (inl e) ↦ cc
        | inr (inr j) ↦ absurd j
      ])

  pub aligned-ended : (due : ℕ → ℕ → List Entry) → Aligned E D now (record K { agreed = Some o; due = due }) after
  aligned-ended due = record {
    formed = formed;
    past = past;
    prefix = λ q other. prefix q other (K.closed q) (k.prefix q other);
    over = k.over;
    below = k.below;
    only = λ q other. of-since (AllByRecursion (OfNumber K.number)) q other (k.only q other)
        (all-append (OfNumber K.number) (since K logs q) (Done K.number o ∷ []) (k.only q other) (refl, tt));
    fresh = λ q u other third e. absurd (omega (arith, e, open-below E D now K logs k p r q part at other));
    ends = λ q other a i. ap Some (ends q other a i);
    snapshot = λ q other e. absurd (closing-no-snapshot E D now K logs k o c (same-some e));
    decided = λ q x other e. let d = k.decided q x other (closing-point E D now K logs k o c x e) in (prefix q other (K.decided q) d.0, d.1, d.2);
    agreed = λ x e. k.agreed x (closing-point E D now K logs k o c x e);
    even = k.even;
  }
