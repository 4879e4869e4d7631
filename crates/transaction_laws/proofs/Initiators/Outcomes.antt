-- The outcome with which an initiator closes a transaction that partitions told open.
use Rattle.transaction_laws.proofs.Names.{Aligned, Books, Covered, CoversAll, Database, Done, Entry, Firm, Heard, In, IsPart, JobOk, LastReply, List, LogState, None, Option, Outcome, Some, Transactions, Work, ap, closing_outcome, eq-eqb, false, false_from_ne_true, first_outcome, first_stage, if-true, in-map, in-map-from, in-right, inl, inr, last_told, map, not-both, own_decision, refl, since, stage, stage_behind, subst, sym, true, whole, ℕ, ◌==◌, ◌∙◌, ◌≡◌}
use Rattle.transaction_laws.proofs.Entries.{first-sound, stage-sound, opened-no-end, stage-since, formed-since, open-number, OpenAt, Closing, Standing, end_of, end-last, known-stands, log-since, open-no-snapshot, standing-closing}
use Rattle.transaction_laws.proofs.Initiators.Told.{ToldIs, told-opened, told-last, last-shut}

-- All partitions have told, and one that the transaction is open.
module _ (E : Database) (S : LogState) (F : Firm) (K : Transactions) (now : ℕ) (B : Books E S F K now) (told : List Heard) (stand : (x : Heard) → In x told → ToldIs E S F K x)
    (tells : (p : ℕ) → IsPart S p → (x : Heard) × In x told × (x.part ≡ p)) (y : Heard) (here : In y told) (still : y.is_open ≡ true) where
  abbrev log : ℕ → List Entry
  log = whole S K K.heard

  A : Aligned E S.words.deployment now K log
  A = B.heard.aligned

  -- It is the last one.
  pub open-at : (x : Heard) → In x told → x.is_open ≡ true → (x.transaction ≡ K.number) × ((r : ℕ) × OpenAt E K log x.part r)
  open-at x i is = elim (stand x i).state [
    | inl o ↦
        let e = told-opened E S F K x (stand x i) ∙ o.1.1 in
        let q = open-number E S.words.deployment now K log A x.part (stand x i).part x.transaction o.1.0 e in
        (q, (o.1.0, subst (λ m. (stage E x.part (log x.part)).opened ≡ Some (m, o.1.0)) q e))
    | inr o ↦ absurd (not-both x.is_open is o.0)
  ]

  -- One that has ended it told so.
  ended-told : (x : Heard) (i : In x told) (a : Outcome) → In (Done K.number a) (since K log x.part) → last_told x ≡ end_of K.number a
  ended-told x i a j = told-last E S F K x (stand x i) shut ∙ end-last E S.words.deployment now K log A x.part a part j
    where
      part : IsPart S x.part
      part = (stand x i).part

      split : stage E x.part (log x.part) ≡ stage_behind (stage E x.part (K.closed x.part)) (since K log x.part)
      split = stage-since E S.words.deployment now K log A x.part part

      shut : x.is_open ≡ false
      shut = false_from_ne_true x.is_open (λ o.
          let (r, e) = (open-at x i o).1 in
          opened-no-end (stage E x.part (K.closed x.part)) (since K log x.part) K.number r a (stage-sound (first_stage E x.part) (K.closed x.part) (first-sound E x.part))
          (formed-since E S.words.deployment now K log A x.part part) (ap (λ s. s.opened) (sym split) ∙ e) (A.over x.part part) j)

  -- ---- the outcome that is told first

  told-stands : Standing S.words.deployment K log (first_outcome K.number (map last_told told))
  told-stands = known-stands E S.words.deployment now K log A y.part (open-at y here still).1.0 (stand y here).part (open-at y here still).1.1 (map last_told told)
      (λ q a other j.
      let (x, i, at) = tells q other in
      subst (λ e. In e (map last_told told)) (ended-told x i a (subst (λ z. In (Done K.number a) (since K log z)) (sym at) j)) (in-map last_told x told i))
      (λ a j.
      let (x, i, e) = in-map-from last_told (end_of K.number a) told j in
      (x.part, (stand x i).part, sym (told-last E S F K x (stand x i) (last-shut x (K.number, a) e)) ∙ e))

  told-closing : Closing S.words.deployment K log (first_outcome K.number (map last_told told))
  told-closing = standing-closing E S.words.deployment now K log A (first_outcome K.number (map last_told told)) told-stands

  -- What covers all ends covers it.
  told-covered : (replies : List LastReply) → CoversAll S K replies → Covered replies (first_outcome K.number (map last_told told))
  told-covered replies covers = elim told-stands [
    | inl (dropped, none) ↦ subst (Covered replies) (sym dropped) tt
    | inr (q, other, i, call) ↦ let o = first_outcome K.number (map last_told told) in covers q K.number o other
        (subst (In (Done K.number o)) (sym (log-since E S.words.deployment now K log A q other)) (in-right (Done K.number o) (K.closed q) (since K log q) i))
  ]

  -- ---- the outcome with which it closes

  own-is : (x : Work) → JobOk K (Some x) → own_decision K.number (Some x) ≡ x.decision
  own-is x job = if-true (x.transaction == K.number) x.decision None (eq-eqb x.transaction K.number job.0)

  pub closing-ends : (work : Option Work) → JobOk K work → Closing S.words.deployment K log (closing_outcome K.number told (own_decision K.number work))
  closing-ends None job = told-closing
  closing-ends (Some x) job = subst (λ d. Closing S.words.deployment K log (closing_outcome K.number told d)) (sym (own-is x job)) (choice x.decision refl)
    where
      choice : (d : Option Outcome) → x.decision ≡ d → Closing S.words.deployment K log (closing_outcome K.number told d)
      choice None e = told-closing
      choice (Some o) e = inr (
        job.1 o e,
        λ q. open-no-snapshot E S.words.deployment now K log A y.part (open-at y here still).1.0 (stand y here).part (open-at y here still).1.1 (job.1 o e ∙ ap Some q),
      )

  -- and its own job ends so
  pub closing-job : (work : Option Work) → JobOk K work → (due : ℕ → ℕ → List Entry)
      → JobOk (record K { agreed = Some (closing_outcome K.number told (own_decision K.number work)); due = due }) work
  closing-job None job due = tt
  closing-job (Some x) job due = (job.0, λ o e. ap (λ z. Some (closing_outcome K.number told z)) (own-is x job ∙ e))

  -- It is covered by what covers all ends and its own decision.
  pub closing-covered : (work : Option Work) → JobOk K work → (replies : List LastReply) → CoversAll S K replies
      → ((x : Work) (o : Outcome) → work ≡ Some x → x.decision ≡ Some o → Covered replies o) → Covered replies (closing_outcome K.number told (own_decision K.number work))
  closing-covered None job replies covers decided = told-covered replies covers
  closing-covered (Some x) job replies covers decided =
      subst (λ d. Covered replies (closing_outcome K.number told d)) (sym (own-is x job)) (choice x.decision refl)
    where
      choice : (d : Option Outcome) → x.decision ≡ d → Covered replies (closing_outcome K.number told d)
      choice None e = told-covered replies covers
      choice (Some o) e = decided x o refl e
