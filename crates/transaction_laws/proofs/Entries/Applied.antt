-- Aligned logs in each of which a call stands once: it stands in one partition, or as one end in all that have it; and so it is in the logs
-- with which a recovery goes on.
use Rattle.call_laws.specs.Submissions.{Submissions}
use Rattle.transaction_laws.specs.Calls.{CallsOk, EntryAsked, OutcomeAsked, call_of, calls_of}
use Rattle.transaction_laws.proofs.Names.{Aborted, Aligned, Database, Deployment, Done, Dropped, Entry, Frag, In, IsCall, Kept, List, OfNumber, Outcome, Shown, Snapshot, Some, Sp, Transactions, [], all-at, ap, chosen, first_stage, in-cases, in-left, in-right, inl, inr, nat_lt, parts, point_in, recovered, refl, same-some, since, stage, subst, sym, true, ℕ, ◌++◌, ◌∙◌, ◌∷◌, ◌≡◌, ◌⊎◌}
use Rattle.transaction_laws.proofs.Entries.Machine.{first-sound, opened-no-end}
use Rattle.transaction_laws.proofs.Entries.Since.{log-since}
use Rattle.transaction_laws.proofs.Entries.Endings.{Standing}
use Rattle.transaction_laws.proofs.Entries.Aligned.{GoesOn, goes-on, goes_on, stands}
use Rattle.transaction_laws.proofs.Entries.Calls.{call-entry, end-part, kinds-apart, ok-more, same-entry}

-- an end that applies a call has a point
applied-point : (m n : ℕ) (o : Outcome) → In n (call_of (Done m o)) → (x : ℕ) × (point_in (Some o) ≡ Some x)
applied-point m n (Kept call client point reply) i = (point, refl)
applied-point m n (Aborted call client point reply) i = (point, refl)
applied-point m n Dropped i = absurd i
applied-point m n Snapshot i = absurd i

module _ (E : Database) (D : Deployment) (now : ℕ) (K : Transactions) (logs : ℕ → List Entry) (k : Aligned E D now K logs) (A : Submissions)
    (ok : (p : ℕ) → nat_lt p (parts D) ≡ true → CallsOk A p (logs p)) where
  -- the two are one end
  abbrev pub OneEnd : Entry → Entry → Type 0
  OneEnd x y = (x ≡ y) × (IsCall x → ⊥)

  -- where an end stands
  end-at : (p m : ℕ) (o : Outcome) → nat_lt p (parts D) ≡ true → In (Done m o) (logs p) → In (Done m o) (K.closed p) ⊎ ((m ≡ K.number) × (K.agreed ≡ Some o))
  end-at p m o part i = elim (in-cases (Done m o) (K.closed p) (since K logs p) (subst (In (Done m o)) (log-since E D now K logs k p part) i)) [
    | inl j ↦ inl j
    | inr j ↦
        let same : m ≡ K.number = all-at (OfNumber K.number) (since K logs p) (k.only p part) (Done m o) j in
        inr (same, k.ends p part o (subst (λ z. In (Done z o) (since K logs p)) same j))
  ]

  -- what is over has it in all
  over-in : (p q m n : ℕ) (o : Outcome) → nat_lt p (parts D) ≡ true → nat_lt q (parts D) ≡ true → In n (call_of (Done m o)) → In (Done m o) (K.closed p) → In (Done m o) (logs q)
  over-in p q m n o part other i j =
      let x = applied-point m n o i in
      subst (In (Done m o)) (sym (log-since E D now K logs k q other)) (in-left (Done m o) (K.closed q) (since K logs q) (k.even p q m x.0 o part other x.1 j))

  ends-alike : (p q n m i : ℕ) (o a : Outcome) → nat_lt p (parts D) ≡ true → nat_lt q (parts D) ≡ true → In (Done m o) (logs p) → In (Done i a) (logs q)
      → In n (call_of (Done m o)) → In n (call_of (Done i a)) → Done m o ≡ Done i a
  ends-alike p q n m i o a part other x y c d = elim (end-at p m o part x) [
    | inl over ↦ same-entry n (logs q) (ok q other).once (Done m o) (Done i a) (over-in p q m n o part other c over) y c d
    | inr (number, agreed) ↦ elim (end-at q i a other y) [
      | inl over ↦ same-entry n (logs p) (ok p part).once (Done m o) (Done i a) x (over-in q p i n a other part d over) c d
      | inr (same, there) ↦ λ z. Done ((number ∙ sym same) z) (same-some (sym agreed ∙ there) z)
    ]
  ]

  -- A call that entries of two logs apply is one end, or the logs are of one partition.
  pub applied-alike : (p q n : ℕ) (x y : Entry) → nat_lt p (parts D) ≡ true → nat_lt q (parts D) ≡ true → In x (logs p) → In y (logs q) → In n (call_of x) → In n (call_of y)
      → (p ≡ q) ⊎ OneEnd x y
  applied-alike p q n x y part other i j c d = go x y i j c d (all-at (EntryAsked A p) (logs p) (ok p part).asked x i) (all-at (EntryAsked A q) (logs q) (ok q other).asked y j)
    where
      go : (x y : Entry) → In x (logs p) → In y (logs q) → In n (call_of x) → In n (call_of y) → EntryAsked A p x → EntryAsked A q y → (p ≡ q) ⊎ OneEnd x y
      go (Frag m round body) y i j c d h u = absurd c
      go x (Frag m round body) i j c d h u = absurd d
      go (Sp n1 c1 p1 b1) (Sp n2 c2 p2 b2) i j (inl e) (inl f) h u =
          let s = same-some (sym h.is ∙ ap A (e ∙ sym f) ∙ u.is) in inl (same-some (ap (λ z. z.part) s))
      go (Sp n1 c1 p1 b1) (Done m o) i j c d h u = let r = end-part A q n (Done m o) u (λ z. z) d in absurd (kinds-apart A p n (Sp n1 c1 p1 b1) h tt c r.0 r.1 r.2)
      go (Done m o) (Sp n1 c1 p1 b1) i j c d h u = let r = end-part A p n (Done m o) h (λ z. z) c in absurd (kinds-apart A q n (Sp n1 c1 p1 b1) u tt d r.0 r.1 r.2)
      go (Done m o) (Done l a) i j c d h u = inr (ends-alike p q n m l o a part other i j c d, λ z. z)
      go (Sp n1 c1 p1 b1) (Sp n2 c2 p2 b2) i j (inr e) d h u = absurd e
      go (Sp n1 c1 p1 b1) (Sp n2 c2 p2 b2) i j c (inr e) h u = absurd e

  -- ---- with the end of the transaction that is open

  -- It stands in some log, so the logs in which it is open don't apply its call.
  standing-fresh : (p r q n : ℕ) (o : Outcome) → nat_lt p (parts D) ≡ true → (stage E p (logs p)).opened ≡ Some (K.number, r) → nat_lt q (parts D) ≡ true → In (Done K.number o) (logs q)
      → In n (call_of (Done K.number o)) → In n (calls_of (logs p)) → ⊥
  standing-fresh p r q n o part at other there c i =
      let x = call-entry n (logs p) i in
      elim (applied-alike p q n x.0 (Done K.number o) part other x.1 there x.2 c) [
        | inl same ↦ none (subst (λ z. In (Done K.number o) (logs z)) (sym same) there)
        | inr one ↦ none (subst (λ z. In z (logs p)) one.0 x.1)
      ]
    where
      none : In (Done K.number o) (logs p) → ⊥
      none j = opened-no-end (first_stage E p) (logs p) K.number r o (first-sound E p) (k.formed p part) at refl j

  standing-asked : (o : Outcome) → Standing D K logs o → OutcomeAsked A o
  standing-asked o (inl (dropped, none)) = subst (OutcomeAsked A) (sym dropped) tt
  standing-asked o (inr (q, other, i, call)) = all-at (EntryAsked A q) (logs q) (ok q other).asked (Done K.number o)
      (subst (In (Done K.number o)) (sym (log-since E D now K logs k q other)) (in-right (Done K.number o) (K.closed q) (since K logs q) i))

  ended-ok : (p r : ℕ) (o : Outcome) → nat_lt p (parts D) ≡ true → (stage E p (logs p)).opened ≡ Some (K.number, r) → Standing D K logs o → CallsOk A p (logs p ++ Done K.number o ∷ [])
  ended-ok p r o part at s = ok-more A p (logs p) (Done K.number o) (ok p part) (standing-asked o s) (fresh s)
    where
      fresh : Standing D K logs o → (n : ℕ) → In n (call_of (Done K.number o)) → In n (calls_of (logs p)) → ⊥
      fresh (inl (dropped, none)) n i j = absurd (subst (λ z. In n (call_of (Done K.number z))) dropped i)
      fresh (inr (q, other, i, call)) n c j = standing-fresh p r q n o part at other
          (subst (In (Done K.number o)) (sym (log-since E D now K logs k q other)) (in-right (Done K.number o) (K.closed q) (since K logs q) i)) c j

  pub goes-on-ok : (p : ℕ) (part : nat_lt p (parts D) ≡ true) → GoesOn E D now K logs k p → CallsOk A p (goes_on E D now K logs k p)
  goes-on-ok p part (inl (none, is)) = subst (CallsOk A p) (sym is) (ok p part)
  goes-on-ok p part (inr (r, at, is)) = subst (CallsOk A p) (sym is) (ended-ok p r _ part at (stands E D now K logs k p r part at))

-- Each log with which a recovery goes on has each call once.
pub recovered-ok : (E : Database) (D : Deployment) (now : ℕ) (K : Transactions) (shown : ℕ → Shown) → Aligned E D now K (chosen D shown) → (A : Submissions)
    → ((p : ℕ) → nat_lt p (parts D) ≡ true → CallsOk A p (chosen D shown p)) → (p : ℕ) → nat_lt p (parts D) ≡ true → CallsOk A p (recovered E D shown p)
recovered-ok E D now K shown k A ok p part =
    goes-on-ok E D now K (chosen D shown) k A ok p part (goes-on E D now K (chosen D shown) k p part (stage E p (chosen D shown p)).opened refl)
