-- An initiator that has heard of all partitions closes what is open in some, and then goes on.
use Rattle.volt_wire.specs.declared.message.Msg.TheVariants as msg
use Rattle.transaction_laws.proofs.Names.{AgentState, Aligned, AllByRecursion, Books, Bool, CallsOk, Covered, CoversAll, Database, Done, Entry, EntryAsked, Firm, Frag, Heard, HeardPart, In, Initiates, IsEnded, IsPart, JobOk, KnownReply, LastReply, List, LogState, LogsHold, MayEnd, Membership, None, OfNumber, Option, Outcome, OutcomeAsked, OutcomeOf, RepliesRise, Settled, Some, Sp, Transactions, Work, [], all-at, call_of, calls_of, and_from, and_parts, ap, arith, cases_Bool, closes_open, closing_outcome, done_to, eq-eqb, false, false_from_ne_true, filter, filter-in, first_stage, in-filter, in-cases, in-is_in, in-map, in-map-from, inl, inr, is_in, is_in-in, none-and-some, not-both, open_parts, open_told, own_decision, refl, same-some, since, stage, subst, sym, term_of, true, true≢false, whole, ℕ, ◌&&◌, ◌++◌, ◌<◌, ◌==◌, ◌∙◌, ◌∷◌, ◌≡◌, ◌≤◌, ◌⊎◌}
use Rattle.transaction_laws.proofs.Kept.{InitiatorActs, aligned-later, part-agreed, settled-with}
use Rattle.transaction_laws.proofs.Entries.{call-entry, calls-since, end-part, entry-call, first-sound, formed-since, kinds-apart, log-since, ok-more, opened-no-end, stage-append, stage-since, stage-sound, OpenAt, Closing, EndsOrSame, closing-point, aligned-ended}
use Rattle.transaction_laws.proofs.Initiators.Orders.{LaidOut, Once, books-once, due_with, due-kept, sends-goes}
use Rattle.transaction_laws.proofs.Initiators.Beginning.{whole-to, whole-else}
use Rattle.transaction_laws.proofs.Initiators.Settling.{settled-logs, settles-goes}
use Rattle.transaction_laws.proofs.Initiators.Answering.{JobsAsked}
use Rattle.transaction_laws.proofs.Initiators.Told.{ToldIs, open-some, open-none, told-settled}
use Rattle.transaction_laws.proofs.Initiators.Outcomes.{open-at, closing-covered, closing-ends, closing-job}

-- ---- the history once the end is sent to where the transaction is open

-- It is open in partition p, and nothing is due.
module _ (E : Database) (S : LogState) (F : Firm) (K : Transactions) (now : ℕ) (B : Books E S F K now) (p r : ℕ) (part : IsPart S p)
    (at : OpenAt E K (whole S K K.heard) p r)
    (o : Outcome) (c : Closing S.words.deployment K (whole S K K.heard) o) (to : ℕ → Bool)
    (opened : (q : ℕ) → IsPart S q → to q ≡ true → (r : ℕ) × OpenAt E K (whole S K K.heard) q r)
    (none : (q : ℕ) → IsPart S q → K.due q K.heard ≡ []) where
  abbrev e : Entry
  e = Done K.number o

  abbrev after : Transactions
  after = record K { agreed = Some o; due = due_with S K to e }

  abbrev log : ℕ → List Entry
  log = whole S K K.heard

  either : (q : ℕ) → IsPart S q → EndsOrSame E K log o (whole S after after.heard) q
  either q other = elim (cases_Bool (to q)) [
    | inl y ↦ let (s, is) = opened q other y in inr (s, is, whole-to S K to e q other y)
    | inr n ↦ inl (whole-else S K to e q n)
  ]

  aligned : Aligned E S.words.deployment now after (whole S after after.heard)
  aligned = aligned-ended E S.words.deployment now K log B.heard.aligned p r part at o c (whole S after after.heard) either after.due

  each : (q : ℕ) → IsPart S q → HeardPart S F after q
  each q other = let h = B.heard.each q other in
      part-agreed S F K K.number (Some o) K.decided after.due q h (λ x is. h.decided x (closing-point E S.words.deployment now K log B.heard.aligned o c x is))

  -- Each call stands once, still: where it is open its end doesn't stand yet, and no end before is of its call.
  closing-asked : OutcomeAsked K.submitted o
  closing-asked = elim c [ inl (dropped, nowhere) ↦ subst (OutcomeAsked K.submitted) (sym dropped) tt | inr (agreed, d) ↦ (B.heard.ends o agreed).asked ]

  closing-unapplied : (n : ℕ) → In n (call_of e) → (q : ℕ) → IsPart S q → In n (calls_of (K.closed q)) → ⊥
  closing-unapplied n i q other j = elim c [
    | inl (dropped, nowhere) ↦ absurd (subst (λ z. In n (call_of (Done K.number z))) dropped i)
    | inr (agreed, d) ↦ (B.heard.ends o agreed).unapplied n i q other j
  ]

  fresh-there : (q : ℕ) (other : IsPart S q) → to q ≡ true → (n : ℕ) → In n (call_of e) → In n (calls_of (log q)) → ⊥
  fresh-there q other y n i j = elim (in-cases x.0 (K.closed q) (since K log q) (subst (In x.0) split x.1)) [
    | inl a ↦ closing-unapplied n i q other (entry-call n x.0 (K.closed q) a x.2)
    | inr a ↦ behind x.0 (all-at (EntryAsked K.submitted q) (log q) ok.asked x.0 x.1) x.2 (all-at (OfNumber K.number) (since K log q) (B.heard.aligned.only q other) x.0 a) a
  ]
    where
      ok : CallsOk K.submitted q (log q)
      ok = (books-once E S F K now B).calls q other

      x : (x : Entry) × In x (log q) × In n (call_of x)
      x = call-entry n (log q) j

      split : log q ≡ K.closed q ++ since K log q
      split = log-since E S.words.deployment now K log B.heard.aligned q other

      behind : (z : Entry) → EntryAsked K.submitted q z → In n (call_of z) → OfNumber K.number z → In z (since K log q) → ⊥
      behind (Sp call client point body) asked h m a =
          let r = end-part K.submitted q n e closing-asked (λ k. k) i in kinds-apart K.submitted q n (Sp call client point body) asked tt h r.0 r.1 r.2
      behind (Frag m round body) asked h k a = h
      behind (Done m d) asked h k a =
          let (r, is) = opened q other y in
          opened-no-end (stage E q (K.closed q)) (since K log q) K.number r d (stage-sound (first_stage E q) (K.closed q) (first-sound E q))
          (formed-since E S.words.deployment now K log B.heard.aligned q other) (ap (λ s. s.opened) (sym (stage-since E S.words.deployment now K log B.heard.aligned q other)) ∙ is)
          (B.heard.aligned.over q other) (subst (λ z. In (Done z d) (since K log q)) k a)

  once : Once E S after
  once = record {
    calls = λ q other. let ok = (books-once E S F K now B).calls q other in elim (cases_Bool (to q)) [
      | inl y ↦ subst (CallsOk K.submitted q) (sym (whole-to S K to e q other y)) (ok-more K.submitted q (log q) e ok closing-asked (fresh-there q other y))
      | inr n ↦ subst (CallsOk K.submitted q) (sym (whole-else S K to e q n)) ok
    ];
    ends = λ z is. subst (MayEnd E S after) (same-some is) (record {
      asked = closing-asked;
      unapplied = closing-unapplied;
      new = λ q other same. none-and-some (calls-since E S.words.deployment now K log B.heard.aligned p part (B.heard.aligned.fresh q p other part same)).0 at;
    });
  }

  -- What covers all ends and this one covers all then.
  covers : (replies : List LastReply) → Covered replies o → CoversAll S K replies → CoversAll S after replies
  covers replies here k q m z other i = elim (cases_Bool (to q)) [
    | inl y ↦ elim (in-cases (Done m z) (log q) (e ∷ []) (subst (In (Done m z)) (whole-to S K to e q other y) i)) [
      | inl j ↦ k q m z other j
      | inr (inl is) ↦ let same : o ≡ z = cc in subst (Covered replies) same here
      | inr (inr j) ↦ absurd j
    ]
    | inr n ↦ k q m z other (subst (In (Done m z)) (whole-else S K to e q n) i)
  ]

  -- There it ends, once it is taken.
  closed-ended : (q : ℕ) → IsPart S q → to q ≡ true → IsEnded E S after q
  closed-ended q other y = let s = ap (stage E q) (whole-to S K to e q other y) ∙ stage-append (first_stage E q) (log q) (e ∷ []) in (ap (λ s. s.opened) s, ap (λ s. s.number) s)

  -- Elsewhere what is settled stays so.
  still-settled : (q : ℕ) → to q ≡ false → Settled E S F K q → Settled E S F after q
  still-settled q n s = settled-with E S F K after q refl (due-kept S K to e q K.heard n ∙ s.none) s

-- ---- the turn

-- the partitions that told it open
in-open : (m : ℕ) (told : List Heard) (p : ℕ) → is_in p (open_parts m told) ≡ true → (x : Heard) × In x told × (x.is_open ≡ true) × (x.part ≡ p)
in-open m told p is =
    let r = in-map-from (λ t. t.part) p (filter (λ t. t.is_open && t.transaction == m) told) (is_in-in p (open_parts m told) is) in
    let k = in-filter (λ t. t.is_open && t.transaction == m) r.0 told r.1 in
    (r.0, k.0, (and_parts r.0.is_open (r.0.transaction == m) k.1).0, r.2)

open-in : (m : ℕ) (told : List Heard) (x : Heard) → In x told → x.is_open ≡ true → x.transaction ≡ m → is_in x.part (open_parts m told) ≡ true
open-in m told x i is q = in-is_in x.part (open_parts m told)
    (in-map (λ t. t.part) x (filter (λ t. t.is_open && t.transaction == m) told) (filter-in (λ t. t.is_open && t.transaction == m) x told i (and_from x.is_open (x.transaction == m) is (eq-eqb x.transaction m q))))

-- `a` is the agent as the turn has it by then. It has heard of all partitions.
module _ (E : Database) (S : LogState) (F : Firm) (K : Transactions) (now stamp n : ℕ) (w : Membership) (lay : LaidOut S) (H : LogsHold S) (B : Books E S F K now) (l : now ≤ stamp)
    (i : Initiates S n w) (a : AgentState) (start : a.start ≡ (S.words.agents n).start) (word : a.decided ≡ Some w) (heard : K.heard ≡ term_of w) (next : K.number < a.initiating.next)
    (job : JobOk K a.initiating.work) (told : List Heard) (stand : (x : Heard) → In x told → ToldIs E S F K x)
    (tells : (p : ℕ) → IsPart S p → (x : Heard) × In x told × (x.part ≡ p)) (rise : RepliesRise a.initiating.replies) (covered : CoversAll S K a.initiating.replies)
    (decided : (x : Work) (o : Outcome) → a.initiating.work ≡ Some x → x.decision ≡ Some o → Covered a.initiating.replies o)
    (known : AllByRecursion (KnownReply S F K.submitted K.heard a.initiating.work) a.initiating.replies) (asks : JobsAsked K.submitted a.initiating)
    (outcome : (x : Work) (o : Outcome) → a.initiating.work ≡ Some x → x.decision ≡ Some o → OutcomeOf x.job o) where
  none : (p : ℕ) → IsPart S p → K.due p K.heard ≡ []
  none p part = let (x, j, at) = tells p part in subst (λ q. K.due q K.heard ≡ []) at (stand x j).none

  -- what isn't told open is settled
  settled : (p : ℕ) → IsPart S p → ((x : Heard) → In x told → x.part ≡ p → x.is_open ≡ false) → Settled E S F K p
  settled p part shut = let (x, j, at) = tells p part in subst (Settled E S F K) at (told-settled E S F K x (stand x j) (shut x j at))

  -- ---- where a partition told that the last transaction is open

  module _ (y : Heard) (here : In y told) (still : y.is_open ≡ true) where
    abbrev o : Outcome
    o = closing_outcome K.number told (own_decision K.number a.initiating.work)

    abbrev to : ℕ → Bool
    to p = is_in p (open_parts K.number told)

    abbrev closed : Transactions
    closed = record K { agreed = Some o; due = due_with S K to (Done K.number o) }

    ends : Closing S.words.deployment K (whole S K K.heard) o
    ends = closing-ends E S F K now B told stand tells y here still a.initiating.work job

    at : (r : ℕ) × OpenAt E K (whole S K K.heard) y.part r
    at = (open-at E S F K now B told stand tells y here still y here still).1

    opened : (p : ℕ) → IsPart S p → to p ≡ true → (r : ℕ) × OpenAt E K (whole S K K.heard) p r
    opened p part is = let (x, j, o, at) = in-open K.number told p is in
        subst (λ q. (r : ℕ) × OpenAt E K (whole S K K.heard) q r) at (open-at E S F K now B told stand tells y here still x j o).1

    -- each partition ends it, or is settled
    each-closes : (p : ℕ) → IsPart S p → (to p ≡ true → IsEnded E S closed p) × ((to p ≡ false) ⊎ (is_in p [] ≡ true) → Settled E S F closed p)
    each-closes p part = (closed-ended E S F K now B y.part at.0 (stand y here).part at.1 o ends to opened none p part, either)
      where
        shut : to p ≡ false → (x : Heard) → In x told → x.part ≡ p → x.is_open ≡ false
        shut out x j at = false_from_ne_true x.is_open (λ o. not-both (to p)
            (subst (λ q. to q ≡ true) at (open-in K.number told x j o (open-at E S F K now B told stand tells y here still x j o).0)) out)

        either : (to p ≡ false) ⊎ (is_in p [] ≡ true) → Settled E S F closed p
        either (inl out) = still-settled E S F K now B y.part at.0 (stand y here).part at.1 o ends to opened none p out (settled p part (shut out))
        either (inr never) = absurd (true≢false (sym never))

    closes-goes : InitiatorActs E S F K stamp n w a (closes_open E S.words.deployment n a told (Some K.number))
    closes-goes = let parts = open_parts K.number told in sends-goes E S F K closed now stamp n w lay H B l i heard a (closes_open E S.words.deployment n a told (Some K.number)).state
        (msg.Done K.number o) (Done K.number o) to (done_to S.words.deployment a.decided parts K.number o) (ap (λ d. done_to S.words.deployment d parts K.number o) word) refl tt refl refl
        (λ p part _. none p part) (each E S F K now B y.part at.0 (stand y here).part at.1 o ends to opened none)
        (aligned-later E S.words.deployment now stamp l closed (whole S closed K.heard) (aligned E S F K now B y.part at.0 (stand y here).part at.1 o ends to opened none))
        (once E S F K now B y.part at.0 (stand y here).part at.1 o ends to opened none) refl refl refl refl
        (heard, refl, closing-job E S F K now B told stand tells y here still a.initiating.work job closed.due, next, each-closes)
        (record {
          rise = rise;
          covers = covers E S F K now B y.part at.0 (stand y here).part at.1 o ends to opened none a.initiating.replies
              (closing-covered E S F K now B told stand tells y here still a.initiating.work job a.initiating.replies covered decided) covered;
          decided = decided;
          fresh = λ x works. absurd (cc);
          from = known;
          first = λ z. absurd (omega (arith, z, next));
          outcome = outcome;
        })

  -- It closes what is open, or goes on.
  pub closes_open-goes : InitiatorActs E S F K stamp n w a (closes_open E S.words.deployment n a told (open_told told))
  closes_open-goes = choice (open_told told) refl
    where
      choice : (m : Option ℕ) → open_told told ≡ m → InitiatorActs E S F K stamp n w a (closes_open E S.words.deployment n a told m)
      choice None is =
          let all : (p : ℕ) → IsPart S p → Settled E S F K p = λ p part. settled p part (λ x j _. open-none told is x j) in
          settles-goes E S F K now stamp n w lay H B l i a start word heard next all rise covered
          (settled-logs E S F K now B all lay a.initiating.work job a.initiating.replies known) asks.0 job asks.1 outcome
      choice (Some m) is =
          let (y, here, o, at) = open-some told m is in
          let number = sym (open-at E S F K now B told stand tells y here o y here o).0 ∙ at in
          subst (λ z. InitiatorActs E S F K stamp n w a (closes_open E S.words.deployment n a told (Some z))) number (closes-goes y here o)
