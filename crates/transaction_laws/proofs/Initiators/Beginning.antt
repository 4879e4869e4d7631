-- An initiator begins a transaction: it sends the first round of a call, or the end of a snapshot, to all partitions.
use Rattle.volt_wire.specs.declared.message.Msg.TheVariants as msg
use Rattle.transaction_laws.proofs.Names.{parts, nat_lt, AgentState, Aligned, AllByRecursion, Blocks, Books, Bool, CallsOk, Covered, CoversAll, Database, Done, Entry, EntryAsked, Firm, Fits, Frag, FromLogs, HeardPart, In, Initiates, IsNew, IsOrder, IsPart, Job, Knows, LastReply, List, LogState, LogsHold, Membership, Msg, NoRound, None, OfNumber, OnlyCalls, Option, Outcome, OutcomeAsked, OutcomeOf, PhaseOk, Prefix, RepliesRise, RunCall, Snapshot, Some, Stage, Submissions, TakeSnapshot, Transactions, WellFormed, [], all-append, all-mono, ap, append_assoc, arith, begins, body_of_round, call_of, drop, false, first_stage, in-cases, inl, inr, known_of, led_log, length, new_work, next_stage, none-and-some, order_in, point_in, prefix-grows, refl, same-some, sending, since, stage, subst, sym, term_of, to_all_leaders, true, true≢false, whole, ℕ, ◌++◌, ◌<◌, ◌∙◌, ◌∷◌, ◌≡◌, ◌≤◌}
use Rattle.transaction_laws.proofs.Kept.{InitiatorActs, aligned-later, part-agreed}
use Rattle.transaction_laws.proofs.Entries.{ok-more, stage-append, formed-append, calls-of, calls-no-round, calls-no-end, since-more, calls-since}
use Rattle.transaction_laws.proofs.Initiators.Orders.{LaidOut, Once, books-once, due_with, due-more, due-kept, sends-goes}

-- ---- what is due from then on

-- behind the log of a partition to which it goes, the entry too
pub whole-to : (S : LogState) (K : Transactions) (to : ℕ → Bool) (e : Entry) (p : ℕ) → IsPart S p → to p ≡ true
    → led_log (S.logs.leadership p K.heard) ++ due_with S K to e p K.heard ≡ whole S K K.heard p ++ e ∷ []
whole-to S K to e p part t =
    ap (λ es. led_log (S.logs.leadership p K.heard) ++ es) (due-more S K to e p K.heard part t refl) ∙ sym (append_assoc (led_log (S.logs.leadership p K.heard)) (K.due p K.heard) (e ∷ []))

-- behind that of another one, what was
pub whole-else : (S : LogState) (K : Transactions) (to : ℕ → Bool) (e : Entry) (p : ℕ) → to p ≡ false
    → led_log (S.logs.leadership p K.heard) ++ due_with S K to e p K.heard ≡ whole S K K.heard p
whole-else S K to e p t = ap (λ es. led_log (S.logs.leadership p K.heard) ++ es) (due-kept S K to e p K.heard t)

-- ---- how a transaction begins

-- Its first entry, and the outcome that is sent with it: a round without one, or the end of a snapshot.
record Opens (m : ℕ) (e : Entry) (o : Option Outcome) : Type 0 where
  order : IsOrder e
  of : OfNumber m e
  fits : (s : Stage) → s.opened ≡ None → s.number < m → Fits s e
  point : (s : Stage) → (next_stage s e).point ≡ s.point
  ends : (q : Outcome) → e ≡ Done m q → o ≡ Some q
  round : o ≡ Some Snapshot → NoRound e
  none : point_in o ≡ None
  -- it applies no call
  asked : (A : Submissions) (p : ℕ) → EntryAsked A p e
  calls : (n : ℕ) → In n (call_of e) → ⊥
  outcome : (A : Submissions) (q : Outcome) → o ≡ Some q → OutcomeAsked A q × ((n : ℕ) → In n (call_of (Done m q)) → ⊥)
  covered : (replies : List LastReply) (k : ℕ) (q : Outcome) → e ≡ Done k q → Covered replies q

round-opens : (m : ℕ) (body : List ℕ) → Opens m (Frag m 1 body) None
round-opens m body = record {
  order = tt;
  of = refl;
  fits = λ s e l. inl (e, l, refl);
  point = λ s. refl;
  ends = λ q e. absurd (cc);
  round = λ e. absurd (cc);
  none = refl;
  asked = λ A p. tt;
  calls = λ n i. i;
  outcome = λ A q e. absurd (cc);
  covered = λ replies k q e. absurd (cc);
}

snapshot-opens : (m : ℕ) → Opens m (Done m Snapshot) (Some Snapshot)
snapshot-opens m = record {
  order = tt;
  of = refl;
  fits = λ s e l. (e, l);
  point = λ s. refl;
  ends = λ q e. cc;
  round = λ e. tt;
  none = refl;
  asked = λ A p. tt;
  calls = λ n i. i;
  outcome = λ A q e. subst (λ z. OutcomeAsked A z × ((n : ℕ) → In n (call_of (Done m z)) → ⊥)) (same-some e) (tt, λ n i. i);
  covered = λ replies k q e. let is : Snapshot ≡ q = cc in subst (Covered replies) is tt;
}

-- ---- where all is at rest

-- In the term that was heard nothing is due, and behind what is over stand only calls on one partition.
abbrev pub AtRest : LogState → Transactions → Type 0
AtRest S K = (p : ℕ) → IsPart S p → (K.due p K.heard ≡ []) × OnlyCalls (since K (whole S K K.heard) p)

-- the history once this entry is sent to all
abbrev begun_with : LogState → Transactions → ℕ → Entry → Option Outcome → Transactions
begun_with S K m e o = record K { number = m; agreed = o; due = due_with S K (λ q. nat_lt q (parts S.words.deployment)) e }

module _ (E : Database) (S : LogState) (F : Firm) (K : Transactions) (now : ℕ) (B : Books E S F K now) (m : ℕ) (next : K.number < m) (e : Entry) (o : Option Outcome)
    (k : Opens m e o) (rest : AtRest S K) where
  abbrev after : Transactions
  after = begun_with S K m e o

  abbrev log : ℕ → List Entry
  log = whole S K K.heard

  A : Aligned E S.words.deployment now K log
  A = B.heard.aligned

  whole-is : (p : ℕ) → IsPart S p → whole S after after.heard p ≡ log p ++ e ∷ []
  whole-is p part = whole-to S K (λ q. nat_lt q (parts S.words.deployment)) e p part part

  stage-is : (p : ℕ) → IsPart S p → stage E p (whole S after after.heard p) ≡ next_stage (stage E p (log p)) e
  stage-is p part = ap (stage E p) (whole-is p part) ∙ stage-append (first_stage E p) (log p) (e ∷ [])

  since-is : (p : ℕ) → IsPart S p → since after (whole S after after.heard) p ≡ since K log p ++ e ∷ []
  since-is p part = ap (drop (length (K.closed p))) (whole-is p part) ∙ since-more E S.words.deployment now K log A p part (e ∷ [])

  inert : (p : ℕ) → IsPart S p → ((stage E p (log p)).opened ≡ None) × ((stage E p (log p)).number ≡ (stage E p (K.closed p)).number)
  inert p part = calls-since E S.words.deployment now K log A p part (rest p part).1

  fits : (p : ℕ) → IsPart S p → Fits (stage E p (log p)) e
  fits p part = let q = inert p part in let b = A.below p part in k.fits (stage E p (log p)) q.0 (omega (arith, q.1, b, next))

  formed : (p : ℕ) → IsPart S p → WellFormed (first_stage E p) (whole S after after.heard p)
  formed p part = subst (WellFormed (first_stage E p)) (sym (whole-is p part))
      (formed-append (first_stage E p) (log p) (e ∷ []) (A.formed p part) (fits p part, tt))

  ends : (p : ℕ) → IsPart S p → (q : Outcome) → In (Done m q) (since after (whole S after after.heard) p) → o ≡ Some q
  ends p part q i = elim (in-cases (Done m q) (since K log p) (e ∷ []) (subst (In (Done m q)) (since-is p part) i)) [
    | inl c ↦ absurd (calls-no-end (since K log p) m q (rest p part).1 c)
    | inr (inl is) ↦ k.ends q is
    | inr (inr none) ↦ absurd none
  ]

  aligned : Aligned E S.words.deployment now after (whole S after after.heard)
  aligned = record {
    formed = formed;
    past = λ p part. let x = A.past p part in let y = ap (λ s. s.point) (stage-is p part) in let z = k.point (stage E p (log p)) in omega (arith, x, y, z);
    prefix = λ p part. subst (Prefix (K.closed p)) (sym (whole-is p part)) (prefix-grows (K.closed p) (log p) (e ∷ []) (A.prefix p part));
    over = A.over;
    below = λ p part. let x = A.below p part in omega (arith, x, next);
    only = λ p part. subst (AllByRecursion (OfNumber m)) (sym (since-is p part))
        (all-append (OfNumber m) (since K log p) (e ∷ []) (calls-of m (since K log p) (rest p part).1) (k.of, tt));
    fresh = λ p q part _ same. let x = A.below p part in absurd (omega (arith, x, next, same));
    ends = ends;
    snapshot = λ p part is. subst (AllByRecursion NoRound) (sym (since-is p part))
        (all-append NoRound (since K log p) (e ∷ []) (calls-no-round (since K log p) (rest p part).1) (k.round is, tt));
    decided = λ p x part is. absurd (none-and-some k.none is);
    agreed = λ x is. absurd (none-and-some k.none is);
    even = A.even;
  }

  each : (p : ℕ) → IsPart S p → HeardPart S F after p
  each p part = part-agreed S F K m o K.decided after.due p (B.heard.each p part) (λ x is. absurd (none-and-some k.none is))

  -- Each call stands once, still.
  once : Once E S after
  once = let b = books-once E S F K now B in record {
    calls = λ p part. subst (CallsOk K.submitted p) (sym (whole-is p part))
        (ok-more K.submitted p (log p) e (b.calls p part) (k.asked K.submitted p) (λ n i _. k.calls n i));
    ends = λ q is. let r = k.outcome K.submitted q is in record {
      asked = r.0;
      unapplied = λ n i p part _. r.1 n i;
      new = λ p part same. let x = A.below p part in absurd (omega (arith, x, next, same));
    };
  }

  -- What an initiator knows covers all.
  covers : (replies : List LastReply) → CoversAll S K replies → CoversAll S after replies
  covers replies c p i q part j = elim (in-cases (Done i q) (log p) (e ∷ []) (subst (In (Done i q)) (whole-is p part) j)) [
    | inl old ↦ c p i q part old
    | inr (inl is) ↦ k.covered replies i q is
    | inr (inr none) ↦ absurd none
  ]

-- ---- the turn

module _ (E : Database) (S : LogState) (F : Firm) (K : Transactions) (now stamp n : ℕ) (w : Membership) (lay : LaidOut S) (H : LogsHold S) (B : Books E S F K now) (l : now ≤ stamp)
    (i : Initiates S n w) (a : AgentState) (word : a.decided ≡ Some w) (heard : K.heard ≡ term_of w) (next : K.number < a.initiating.next) (rest : AtRest S K) where
  abbrev m : ℕ
  m = a.initiating.next

  -- It sends this to all leaders.
  begun-goes : (b : AgentState) (e : Entry) (o : Option Outcome) → Opens m e o → (x : Msg Blocks) → order_in x ≡ e ∷ [] → b.start ≡ a.start → b.decided ≡ a.decided → b.waiting ≡ a.waiting
      → PhaseOk E S F (begun_with S K m e o) (term_of w) b b.initiating.phase → Knows S F (begun_with S K m e o) b.initiating
      → InitiatorActs E S F K stamp n w a (sending b (to_all_leaders S.words.deployment a.decided x))
  begun-goes b e o k x is start decided waiting = sends-goes E S F K (begun_with S K m e o) now stamp n w lay H B l i heard a b x e (λ q. nat_lt q (parts S.words.deployment)) (to_all_leaders S.words.deployment a.decided x)
      (ap (λ d. to_all_leaders S.words.deployment d x) word) is k.order refl refl (λ p part t. (rest p part).0) (each E S F K now B m next e o k rest)
      (aligned-later E S.words.deployment now stamp l (begun_with S K m e o) (whole S (begun_with S K m e o) K.heard) (aligned E S F K now B m next e o k rest))
      (once E S F K now B m next e o k rest) refl start decided waiting

  -- The call is new, by what it knows of all that were applied.
  pub begins-goes : (job : Job) → RepliesRise a.initiating.replies → CoversAll S K a.initiating.replies → AllByRecursion (FromLogs S F K.submitted K.heard) a.initiating.replies → known_of job a.initiating.replies ≡ IsNew → InitiatorActs E S F K stamp n w a (begins E S.words.deployment a job)
  begins-goes (RunCall call client host from body) rise all logs new =
      let first = body_of_round (E.asks body []) in
      let e = Frag m 1 first in
      let k = round-opens m first in
      let work = new_work (RunCall call client host from body) m in
      begun-goes (begins E S.words.deployment a (RunCall call client host from body)).state e None k (msg.Frag m 1 first) refl refl refl refl (
        heard,
        omega arith,
        (work, refl, (refl, λ d is. absurd (cc)), (refl, λ p part. (ap (λ s. s.opened) (stage-is E S F K now B m next e None k rest p part), λ none. absurd (true≢false (sym none))))),
      ) (record {
        rise = rise;
        covers = covers E S F K now B m next e None k rest a.initiating.replies all;
        decided = λ x d is decision. absurd (none-and-some refl (ap (λ z. z.decision) (same-some is) ∙ decision));
        fresh = λ x _ is none. ap (λ z. known_of z.job a.initiating.replies) (sym (same-some is)) ∙ new;
        from = all-mono _ _ (λ r. inl) a.initiating.replies logs;
        first = λ z. absurd (omega (arith, z));
        outcome = λ x d is decision. absurd (none-and-some refl (ap (λ z. z.decision) (same-some is) ∙ decision));
      })
  begins-goes TakeSnapshot rise all logs new =
      let e = Done m Snapshot in
      let k = snapshot-opens m in
      let work = record (new_work TakeSnapshot m) { decision = Some Snapshot } in
      begun-goes (begins E S.words.deployment a TakeSnapshot).state e (Some Snapshot) k (msg.Done m Snapshot) refl refl refl refl (
        heard,
        omega arith,
        (
          work,
          refl,
          (refl, λ q is. is),
          λ p part. let s = stage-is E S F K now B m next e (Some Snapshot) k rest p part in ((ap (λ s. s.opened) s, ap (λ s. s.number) s), λ none. absurd (true≢false (sym none))),
        ),
      ) (record {
        rise = rise;
        covers = covers E S F K now B m next e (Some Snapshot) k rest a.initiating.replies all;
        decided = λ x d is decision. subst (Covered a.initiating.replies) (same-some (ap (λ z. z.decision) (same-some is) ∙ decision)) tt;
        fresh = λ x _ is none. absurd (none-and-some none (ap (λ z. z.decision) (sym (same-some is))));
        from = all-mono _ _ (λ r. inl) a.initiating.replies logs;
        first = λ z. absurd (omega (arith, z));
        outcome = λ x d is decision. subst (λ z. OutcomeOf z.job d) (same-some is) tt;
      })
