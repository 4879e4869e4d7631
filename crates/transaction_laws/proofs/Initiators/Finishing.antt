-- An initiator hears that the end of a transaction stands in a partition for good.
use Rattle.transaction_laws.proofs.Names.{AgentState, AllByRecursion, AtHand, Books, Closes, CoversAll, CoversIn, Database, Done, Entry, Everywhere, Firm, Hears, Idle, Initiates, IsCall, IsEnded, IsPart, JobOk, KnownReply, Knows, LastReply, List, LogState, LogsHold, Membership, None, Off, OnlyCalls, Option, Outcome, OutcomeOf, Phase, PhaseOk, Settled, Some, Stood, Transactions, Turn, WellFormed, Work, Works, [], all-behind, all-first, all-mono, all_finished, all_parts, ap, append_assoc, arith, becomes, cases_Bool, end_of, ends_job, eqb-true, false, first_stage, front_rest, if◌then◌else◌, inl, inr, is_in, is_in-in, led_log, length_push, list_all-at, none-and-some, on_finished, or_cases, refl, same-some, settles, stage, subst, sym, term_of, true, whole, with_phase, with_work, ℕ, ◌++◌, ◌<◌, ◌==◌, ◌∙◌, ◌∷◌, ◌≡◌, ◌≤◌, ◌⊎◌}
use Rattle.transaction_laws.proofs.Kept.{InitiatorActs}
use Rattle.transaction_laws.proofs.Entries.{first-sound, stage-append, done-last, part-in, due-calls}
use Rattle.transaction_laws.proofs.Initiators.Orders.{LaidOut}
use Rattle.transaction_laws.proofs.Initiators.Turns.{goes-still, goes-from, goes-if}
use Rattle.transaction_laws.proofs.Initiators.Answering.{JobsAsked}
use Rattle.transaction_laws.proofs.Initiators.Settling.{decided-answered, ends_job-goes, settled-logs, settles-goes}

-- ---- where the last transaction ends, and its end stands for good

module _ (E : Database) (S : LogState) (F : Firm) (K : Transactions) (now : ℕ) (B : Books E S F K now) (p : ℕ) (part : IsPart S p) (e : IsEnded E S K p)
    (o : Outcome) (d : Stood S F p K.heard (Done K.number o)) where
  abbrev due : List Entry
  due = K.due p K.heard

  abbrev prefix : List Entry
  prefix = d.stands.prefix

  abbrev more : List Entry
  more = d.stands.stands.0

  whole-is : whole S K K.heard p ≡ prefix ++ Done K.number o ∷ (more ++ due)
  whole-is =
      ap (λ r. led_log r ++ due) d.led ∙ ap (λ xs. xs ++ due) d.stands.stands.1
      ∙ append_assoc (prefix ++ Done K.number o ∷ []) more due ∙ append_assoc prefix (Done K.number o ∷ []) (more ++ due)

  -- behind it stand only calls
  behind : OnlyCalls (more ++ due)
  behind = done-last (first_stage E p) prefix (more ++ due) K.number o (first-sound E p)
      (subst (WellFormed (first_stage E p)) whole-is (B.heard.aligned.formed p part)) (ap (λ xs. (stage E p xs).number) (sym whole-is) ∙ e.1)

  -- All is settled there.
  ended-settled : Settled E S F K p
  ended-settled = record {
    none = due-calls S K p K.heard (B.due p K.heard) (all-behind IsCall more due behind);
    leadership = d.leadership;
    led = d.led;
    prefix = prefix ++ Done K.number o ∷ [];
    stands = d.stands.stands;
    calls = subst OnlyCalls (sym (front_rest d.leadership.log (prefix ++ Done K.number o ∷ []) more d.stands.stands.1))
        (all-first IsCall more due behind);
    everywhere = subst (Everywhere S F p K.heard) (sym (length_push prefix (Done K.number o) ∙ d.stands.at)) d.everywhere;
    over = ap (λ s. s.opened) (stage-append (first_stage E p) prefix (Done K.number o ∷ []));
  }

-- with one partition more in which it is finished
abbrev more_done : ℕ → Work → Work
more_done p x = record x { finished = p ∷ x.finished }

-- and of that this holds too
more-finished : (P : ℕ → Type 0) (p q : ℕ) (finished : List ℕ) → P p → (is_in q finished ≡ true → P q) → is_in q (p ∷ finished) ≡ true → P q
more-finished P p q finished k h is = elim (or_cases (p == q) (is_in q finished) is) [ inl same ↦ subst P (eqb-true p q same) k | inr before ↦ h before ]

-- ---- the turn

-- `a` is an initiator with this word, to which the leader of partition p says that the end of transaction m stands in its log for good.
module _ (E : Database) (S : LogState) (F : Firm) (K : Transactions) (now stamp n : ℕ) (w : Membership) (lay : LaidOut S) (H : LogsHold S) (B : Books E S F K now) (l : now ≤ stamp)
    (i : Initiates S n w) (a : AgentState) (start : a.start ≡ (S.words.agents n).start) (word : a.decided ≡ Some w) (k : PhaseOk E S F K (term_of w) a a.initiating.phase)
    (knows : Knows S F K a.initiating) (asks : JobsAsked K.submitted a.initiating) (p m : ℕ) (part : IsPart S p) (stood : (o : Outcome) × Stood S F p (term_of w) (Done m o)) where
  -- It is of no interest.
  still : InitiatorActs E S F K stamp n w a (becomes a)
  still = goes-still E S F K stamp n w a now a B l refl refl refl k knows

  -- In the partition all is settled, where its last transaction ends and that is this one.
  settled-now : K.heard ≡ term_of w → m ≡ K.number → IsEnded E S K p → Settled E S F K p
  settled-now heard is ended = ended-settled E S F K now B p part ended stood.0
      (subst (λ t. Stood S F p t (Done K.number stood.0)) (sym heard) (subst (λ x. Stood S F p (term_of w) (Done x stood.0)) is stood.1))

  -- ---- where it closes

  module _ (closing : ℕ) (closed finished : List ℕ) (phase : a.initiating.phase ≡ Closes closing closed finished) (c : PhaseOk E S F K (term_of w) a (Closes closing closed finished)) where
    covers-all : CoversAll S K a.initiating.replies
    covers-all = subst (CoversIn S K a.initiating.replies) phase knows.covers

    now-settled : m ≡ K.number → Settled E S F K p
    now-settled is = elim (cases_Bool (is_in p closed)) [ inl is-in ↦ settled-now c.0 is ((c.4 p part).0 is-in) | inr out ↦ (c.4 p part).1 (inl out) ]

    settled-if : m ≡ K.number → (q : ℕ) → IsPart S q → is_in q (p ∷ finished) ≡ true → Settled E S F K q
    settled-if is q other = more-finished (Settled E S F K) p q finished (now-settled is) (λ before. (c.4 q other).1 (inr before))

    settled-all : m ≡ K.number → all_finished closed (p ∷ finished) ≡ true → (q : ℕ) → IsPart S q → Settled E S F K q
    settled-all is all q other = elim (cases_Bool (is_in q closed)) [
      | inl is-in ↦ settled-if is q other (list_all-at (λ x. is_in x (p ∷ finished)) closed q all (is_in-in q closed is-in))
      | inr out ↦ (c.4 q other).1 (inl out)
    ]

    abbrev closes : AgentState
    closes = with_phase a (Closes closing closed (p ∷ finished))

    all-closed : m ≡ K.number → InitiatorActs E S F K stamp n w a (if all_finished closed (p ∷ finished) then settles E S.words.deployment n a a.initiating.work else becomes closes)
    all-closed is = goes-if E S F K stamp n w a _ _ _ (λ all. settles-goes E S F K now stamp n w lay H B l i a start word c.0 c.3 (settled-all is all) knows.rise covers-all
        (settled-logs E S F K now B (settled-all is all) lay a.initiating.work c.2 a.initiating.replies knows.from) asks.0 c.2 asks.1 knows.outcome)
        (λ some. goes-still E S F K stamp n w a now closes B l refl refl refl (c.0, c.1, c.2, c.3, λ q other. ((c.4 q other).0, either q other))
        (record { rise = knows.rise; covers = covers-all; decided = knows.decided; fresh = λ x works. absurd (cc); from = knows.from; first = knows.first; outcome = knows.outcome }))
      where
        either : (q : ℕ) → IsPart S q → (is_in q closed ≡ false) ⊎ (is_in q (p ∷ finished) ≡ true) → Settled E S F K q
        either q other (inl out) = (c.4 q other).1 (inl out)
        either q other (inr now) = settled-if is q other now

    closes-goes : InitiatorActs E S F K stamp n w a (on_finished E S.words.deployment n a (Closes closing closed finished) a.initiating.work p m)
    closes-goes = goes-if E S F K stamp n w a _ _ _ (λ is. all-closed (sym (eqb-true closing m is) ∙ c.1)) (λ is. still)

  -- ---- where it works

  module _ (x : Work) (heard : K.heard ≡ term_of w) (next : K.number < a.initiating.next) (job : JobOk K (Some x)) (o : Outcome) (is_decided : x.decision ≡ Some o)
      (hand : AtHand E S F K x (Some o)) (phase : a.initiating.phase ≡ Works) (work : a.initiating.work ≡ Some x) where
    covers-there : CoversAll S K a.initiating.replies
    covers-there = subst (CoversIn S K a.initiating.replies) phase knows.covers

    abbrev done : Work
    done = more_done p x

    -- what it knows, it knows with one partition more
    still-known : (r : LastReply) → KnownReply S F K.submitted K.heard a.initiating.work r → KnownReply S F K.submitted K.heard (Some done) r
    still-known r (inl logs) = inl logs
    still-known r (inr (y, d, at, decision, own)) = inr (done, d, refl, ap (λ z. z.decision) (same-some (sym work ∙ at)) ∙ decision, own)

    done-if : m ≡ K.number → (q : ℕ) → IsPart S q → is_in q (p ∷ x.finished) ≡ true → Settled E S F K q
    done-if is q other = more-finished (Settled E S F K) p q x.finished (settled-now heard is (hand p part).0) (hand q other).1

    -- all that holds once they have all finished
    all-settled : m ≡ K.number → all_finished (all_parts S.words.deployment) (p ∷ x.finished) ≡ true → (q : ℕ) → IsPart S q → Settled E S F K q
    all-settled is all q other = done-if is q other (list_all-at (λ y. is_in y (p ∷ x.finished)) (all_parts S.words.deployment) q all (part-in S.words.deployment q other))

    all-done : m ≡ K.number → InitiatorActs E S F K stamp n w a
        (if all_finished (all_parts S.words.deployment) (p ∷ x.finished) then ends_job E S.words.deployment n (with_work a done) x.job (end_of o) else becomes (with_work a done))
    all-done is = goes-if E S F K stamp n w a _ _ _
        (λ all. goes-from E S F K stamp n w a K (with_work a done) (ends_job E S.words.deployment n (with_work a done) x.job (end_of o)) refl refl (omega arith) refl refl refl
        (ends_job-goes E S F K now stamp n w lay H B l i (with_work a done) start word heard next
        (all-settled is all) knows.rise covers-there
        (settled-logs E S F K now B (all-settled is all) lay (Some x) job a.initiating.replies (subst (λ z. AllByRecursion (KnownReply S F K.submitted K.heard z) a.initiating.replies) work knows.from)) asks.0
        x.job (end_of o) (decided-answered E S F K now B (all-settled is all) x.job o (job.1 o is_decided) (knows.outcome x o work is_decided))))
        (λ some. goes-still E S F K stamp n w a now (with_work a done) B l refl refl refl
        (heard, next, (done, refl, job, subst (AtHand E S F K done) (sym is_decided) (λ q other. ((hand q other).0, done-if is q other))))
        (record {
          rise = knows.rise;
          covers = covers-there;
          decided = λ y d at decision. knows.decided x d work (ap (λ z. z.decision) (same-some at) ∙ decision);
          fresh = λ y _ at none. absurd (none-and-some none (ap (λ z. z.decision) (sym (same-some at)) ∙ is_decided));
          from = all-mono _ _ still-known a.initiating.replies knows.from;
          first = knows.first;
          outcome = λ y d at decision. subst (λ z. OutcomeOf z d) (ap (λ z. z.job) (same-some at)) (knows.outcome x d work (ap (λ z. z.decision) (same-some at) ∙ decision));
        }))

    done-goes : InitiatorActs E S F K stamp n w a (
        if x.transaction == m
        then (if all_finished (all_parts S.words.deployment) (p ∷ x.finished) then ends_job E S.words.deployment n (with_work a done) x.job (end_of o) else becomes (with_work a done))
        else becomes a
        )
    done-goes = goes-if E S F K stamp n w a _ _ _ (λ is. all-done (sym (eqb-true x.transaction m is) ∙ job.0)) (λ is. still)

  works-goes : (x : Work) → K.heard ≡ term_of w → K.number < a.initiating.next → JobOk K (Some x) → AtHand E S F K x x.decision
      → a.initiating.phase ≡ Works → a.initiating.work ≡ Some x → InitiatorActs E S F K stamp n w a (on_finished E S.words.deployment n a Works (Some x) p m)
  works-goes x heard next job hand phase work = choice x.decision refl hand
    where
      choice : (d : Option Outcome) → x.decision ≡ d → AtHand E S F K x d → InitiatorActs E S F K stamp n w a (elim d as (λ _. Turn AgentState) [
        | None ↦ becomes a
        | Some o ↦
            if x.transaction == m
            then (if all_finished (all_parts S.words.deployment) (p ∷ x.finished) then ends_job E S.words.deployment n (with_work a (more_done p x)) x.job (end_of o) else becomes (with_work a (more_done p x)))
            else becomes a
      ])
      choice None e h = still
      choice (Some o) e h = done-goes x heard next job o e h phase work

  -- In any phase.
  pub finished-goes : InitiatorActs E S F K stamp n w a (on_finished E S.words.deployment n a a.initiating.phase a.initiating.work p m)
  finished-goes = choice a.initiating.phase refl a.initiating.work refl k
    where
      choice : (phase : Phase) → a.initiating.phase ≡ phase → (work : Option Work) → a.initiating.work ≡ work → PhaseOk E S F K (term_of w) a phase
          → InitiatorActs E S F K stamp n w a (on_finished E S.words.deployment n a phase work p m)
      choice Off e work f c = absurd c
      choice (Hears told) e work f c = still
      choice (Closes closing closed finished) e work f c =
          subst (λ x. InitiatorActs E S F K stamp n w a (on_finished E S.words.deployment n a (Closes closing closed finished) x p m)) f (closes-goes closing closed finished e c)
      choice Idle e work f c = still
      choice Works e None f c = absurd (none-and-some f c.2.1)
      choice Works e (Some x) f c = let same = same-some (sym c.2.1 ∙ f) in
          works-goes x c.0 c.1 (subst (λ y. JobOk K (Some y)) same c.2.2) (subst (λ y. AtHand E S F K y y.decision) same c.2.3) e f
