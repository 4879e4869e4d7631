-- A round that was answered: the next one, or the decision.
use Rattle.volt_wire.specs.declared.message.Msg.TheVariants as msg
use Rattle.cluster_model.specs.Replies.{replied_by}
use Rattle.transaction_laws.proofs.Names.{Aborted, AgentState, AllBefore, CallsOk, Covered, CoversAll, CoversIn, Initiating, IsNew, JobAsked, KnownReply, Knows, MayEnd, OnSome, OutcomeAsked, OutcomeOf, RepliesRise, WorkAsked, call_of, calls_of, in-left, known_of, some-here, Aligned, AllByRecursion, AtHand, Blocks, Books, Bool, CoordStep, Database, Deployment, Done, EndFits, Entry, Fed, Finish, Firm, Fits, Frag, FromLogs, HeardPart, In, Initiates, IsEnded, IsOpen, IsPart, Job, JobOk, Kept, List, LogState, LogsHold, Membership, Msg, None, OfNumber, Option, Outcome, Phase, PhaseOk, Prefix, Round, RunCall, Sends, Settled, Snapshot, Some, Stage, Stood, TakeSnapshot, Transactions, WellFormed, Work, Works, [], all-append, all-mono, all_parts, and_parts, ap, append-nil, append_assoc, arith, becomes, both-empty, decides, drop, ends_round, eqb-true, false, feeds, first_stage, gathers, goes_on, has_part, in-cases, in_order, inl, inr, is_in, is_none, is_none-none, led_log, length, length-append, list_all-at, list_any-append, nat_lt, next_stage, none-and-some, not, on_frag_done, or-false, or_cases, outcome_of, parts, point_after, point_in, prefix-grows, prefix-refl, prefix-same, refl, same-some, since, stage, stage_behind, subst, sym, term_of, to_all_leaders, true, true≢false, whole, with_work, ℕ, ◌&&◌, ◌++◌, ◌+◌, ◌<◌, ◌==◌, ◌∙◌, ◌∷◌, ◌≡◌, ◌≤◌}
use Rattle.transaction_laws.proofs.Entries.{AtLeastTo, all-decided, calls_of-append, outcome-of, covered-on, decision-covered, decision-keeps, job-fresh, log-since, ok-more, outcome-asked, first-sound, stage-sound, stage-append, formed-append, calls-opened, frag-last, opened-no-end, part-in, no-round-opened, stage-since, formed-since, since-more}
use Rattle.transaction_laws.proofs.Kept.{InitiatorActs, with_due, part-agreed}
use Rattle.transaction_laws.proofs.Initiators.Orders.{LaidOut, Once, books-once, due_with, sends-goes}
use Rattle.transaction_laws.proofs.Initiators.Turns.{goes-still, goes-if}
use Rattle.transaction_laws.proofs.Initiators.Beginning.{whole-to}
use Rattle.transaction_laws.proofs.Initiators.Answering.{undecided-logs}

-- ---- a transaction that is open everywhere

module _ (E : Database) (D : Deployment) (now : ℕ) (K : Transactions) (logs : ℕ → List Entry) (round : ℕ) (k : Aligned E D now K logs)
    (opened : (p : ℕ) → nat_lt p (parts D) ≡ true → (stage E p (logs p)).opened ≡ Some (K.number, round)) where
  still-open : (p : ℕ) → nat_lt p (parts D) ≡ true → (stage_behind (stage E p (K.closed p)) (since K logs p)).opened ≡ Some (K.number, round)
  still-open p part = ap (λ s. s.opened) (sym (stage-since E D now K logs k p part)) ∙ opened p part

  -- Its number is a new one.
  new-number : (p : ℕ) → nat_lt p (parts D) ≡ true → (stage E p (K.closed p)).number ≡ K.number → ⊥
  new-number p part e = none-and-some (calls-opened (stage E p (K.closed p)) (since K logs p) (k.fresh p p part part e) ∙ k.over p part) (still-open p part)

  -- It hasn't ended, and is no snapshot.
  no-end : (p : ℕ) → nat_lt p (parts D) ≡ true → (o : Outcome) → In (Done K.number o) (since K logs p) → ⊥
  no-end p part o i = opened-no-end (stage E p (K.closed p)) (since K logs p) K.number round o (stage-sound (first_stage E p) (K.closed p) (first-sound E p))
      (formed-since E D now K logs k p part) (still-open p part) (k.over p part) i

  no-snapshot : (p : ℕ) → nat_lt p (parts D) ≡ true → K.agreed ≡ Some Snapshot → ⊥
  no-snapshot p part e = none-and-some (no-round-opened (stage E p (K.closed p)) (since K logs p) (k.snapshot p part e) (k.over p part)) (still-open p part)

-- ---- one entry more in each log

-- an end at a point
end-fits : (s : Stage) (m x : ℕ) (o : Outcome) → point_in (Some o) ≡ Some x → IsOpen s m → s.point ≤ x → EndFits s m o
end-fits s m x (Kept call client point reply) e k l = (k, omega (arith, l, same-some e))
end-fits s m x (Aborted call client point reply) e k l = (k, omega (arith, l, same-some e))
end-fits s m x o e k l = absurd (none-and-some refl e)

end-point : (now x : ℕ) (o : Outcome) → point_in (Some o) ≡ Some x → point_after now o ≡ x
end-point now x (Kept call client point reply) e = same-some e
end-point now x (Aborted call client point reply) e = same-some e
end-point now x o e = absurd (none-and-some refl e)

module _ (E : Database) (D : Deployment) (now : ℕ) (K : Transactions) (logs next : ℕ → List Entry) (round : ℕ) (e : Entry) (k : Aligned E D now K logs)
    (opened : (p : ℕ) → nat_lt p (parts D) ≡ true → (stage E p (logs p)).opened ≡ Some (K.number, round))
    (more : (p : ℕ) → nat_lt p (parts D) ≡ true → next p ≡ logs p ++ e ∷ []) where
  formed-more : (p : ℕ) → nat_lt p (parts D) ≡ true → Fits (stage E p (logs p)) e → WellFormed (first_stage E p) (next p)
  formed-more p part f = subst (WellFormed (first_stage E p)) (sym (more p part)) (formed-append (first_stage E p) (logs p) (e ∷ []) (k.formed p part) (f, tt))

  stage-more : (p : ℕ) → nat_lt p (parts D) ≡ true → stage E p (next p) ≡ next_stage (stage E p (logs p)) e
  stage-more p part = ap (stage E p) (more p part) ∙ stage-append (first_stage E p) (logs p) (e ∷ [])

  prefix-more : (p : ℕ) → nat_lt p (parts D) ≡ true → (xs : List Entry) → Prefix xs (logs p) → Prefix xs (next p)
  prefix-more p part xs f = subst (Prefix xs) (sym (more p part)) (prefix-grows xs (logs p) (e ∷ []) f)

  since-next : (p : ℕ) → nat_lt p (parts D) ≡ true → since K next p ≡ since K logs p ++ e ∷ []
  since-next p part = ap (drop (length (K.closed p))) (more p part) ∙ since-more E D now K logs k p part (e ∷ [])

  only-more : (p : ℕ) → nat_lt p (parts D) ≡ true → OfNumber K.number e → AllByRecursion (OfNumber K.number) (since K next p)
  only-more p part o = subst (AllByRecursion (OfNumber K.number)) (sym (since-next p part)) (all-append (OfNumber K.number) (since K logs p) (e ∷ []) (k.only p part) (o, tt))

  -- an end of it that stands there is this entry
  last-end : (p : ℕ) → nat_lt p (parts D) ≡ true → (o : Outcome) → In (Done K.number o) (since K next p) → e ≡ Done K.number o
  last-end p part o i = elim (in-cases (Done K.number o) (since K logs p) (e ∷ []) (subst (In (Done K.number o)) (since-next p part) i)) [
    | inl j ↦ absurd (no-end E D now K logs round k opened p part o j)
    | inr (inl q) ↦ q
    | inr (inr j) ↦ absurd j
  ]

-- the next round
aligned-round : (E : Database) (D : Deployment) (now stamp : ℕ) → now ≤ stamp → (K : Transactions) (logs next : ℕ → List Entry) (round : ℕ) (body : List ℕ) → Aligned E D now K logs
    → ((p : ℕ) → nat_lt p (parts D) ≡ true → (stage E p (logs p)).opened ≡ Some (K.number, round))
    → ((p : ℕ) → nat_lt p (parts D) ≡ true → next p ≡ logs p ++ Frag K.number (round + 1) body ∷ [])
    → (due : ℕ → ℕ → List Entry) → Aligned E D stamp (with_due K due) next
aligned-round E D now stamp low K logs next round body k opened more due = record {
  formed = λ p part. formed-more E D now K logs next round e k opened more p part (inr (round, opened p part, refl));
  past = λ p part. rw (stage-more E D now K logs next round e k opened more p part) (omega (arith, low, k.past p part));
  prefix = λ p part. prefix-more E D now K logs next round e k opened more p part (K.closed p) (k.prefix p part);
  over = k.over;
  below = k.below;
  only = λ p part. only-more E D now K logs next round e k opened more p part refl;
  fresh = λ p q part other same. absurd (new-number E D now K logs round k opened p part same);
  ends = λ p part o i. absurd (no-frag (last-end E D now K logs next round e k opened more p part o i));
  snapshot = λ p part same. absurd (no-snapshot E D now K logs round k opened p part same);
  decided = λ p x part is. let d = k.decided p x part is in (prefix-more E D now K logs next round e k opened more p part (K.decided p) d.0, d.1, d.2);
  agreed = λ x is. omega (arith, low, k.agreed x is);
  even = k.even;
}
  where
    e : Entry
    e = Frag K.number (round + 1) body

    no-frag : {o : Outcome} → Frag K.number (round + 1) body ≡ Done K.number o → ⊥
    no-frag q = cc

-- the end, at the present stamp
aligned-end : (E : Database) (D : Deployment) (now stamp : ℕ) → now ≤ stamp → (K : Transactions) (logs next : ℕ → List Entry) (round : ℕ) (o : Outcome) → Aligned E D now K logs
    → ((p : ℕ) → nat_lt p (parts D) ≡ true → (stage E p (logs p)).opened ≡ Some (K.number, round))
    → ((p : ℕ) → nat_lt p (parts D) ≡ true → next p ≡ logs p ++ Done K.number o ∷ [])
    → point_in (Some o) ≡ Some stamp → (decided : ℕ → List Entry) → ((p : ℕ) → nat_lt p (parts D) ≡ true → decided p ≡ logs p)
    → (due : ℕ → ℕ → List Entry) → Aligned E D stamp (record K { agreed = Some o; decided = decided; due = due }) next
aligned-end E D now stamp low K logs next round o k opened more point decided same due = record {
  formed = λ p part. formed-more E D now K logs next round e k opened more p part
      (end-fits (stage E p (logs p)) K.number stamp o point (round, opened p part) (omega (arith, low, k.past p part)));
  past = λ p part. rw (stage-more E D now K logs next round e k opened more p part) (omega (arith, end-point (stage E p (logs p)).point stamp o point));
  prefix = λ p part. prefix-more E D now K logs next round e k opened more p part (K.closed p) (k.prefix p part);
  over = k.over;
  below = k.below;
  only = λ p part. only-more E D now K logs next round e k opened more p part refl;
  fresh = λ p q part other is. absurd (new-number E D now K logs round k opened p part is);
  ends = λ p part other i. ap Some (same-end (last-end E D now K logs next round e k opened more p part other i));
  snapshot = λ p part is. absurd (none-and-some (ap point_in is) point);
  decided = λ p x part is. rw (same p part) (
    prefix-more E D now K logs next round e k opened more p part (logs p) (prefix-refl (logs p)),
    (round, opened p part),
    omega (arith, low, k.past p part, same-some (sym point ∙ is)),
  );
  agreed = λ x is. omega (arith, same-some (sym point ∙ is));
  even = k.even;
}
  where
    e : Entry
    e = Done K.number o

    same-end : {other : Outcome} → Done K.number o ≡ Done K.number other → o ≡ other
    same-end q = cc

-- ---- a round that is firm

-- Where its last round is firm, nothing is due and the whole log is everywhere.
frag-fed : (E : Database) (S : LogState) (F : Firm) (K : Transactions) (now : ℕ) → Books E S F K now → (p round : ℕ) (body : List ℕ) → IsPart S p
    → (stage E p (whole S K K.heard p)).opened ≡ Some (K.number, round) → Stood S F p K.heard (Frag K.number round body) → Fed S F K p
frag-fed E S F K now B p round body part opened k = record { none = none.1; everywhere = rw (k.led, long) k.everywhere }
  where
    e : Entry
    e = Frag K.number round body

    -- what stands behind it
    behind : List Entry
    behind = k.stands.stands.0

    log-is : k.leadership.log ≡ k.stands.prefix ++ e ∷ behind
    log-is = k.stands.stands.1 ∙ append_assoc k.stands.prefix (e ∷ []) behind

    whole-is : whole S K K.heard p ≡ k.stands.prefix ++ e ∷ (behind ++ K.due p K.heard)
    whole-is = ap (λ o. led_log o ++ K.due p K.heard) k.led ∙ ap (λ xs. xs ++ K.due p K.heard) log-is ∙ append_assoc k.stands.prefix (e ∷ behind) (K.due p K.heard)

    none : (behind ≡ []) × (K.due p K.heard ≡ [])
    none = both-empty behind (K.due p K.heard)
        (frag-last (first_stage E p) k.stands.prefix (behind ++ K.due p K.heard) K.number round body (first-sound E p)
        (subst (WellFormed (first_stage E p)) whole-is (B.heard.aligned.formed p part)) (ap (λ xs. (stage E p xs).opened) (sym whole-is) ∙ opened))

    long : length k.leadership.log ≡ k.position
    long = ap length (log-is ∙ ap (λ xs. k.stands.prefix ++ e ∷ xs) none.0) ∙ length-append k.stands.prefix (e ∷ []) ∙ k.stands.at

-- the point of a call that is decided
call-point : (keep : Bool) (call client host start : ℕ) (body : List ℕ) (point : ℕ) (reply : List ℕ)
    → point_in (Some (outcome_of keep (RunCall call client host start body) point reply)) ≡ Some point
call-point true call client host start body point reply = refl
call-point false call client host start body point reply = refl

-- Of the job at hand: it isn't decided, and its round is firm everywhere.
record RoundDone (E : Database) (S : LogState) (F : Firm) (K : Transactions) (v : Work) : Type 0 where
  pub transaction : v.transaction ≡ K.number
  pub decision : v.decision ≡ None
  pub finished : v.finished ≡ []
  pub opened : (p : ℕ) → IsPart S p → (stage E p (whole S K K.heard p)).opened ≡ Some (K.number, v.round)
  pub fed : (p : ℕ) → IsPart S p → Fed S F K p

-- one part more of a round: it is firm there
with-part : (E : Database) (S : LogState) (F : Firm) (K : Transactions) (now : ℕ) → Books E S F K now → (v : Work) (p : ℕ) (partial body : List ℕ) → IsPart S p
    → AtHand E S F K v None → Stood S F p K.heard (Frag K.number v.round body) → AtHand E S F K (record v { gathered = v.gathered ++ (p, partial) ∷ [] }) None
with-part E S F K now B v p partial body part k stood = (k.0, λ q is. ((k.1 q is).0, fed q is))
  where
    fed : (q : ℕ) → IsPart S q → has_part (v.gathered ++ (p, partial) ∷ []) q ≡ true → Fed S F K q
    fed q is has = elim (or_cases (has_part v.gathered q) (has_part ((p, partial) ∷ []) q) (sym (list_any-append (λ x. x.0 == q) v.gathered ((p, partial) ∷ [])) ∙ has)) [
      | inl old ↦ (k.1 q is).1 old
      | inr new ↦
          let e : p ≡ q = eqb-true p q (sym (or-false (p == q)) ∙ new) in
          subst (Fed S F K) e (frag-fed E S F K now B p v.round body part (k.1 p part).0 stood)
    ]

-- `a` is the agent as the turn has it by then: with its start and word.
module _ (E : Database) (S : LogState) (F : Firm) (K : Transactions) (now stamp n : ℕ) (w : Membership) (lay : LaidOut S) (H : LogsHold S) (B : Books E S F K now) (low : now ≤ stamp)
    (i : Initiates S n w) (a : AgentState) (word : a.decided ≡ Some w) (heard : K.heard ≡ term_of w) (next : K.number < a.initiating.next)
    (past : AllBefore K.submitted stamp) (rise : RepliesRise a.initiating.replies) (covers : CoversAll S K a.initiating.replies)
    (logs : AllByRecursion (FromLogs S F K.submitted K.heard) a.initiating.replies) where
  -- the job's call is new, and was submitted
  abbrev Ready : Job → Type 0
  Ready job = (known_of job a.initiating.replies ≡ IsNew) × JobAsked K.submitted job

  abbrev all : Msg Blocks → Sends
  all m = to_all_leaders S.words.deployment a.decided m

  -- the next round goes out
  module _ (v : Work) (k : RoundDone E S F K v) (ready : Ready v.job) (body : List ℕ) where
    abbrev round_sent : Transactions
    round_sent = with_due K (due_with S K (λ q. nat_lt q (parts S.words.deployment)) (Frag v.transaction (v.round + 1) body))

    abbrev fresh_round : Work
    fresh_round = record v { round = v.round + 1; gathered = [] }

    round-more : (p : ℕ) → IsPart S p → whole S round_sent K.heard p ≡ whole S K K.heard p ++ Frag K.number (v.round + 1) body ∷ []
    round-more p part = whole-to S K (λ q. nat_lt q (parts S.words.deployment)) (Frag v.transaction (v.round + 1) body) p part part ∙ ap (λ m. whole S K K.heard p ++ Frag m (v.round + 1) body ∷ []) k.transaction

    round-aligned : Aligned E S.words.deployment stamp round_sent (whole S round_sent K.heard)
    round-aligned = aligned-round E S.words.deployment now stamp low K (whole S K K.heard) (whole S round_sent K.heard) v.round body B.heard.aligned k.opened round-more round_sent.due

    round-part : (p : ℕ) → IsPart S p → HeardPart S F round_sent p
    round-part p part = let h = B.heard.each p part in record { leadership = h.leadership; led = h.led; inside = h.inside; closed = h.closed; decided = h.decided; top = h.top }

    round-at-hand : AtHand E S F round_sent fresh_round None
    round-at-hand = (
      k.finished,
      λ p part. (
        ap (λ s. s.opened) (ap (stage E p) (round-more p part) ∙ stage-append (first_stage E p) (whole S K K.heard p) (Frag K.number (v.round + 1) body ∷ [])),
        λ has. absurd (true≢false (sym has)),
      ),
    )

    round-once : Once E S round_sent
    round-once = let b = books-once E S F K now B in record {
      calls = λ p part. subst (CallsOk K.submitted p) (sym (round-more p part)) (ok-more K.submitted p (whole S K K.heard p) (Frag K.number (v.round + 1) body) (b.calls p part) tt (λ n i _. i));
      ends = λ o is. let e = b.ends o is in record { asked = e.asked; unapplied = e.unapplied; new = e.new };
    }

    round-covers : CoversAll S round_sent a.initiating.replies
    round-covers p m o part i = elim (in-cases (Done m o) (whole S K K.heard p) (Frag K.number (v.round + 1) body ∷ []) (subst (In (Done m o)) (round-more p part) i)) [
      | inl j ↦ covers p m o part j
      | inr (inl e) ↦ absurd (cc)
      | inr (inr j) ↦ absurd j
    ]

    round-goes : InitiatorActs E S F K stamp n w a (goes_on S.words.deployment stamp a v (Round body))
    round-goes = let m = msg.Frag v.transaction (v.round + 1) body in sends-goes E S F K round_sent now stamp n w lay H B low i heard a (with_work a fresh_round) m
        (Frag v.transaction (v.round + 1) body) (λ q. nat_lt q (parts S.words.deployment)) (all m) (ap (λ o. to_all_leaders S.words.deployment o m) word) refl tt refl refl
        (λ p part y. (k.fed p part).none) round-part round-aligned round-once refl refl refl refl
        (heard, next, (fresh_round, refl, (k.transaction, λ d is. absurd (none-and-some k.decision is)), subst (AtHand E S F round_sent fresh_round) (sym k.decision) round-at-hand))
        (record {
          rise = rise;
          covers = round-covers;
          decided = λ x d is decision. absurd (none-and-some k.decision (ap (λ z. z.decision) (same-some is) ∙ decision));
          fresh = λ x _ is none. ap (λ z. known_of z.job a.initiating.replies) (sym (same-some is)) ∙ ready.0;
          from = all-mono _ _ (λ r. inl) a.initiating.replies logs;
          first = λ z. absurd (omega (arith, z, next));
          outcome = λ x d is decision. absurd (none-and-some k.decision (ap (λ z. z.decision) (same-some is) ∙ decision));
        })

  -- with a job that is decided
  abbrev decided_with : Work → Outcome → Initiating
  decided_with v o = record a.initiating { phase = Works; work = Some (record v { decision = Some o }); replies = replied_by o a.initiating.replies }

  -- or the decision
  module _ (v : Work) (k : RoundDone E S F K v) (o : Outcome) (point : point_in (Some o) ≡ Some stamp) where
    -- the logs, all of which is firm
    abbrev led : ℕ → List Entry
    led p = led_log (S.logs.leadership p K.heard)

    abbrev end_sent : Transactions
    end_sent = record K { agreed = Some o; decided = led; due = due_with S K (λ q. nat_lt q (parts S.words.deployment)) (Done v.transaction o) }

    end-more : (p : ℕ) → IsPart S p → whole S end_sent K.heard p ≡ whole S K K.heard p ++ Done K.number o ∷ []
    end-more p part = whole-to S K (λ q. nat_lt q (parts S.words.deployment)) (Done v.transaction o) p part part ∙ ap (λ m. whole S K K.heard p ++ Done m o ∷ []) k.transaction

    end-aligned : Aligned E S.words.deployment stamp end_sent (whole S end_sent K.heard)
    end-aligned = aligned-end E S.words.deployment now stamp low K (whole S K K.heard) (whole S end_sent K.heard) v.round o B.heard.aligned k.opened end-more point led
        (λ p part. sym (append-nil (led p)) ∙ ap (λ xs. led p ++ xs) (sym (k.fed p part).none)) end_sent.due

    end-part : (p : ℕ) → IsPart S p → HeardPart S F end_sent p
    end-part p part = let h = B.heard.each p part in
        part-agreed S F K K.number (Some o) led end_sent.due p h (λ x is. (prefix-same (led p) h.leadership.log (ap led_log h.led), (k.fed p part).everywhere))

    end-at-hand : (p : ℕ) → IsPart S p → IsEnded E S end_sent p × (is_in p v.finished ≡ true → Settled E S F end_sent p)
    end-at-hand p part = (
      let q = ap (stage E p) (end-more p part) ∙ stage-append (first_stage E p) (whole S K K.heard p) (Done K.number o ∷ []) in
          (ap (λ s. s.opened) q, ap (λ s. s.number) q),
      λ has. absurd (true≢false (sym has ∙ ap (is_in p) k.finished)),
    )

    -- the call wasn't applied anywhere
    module _ (asked : OutcomeAsked K.submitted o) (fresh : (p : ℕ) → IsPart S p → (n : ℕ) → In n (call_of (Done K.number o)) → In n (calls_of (whole S K K.heard p)) → ⊥) where
      end-once : Once E S end_sent
      end-once = record {
        calls = λ p part. subst (CallsOk K.submitted p) (sym (end-more p part))
            (ok-more K.submitted p (whole S K K.heard p) (Done K.number o) ((books-once E S F K now B).calls p part) asked (fresh p part));
        ends = λ q is. subst (MayEnd E S end_sent) (same-some is) (record {
          asked = asked;
          unapplied = λ n i p part j. fresh p part n i (subst (λ xs. In n (calls_of xs)) (sym (log-since E S.words.deployment now K (whole S K K.heard) B.heard.aligned p part))
              (subst (In n) (sym (calls_of-append (K.closed p) (since K (whole S K K.heard) p))) (in-left n (calls_of (K.closed p)) (calls_of (since K (whole S K K.heard) p)) j)));
          new = new-number E S.words.deployment now K (whole S K K.heard) v.round B.heard.aligned k.opened;
        });
      }

      -- the own decision is the last reply to its client
      end-knows : OutcomeOf v.job o → Knows S F end_sent (decided_with v o)
      end-knows of = record {
        rise = more.0;
        covers = λ p m q part i. elim (in-cases (Done m q) (whole S K K.heard p) (Done K.number o ∷ []) (subst (In (Done m q)) (end-more p part) i)) [
          | inl j ↦ covered-on a.initiating.replies (replied_by o a.initiating.replies) more.1 q (covers p m q part j)
          | inr (inl e) ↦ let same : o ≡ q = cc in subst (Covered (replied_by o a.initiating.replies)) same own
          | inr (inr j) ↦ absurd j
        ];
        decided = λ x q is decision. subst (Covered (replied_by o a.initiating.replies)) (same-some (ap (λ z. z.decision) (same-some is) ∙ decision)) own;
        fresh = λ x _ is none. absurd (none-and-some none (ap (λ z. z.decision) (sym (same-some is))));
        from = all-decided (KnownReply S F K.submitted K.heard (Some (record v { decision = Some o }))) o (λ r answers. inr (record v { decision = Some o }, o, refl, refl, answers)) a.initiating.replies
            (all-mono _ _ (λ r. inl) a.initiating.replies logs);
        first = λ z. absurd (omega (arith, z, next));
        outcome = λ x d is decision. subst (λ z. OutcomeOf z d) (ap (λ z. z.job) (same-some is)) (subst (OutcomeOf v.job) (same-some (ap (λ z. z.decision) (same-some is) ∙ decision)) of);
      }
        where
          more : RepliesRise (replied_by o a.initiating.replies) × ((c n : ℕ) → AtLeastTo a.initiating.replies c n → AtLeastTo (replied_by o a.initiating.replies) c n)
          more = decision-keeps o a.initiating.replies rise

          own : Covered (replied_by o a.initiating.replies) o
          own = decision-covered K.submitted stamp past o asked a.initiating.replies rise

  decision-goes : (v : Work) → RoundDone E S F K v → Ready v.job → (keep : Bool) (reply : List ℕ) → point_in (Some (outcome_of keep v.job stamp reply)) ≡ Some stamp
      → InitiatorActs E S F K stamp n w a (decides S.words.deployment stamp a v keep reply)
  decision-goes v k ready keep reply point =
      let o = outcome_of keep v.job stamp reply in
      let m = msg.Done v.transaction o in
      let asked : OutcomeAsked K.submitted o = outcome-asked K.submitted stamp past keep v.job reply ready.1 in
      let fresh : (p : ℕ) → IsPart S p → (n : ℕ) → In n (call_of (Done K.number o)) → In n (calls_of (whole S K K.heard p)) → ⊥ = λ p part n.
      job-fresh K.submitted p (whole S K K.heard p) ((books-once E S F K now B).calls p part) a.initiating.replies (λ i q j. covers p i q part j) v.job ready.0 ready.1 keep stamp reply K.number n in
      sends-goes E S F K (end_sent v k o point) now stamp n w lay H B low i heard a (decides S.words.deployment stamp a v keep reply).state m
      (Done v.transaction o) (λ q. nat_lt q (parts S.words.deployment)) (all m) (ap (λ d. to_all_leaders S.words.deployment d m) word) refl tt refl refl
      (λ p part y. (k.fed p part).none) (end-part v k o point) (end-aligned v k o point) (end-once v k o point asked fresh) refl refl refl refl
      (heard, next, (_, refl, (k.transaction, λ q is. is), end-at-hand v k o point)) (end-knows v k o point asked fresh (outcome-of keep v.job stamp reply))

  -- what the call asks for next
  goes_on-goes : (v : Work) → RoundDone E S F K v → Ready v.job → ((keep : Bool) (reply : List ℕ) → point_in (Some (outcome_of keep v.job stamp reply)) ≡ Some stamp) → (step : CoordStep)
      → InitiatorActs E S F K stamp n w a (goes_on S.words.deployment stamp a v step)
  goes_on-goes v k ready point (Round body) = round-goes v k ready body
  goes_on-goes v k ready point (Finish keep reply) = decision-goes v k ready keep reply (point keep reply)

  feeds-goes : (v : Work) → RoundDone E S F K v → Ready v.job → ((keep : Bool) (reply : List ℕ) → point_in (Some (outcome_of keep v.job stamp reply)) ≡ Some stamp) → (body : List ℕ) (step : CoordStep)
      → InitiatorActs E S F K stamp n w a (feeds E S.words.deployment stamp a v body step)
  feeds-goes v k ready point body (Finish keep reply) = decision-goes v k ready keep reply (point keep reply)
  feeds-goes v k ready point body (Round asked) =
      let fed = v.fed ++ in_order S.words.deployment v.gathered ∷ [] in
      goes_on-goes (record v { fed = fed }) (record { transaction = k.transaction; decision = k.decision; finished = k.finished; opened = k.opened; fed = k.fed }) ready point (E.asks body fed)

  -- where all that holds of the agent's phase, holds as it is
  module _ (phase : PhaseOk E S F K (term_of w) a a.initiating.phase) (knows : Knows S F K a.initiating) where
    stays : InitiatorActs E S F K stamp n w a (becomes a)
    stays = goes-still E S F K stamp n w a now a B low refl refl refl phase knows

    ends_round-goes : (v : Work) → RoundDone E S F K v → Ready v.job → (job : Job) → v.job ≡ job → InitiatorActs E S F K stamp n w a (ends_round E S.words.deployment stamp a v job)
    ends_round-goes v k ready (RunCall call client host start body) is = feeds-goes v k ready
        (λ keep reply. ap (λ job. point_in (Some (outcome_of keep job stamp reply))) is ∙ call-point keep call client host start body stamp reply) body (E.asks body v.fed)
    ends_round-goes v k ready TakeSnapshot is = stays

    -- one part more
    gathers-goes : (v : Work) → v.transaction ≡ K.number → v.decision ≡ None → AtHand E S F K v None → Ready v.job → InitiatorActs E S F K stamp n w a (gathers E S.words.deployment stamp a v)
    gathers-goes v m none k ready = goes-if E S F K stamp n w a _ _ _
        (λ all. ends_round-goes v (record {
          transaction = m;
          decision = none;
          finished = k.0;
          opened = λ p part. (k.1 p part).0;
          fed = λ p part. (k.1 p part).1 (list_all-at (has_part v.gathered) (all_parts S.words.deployment) p all (part-in S.words.deployment p part));
        }) ready v.job refl)
        (λ some. goes-still E S F K stamp n w a now (with_work a v) B low refl refl refl
        (heard, next, (v, refl, (m, λ d is. absurd (none-and-some none is)), subst (AtHand E S F K v) (sym none) k))
        (record {
          rise = rise;
          covers = covers;
          decided = λ x d is decision. absurd (none-and-some none (ap (λ z. z.decision) (same-some is) ∙ decision));
          fresh = λ x _ is _. ap (λ z. known_of z.job a.initiating.replies) (sym (same-some is)) ∙ ready.0;
          from = all-mono _ _ (λ r. inl) a.initiating.replies logs;
          first = λ z. absurd (omega (arith, z, next));
          outcome = λ x d is decision. absurd (none-and-some none (ap (λ z. z.decision) (same-some is) ∙ decision));
        }))

-- FragDone changes nothing but the job at hand.
pub frag_done-goes : (E : Database) (S : LogState) (F : Firm) (K : Transactions) (now stamp n : ℕ) (w : Membership) → LaidOut S → LogsHold S → Books E S F K now → now ≤ stamp → Initiates S n w
    → (a : AgentState) → a.start ≡ (S.words.agents n).start → a.decided ≡ Some w → PhaseOk E S F K (term_of w) a a.initiating.phase
    → AllBefore K.submitted stamp → Knows S F K a.initiating → OnSome (WorkAsked K.submitted) a.initiating.work
    → (p m round : ℕ) (partial body : List ℕ) → IsPart S p → Stood S F p (term_of w) (Frag m round body)
    → InitiatorActs E S F K stamp n w a (on_frag_done E S.words.deployment stamp a a.initiating.phase a.initiating.work p m round partial)
frag_done-goes E S F K now stamp n w lay H B low i a start word ok past knows asked p m round partial body part stood = go a.initiating.phase a.initiating.work refl refl ok
  where
    stay : InitiatorActs E S F K stamp n w a (becomes a)
    stay = goes-still E S F K stamp n w a now a B low refl refl refl ok knows

    one : (v : Work) → a.initiating.phase ≡ Works → a.initiating.work ≡ Some v → K.heard ≡ term_of w → K.number < a.initiating.next → JobOk K (Some v) → AtHand E S F K v v.decision
        → InitiatorActs E S F K stamp n w a (on_frag_done E S.words.deployment stamp a Works (Some v) p m round partial)
    one v phase work heard next job k = goes-if E S F K stamp n w a _ _ _ part-came (λ q. stay)
      where
        stood-here : v.transaction ≡ m → v.round ≡ round → Stood S F p K.heard (Frag K.number v.round body)
        stood-here e f = subst (λ t. Stood S F p t (Frag K.number v.round body)) (sym heard) (rw (f, sym job.0 ∙ e) stood)

        part-came : (v.transaction == m && v.round == round && is_none v.decision && not (has_part v.gathered p)) ≡ true
            → InitiatorActs E S F K stamp n w a (gathers E S.words.deployment stamp a (record v { gathered = v.gathered ++ (p, partial) ∷ [] }))
        part-came q =
            let (rest, fresh) = and_parts (v.transaction == m && v.round == round && is_none v.decision) (not (has_part v.gathered p)) q in
            let (same, undecided) = and_parts (v.transaction == m && v.round == round) (is_none v.decision) rest in
            let (number, at) = and_parts (v.transaction == m) (v.round == round) same in
            gathers-goes E S F K now stamp n w lay H B low i a word heard next past knows.rise (subst (CoversIn S K a.initiating.replies) phase knows.covers)
            (undecided-logs S F K.submitted K.heard a.initiating.work (λ y d at decision. none-and-some (is_none-none v.decision undecided) (ap (λ z. z.decision) (same-some (sym work ∙ at)) ∙ decision)) a.initiating.replies knows.from)
            ok knows (record v { gathered = v.gathered ++ (p, partial) ∷ [] }) job.0 (is_none-none v.decision undecided)
            (with-part E S F K now B v p partial body part (subst (AtHand E S F K v) (is_none-none v.decision undecided) k) (stood-here (eqb-true v.transaction m number) (eqb-true v.round round at)))
            (knows.fresh v phase work (is_none-none v.decision undecided), some-here (WorkAsked K.submitted) a.initiating.work v work asked)

    go : (phase : Phase) (work : Option Work) → a.initiating.phase ≡ phase → a.initiating.work ≡ work → PhaseOk E S F K (term_of w) a phase
        → InitiatorActs E S F K stamp n w a (on_frag_done E S.words.deployment stamp a phase work p m round partial)
    go Works (Some v) is at (heard, next, (x, same, job, k)) =
        let e : x ≡ v = same-some (sym same ∙ at) in
        one v is at heard next (subst (λ z. JobOk K (Some z)) e job) (subst (λ z. AtHand E S F K z z.decision) e k)
    go x work is at k = stay
