-- An initiator hears how the partitions stand in its term.
use Rattle.cluster_model.specs.Initiator.{replies_told}
use Rattle.reply_laws.proofs.LastReplies.{last-replies-rise}
use Rattle.transaction_laws.proofs.Names.{AgentState, AllBefore, CallsOk, Covered, CoversAll, Done, EntryAsked, KnownEnd, KnownReply, Knows, LastReply, Leadership, OnSome, QueuedAsked, Stood, Work, WorkAsked, OutcomeAsked, RepliesRise, all-mono, drop, in-cases, in-left, in-right, last_replies, length_push, prefix-grows, prefix-rest, Aligned, AllByRecursion, Books, Bool, Database, DueOk, Entry, Everywhere, Firm, Heard, HeardPart, Hears, In, Initiates, IsPart, JobOk, List, LogState, LogsHold, Membership, None, Off, OnlyCalls, Option, Outcome, Phase, PhaseOk, Prefix, Some, StateOk, Transactions, WellFormed, [], all-append, all-at, ap, arith, becomes, cases_eq, closes_open, eqb-false, eqb-true, false, first_number, first_stage, greatest_told, hears, if◌then◌else◌, initiator, inl, inr, knows_told, led_log, length, on_mp_state, open_told, point_in, prefix-append, prefix-trans, refl, same-some, since, stage, subst, sym, term_in, term_of, true, whole, with_phase, ℕ, ◌++◌, ◌+◌, ◌<◌, ◌==◌, ◌∙◌, ◌∷◌, ◌≡◌, ◌≤◌}
use Rattle.transaction_laws.proofs.Kept.{InitiatorActs, Under, inert-leadership}
use Rattle.transaction_laws.proofs.Entries.{InLog, each-told, calls-no-end, ok-prefix, replies-in-log, covered-on, log-covered, told-keeps, told-least, under-prefix, under-trans, aligned-under, whole-led, number-since, number-within, closed-number}
use Rattle.transaction_laws.proofs.Initiators.Orders.{LaidOut, decided-word}
use Rattle.transaction_laws.proofs.Initiators.Turns.{goes-still, goes-from, goes-if}
use Rattle.transaction_laws.proofs.Initiators.Resting.{OverAt, resting-books}
use Rattle.transaction_laws.proofs.Initiators.Told.{ToldIs, heard_with, told-is, told-none, told-prefix, told-number, greatest-above, greatest-below, told-by, told-whole}
use Rattle.transaction_laws.proofs.Initiators.Closing.{closes_open-goes}
use Rattle.transaction_laws.proofs.Initiators.Answering.{JobsAsked, in-stood}

-- ---- the history once all partitions have told

-- Of one that told.
module _ (E : Database) (S : LogState) (F : Firm) (K : Transactions) (now : ℕ) (H : LogsHold S) (B : Books E S F K now) (t : ℕ) (up : K.heard < t)
    (x : Heard) (k : StateOk E S F t x) where
  abbrev before : HeardPart S F K x.part
  before = B.heard.each x.part k.part

  whole-is : whole S K t x.part ≡ k.leadership.log
  whole-is = whole-led S K x.part t k.leadership k.led (told-none E S F K now H B t up x k)

  grown : Prefix k.leadership.begun k.leadership.log
  grown = (H.leaderships x.part t k.leadership k.led).grown

  -- What was firm in the term before is in this term's log.
  kept : (xs : List Entry) → Prefix xs before.leadership.log → Everywhere S F x.part K.heard (length xs) → Prefix xs k.leadership.log × Everywhere S F x.part t (length xs)
  kept xs f e =
      let (at, everywhere) = told-prefix E S F K now H B t up x k before.leadership before.led xs f e in
      (prefix-trans xs k.leadership.begun k.leadership.log at grown, everywhere)

  heard-part : HeardPart S F (heard_with K t K.number K.agreed) x.part
  heard-part = record {
    leadership = k.leadership;
    led = k.led;
    inside = (kept (K.closed x.part) before.inside before.closed).0;
    closed = (kept (K.closed x.part) before.inside before.closed).1;
    decided = λ y is. kept (K.decided x.part) (before.decided y is).0 (before.decided y is).1;
    top = k.top;
  }

  -- Its log is under that of the term before, and fits.
  fits-still : WellFormed (first_stage E x.part) (whole S K t x.part) × ((stage E x.part (whole S K t x.part)).point ≤ now)
  fits-still = let r = B.leaderships x.part t k.leadership k.part k.led in
      subst (λ o. WellFormed (first_stage E x.part) (led_log o ++ K.due x.part t) × ((stage E x.part (led_log o ++ K.due x.part t)).point ≤ now)) (sym k.led) (r.formed, r.past)

  under-before : Under (whole S K t x.part) (whole S K K.heard x.part) × Prefix (K.closed x.part) (whole S K t x.part)
  under-before = (
    subst (λ xs. Under xs (whole S K K.heard x.part)) (sym whole-is)
        (subst (λ o. Under k.leadership.log (led_log o ++ K.due x.part K.heard)) (sym before.led)
        (under-trans k.leadership.log before.leadership.log (before.leadership.log ++ K.due x.part K.heard)
        (inert-leadership E S F K now H B x.part t before.leadership k.leadership k.part before.led k.led (omega (arith, up)))
        (under-prefix before.leadership.log (before.leadership.log ++ K.due x.part K.heard) (prefix-append before.leadership.log (K.due x.part K.heard))))),
    subst (Prefix (K.closed x.part)) (sym whole-is) (kept (K.closed x.part) before.inside before.closed).0,
  )

  decided-still : (y : ℕ) → point_in K.agreed ≡ Some y → Prefix (K.decided x.part) (whole S K t x.part)
  decided-still y is = subst (Prefix (K.decided x.part)) (sym whole-is) (kept (K.decided x.part) (before.decided y is).0 (before.decided y is).1).0

module _ (E : Database) (S : LogState) (F : Firm) (K : Transactions) (now n : ℕ) (w : Membership) (H : LogsHold S) (B : Books E S F K now) (i : Initiates S n w) (up : K.heard < term_of w)
    (tells : (p : ℕ) → IsPart S p → (x : Heard) × (x.part ≡ p) × StateOk E S F (term_of w) x) where
  abbrev t : ℕ
  t = term_of w

  abbrev after : Transactions
  after = heard_with K t K.number K.agreed

  -- what holds of each that told, holds of each
  of-told : (P : ℕ → Type 0) → ((x : Heard) → StateOk E S F t x → P x.part) → (p : ℕ) → IsPart S p → P p
  of-told P h p part = let (x, at, k) = tells p part in subst P at (h x k)

  heard-aligned : Aligned E S.words.deployment now after (whole S after t)
  heard-aligned = aligned-under E S.words.deployment now now K t (whole S K K.heard) (whole S K t) (omega arith) B.heard.aligned
      (of-told (λ p. WellFormed (first_stage E p) (whole S K t p) × ((stage E p (whole S K t p)).point ≤ now)) (fits-still E S F K now H B t up))
      (of-told (λ p. Under (whole S K t p) (whole S K K.heard p) × Prefix (K.closed p) (whole S K t p)) (under-before E S F K now H B t up))
      (λ p y part. of-told (λ p. point_in K.agreed ≡ Some y → Prefix (K.decided p) (whole S K t p)) (λ x k is. decided-still E S F K now H B t up x k y is) p part)

  -- It is heard by this agent.
  heard-by : (h a : ℕ) → initiator w ≡ Some (h, a) → (S.words.agents h).start ≡ a → t ≤ term_in (S.words.agents h).decided
  heard-by h a is runs = let same : n ≡ h = ap (λ m. m.0) (same-some (sym i.initiates ∙ is)) in
      subst (λ g. t ≤ term_in (S.words.agents g).decided) same (subst (λ o. t ≤ term_in o) (sym i.has_decided) (omega arith))

  heard-due : (p u : ℕ) → DueOk S after p u
  heard-due p u = elim (B.due p u) [ inl none ↦ inl none | inr d ↦ inr (d.0, d.1, d.2, d.3, d.4, omega (arith, up, d.5)) ]

  heard-books : Books E S F after now
  heard-books = record {
    due = heard-due;
    leaderships = λ p u g part led. let r = B.leaderships p u g part led in record { formed = r.formed; past = r.past; unheard = λ later. r.unheard (omega (arith, up, later)); calls = r.calls };
    heard = record {
      word = w;
      is_word = record { decided = decided-word S H n w i.has_decided; term_is = refl };
      by = heard-by;
      each = of-told (HeardPart S F after) (heard-part E S F K now H B t up);
      aligned = heard-aligned;
      ends = λ o is. let e = B.heard.ends o is in record { asked = e.asked; unapplied = e.unapplied; new = e.new };
    };
  }

-- ---- the number that a new initiator goes on from

module _ (E : Database) (S : LogState) (F : Firm) (K : Transactions) (now n : ℕ) (w : Membership) (H : LogsHold S) (B : Books E S F K now) (i : Initiates S n w) (up : K.heard < term_of w)
    (told : List Heard) (states : AllByRecursion (StateOk E S F (term_of w)) told)
    (tells : (p : ℕ) → IsPart S p → (x : Heard) × In x told × (x.part ≡ p)) where
  state-of : (x : Heard) → In x told → StateOk E S F (term_of w) x
  state-of x j = all-at (StateOk E S F (term_of w)) told states x j

  stand : (number : ℕ) (agreed : Option Outcome) (x : Heard) → In x told → ToldIs E S F (heard_with K (term_of w) number agreed) x
  stand number agreed x j = told-is E S F K now H B (term_of w) up x (state-of x j) number agreed

  abbrev heard : Transactions
  heard = heard_with K (term_of w) K.number K.agreed

  with-heard : Books E S F heard now
  with-heard = heard-books E S F K now n w H B i up (λ p part. let (x, j, at) = tells p part in (x, at, state-of x j))

  abbrev log : ℕ → List Entry
  log = whole S heard heard.heard

  A : Aligned E S.words.deployment now heard log
  A = with-heard.heard.aligned

  number-of-log : (x : Heard) → In x told → (stage E x.part (log x.part)).number ≡ x.transaction
  number-of-log x j = told-number E S F heard x (stand K.number K.agreed x j)

  -- where it isn't that of the last transaction, no log has an entry of that
  module _ (other : greatest_told told ≡ K.number → ⊥) where
    low : greatest_told told ≤ K.number
    low = greatest-below told K.number (λ x j.
        subst (λ m. m ≤ K.number) (number-of-log x j) (number-within E S.words.deployment now heard log A x.part (stand K.number K.agreed x j).part))

    only-calls : (p : ℕ) → IsPart S p → OnlyCalls (since heard log p)
    only-calls p part = elim (number-since E S.words.deployment now heard log A p part) [
      | inl calls ↦ calls
      | inr is ↦
          let (x, j, at) = tells p part in
          let number = sym (number-of-log x j) ∙ ap (λ q. (stage E q (log q)).number) at ∙ is in
          let above = greatest-above told x j in
          absurd (other (omega (arith, low, number, above)))
    ]

    over-at : (p : ℕ) → IsPart S p → OverAt E S F heard p (K.closed p)
    over-at p part = let h = with-heard.heard.each p part in record {
      stands = A.prefix p part;
      led = (h.leadership, h.led, h.inside);
      calls = only-calls p part;
      everywhere = h.closed;
      over = A.over p part;
    }

    closed-low : (p : ℕ) → IsPart S p → (stage E p (K.closed p)).number ≤ greatest_told told
    closed-low p part =
        let (x, j, at) = tells p part in
        let number = ap (λ q. (stage E q (log q)).number) (sym at) ∙ number-of-log x j in
        let above = greatest-above told x j in
        let under = closed-number E S.words.deployment now heard log A p part in
        omega (arith, number, above, under)

    renumbered : Books E S F (heard_with K (term_of w) (greatest_told told) None) now
    renumbered = resting-books E S F heard now with-heard K.closed (greatest_told told) over-at closed-low A.even

-- ---- what it knows then of the calls that were applied

module _ (E : Database) (S : LogState) (F : Firm) (K : Transactions) (now stamp : ℕ) (H : LogsHold S) (B : Books E S F K now) (t : ℕ) (up : K.heard < t) (past : AllBefore K.submitted stamp)
    (told : List Heard) (states : AllByRecursion (StateOk E S F t) told) (tells : (p : ℕ) → IsPart S p → (x : Heard) × In x told × (x.part ≡ p))
    (replies : List LastReply) (rise : RepliesRise replies) where
  told-rise : AllByRecursion (λ x. RepliesRise x.replies) told
  told-rise = all-mono (StateOk E S F t) (λ x. RepliesRise x.replies) (λ x k. subst RepliesRise (sym k.replies_are) (last-replies-rise E x.part k.log)) told states

  -- what it knew, and that its replies rise
  pub told-keeps-all : RepliesRise (replies_told told replies) × ((o : Outcome) → Covered replies o → Covered (replies_told told replies) o)
  told-keeps-all = let k = told-keeps told told-rise replies rise in (k.0, covered-on replies (replies_told told replies) k.1)

  -- the ends in the log of a partition that told
  one-covered : (x : Heard) → In x told → StateOk E S F t x → (m : ℕ) (o : Outcome) → In (Done m o) (whole S K t x.part) → Covered (replies_told told replies) o
  one-covered x j k m o i = covered-on x.replies (replies_told told replies) (told-least told told-rise replies rise x j) o
      (subst (λ rs. Covered rs o) (sym k.replies_are) (log-covered E K.submitted x.part stamp past k.log m o asked in-log))
    where
      ok : CallsOk K.submitted x.part (whole S K t x.part)
      ok = subst (λ o. CallsOk K.submitted x.part (led_log o ++ K.due x.part t)) (sym k.led) (B.leaderships x.part t k.leadership k.part k.led).calls

      asked : OutcomeAsked K.submitted o
      asked = all-at (EntryAsked K.submitted x.part) (whole S K t x.part) ok.asked (Done m o) i

      is : ToldIs E S F (heard_with K t K.number K.agreed) x
      is = told-is E S F K now H B t up x k K.number K.agreed

      in-begun : In (Done m o) is.leadership.begun
      in-begun = elim (in-cases (Done m o) is.leadership.begun (drop (length is.leadership.begun) is.leadership.log)
          (subst (In (Done m o)) (told-whole E S F (heard_with K t K.number K.agreed) x is) i)) [
            | inl j ↦ j
            | inr j ↦ absurd (calls-no-end (drop (length is.leadership.begun) is.leadership.log) m o is.calls j)
          ]

      in-log : In (Done m o) k.log
      in-log = let (more, e) = k.behind in subst (In (Done m o)) (sym e) (in-left (Done m o) k.leadership.begun more
          (subst (λ g. In (Done m o) g.begun) (same-some (sym is.led ∙ k.led)) in-begun))

  pub told-covers : (number : ℕ) (agreed : Option Outcome) → CoversAll S (heard_with K t number agreed) (replies_told told replies)
  told-covers number agreed p m o part i =
      let (x, j, at) = tells p part in
      one-covered x j (all-at (StateOk E S F t) told states x j) m o (subst (λ q. In (Done m o) (whole S K t q)) (sym at) i)

-- ---- whose replies it knows then

module _ (E : Database) (S : LogState) (F : Firm) (K : Transactions) (now : ℕ) (H : LogsHold S) (B : Books E S F K now) (t : ℕ) (up : K.heard < t) where
  -- those of a partition that told: where an end is their source, that is firm in the new term
  state-known : (work : Option Work) (x : Heard) → StateOk E S F t x → AllByRecursion (KnownReply S F K.submitted t work) x.replies
  state-known work x k = subst (AllByRecursion (KnownReply S F K.submitted t work)) (sym k.replies_are)
      (all-mono (InLog K.submitted k.log) (KnownReply S F K.submitted t work) one (last_replies E x.part k.log)
      (replies-in-log E K.submitted x.part k.log (ok-prefix K.submitted x.part k.log (k.leadership.log ++ K.due x.part t) (prefix-grows k.log k.leadership.log (K.due x.part t) k.within) calls).asked))
    where
      g : Leadership
      g = k.leadership

      calls : CallsOk K.submitted x.part (g.log ++ K.due x.part t)
      calls = (B.leaderships x.part t g k.part k.led).calls

      -- no end stands behind what the term began with
      in-begun : (m : ℕ) (o : Outcome) → In (Done m o) k.log → In (Done m o) g.begun
      in-begun m o i =
          let (more, is) = k.within in
          let log = prefix-rest g.begun g.log (H.leaderships x.part t g k.led).grown in
          let behind = drop (length g.begun) g.log in
          elim (in-cases (Done m o) g.begun behind (subst (In (Done m o)) log (subst (In (Done m o)) (sym is) (in-left (Done m o) k.log more i)))) [
            | inl j ↦ j
            | inr j ↦ absurd (calls-no-end behind m o ((B.leaderships x.part t g k.part k.led).unheard up) j)
          ]

      one : (r : LastReply) → InLog K.submitted k.log r → KnownReply S F K.submitted t work r
      one r (inl alone) = inl (inl alone)
      one r (inr (m, o, i, answers)) = inl (inr (record {
        part = x.part;
        is_part = k.part;
        number = m;
        outcome = o;
        answers = answers;
        stood = in-stood S F x.part t g k.led g.begun (H.leaderships x.part t g k.led).grown k.everywhere (Done m o) (in-begun m o i);
      }))

  -- An end that is firm in the term before is so in the new one.
  end-kept : (x : Heard) → StateOk E S F t x → (r : LastReply) (k : KnownEnd S F K.heard r) → x.part ≡ k.part → KnownEnd S F t r
  end-kept x k r e at =
      let s : Stood S F x.part K.heard (Done e.number e.outcome) = subst (λ p. Stood S F p K.heard (Done e.number e.outcome)) (sym at) e.stood in
      let xs = s.stands.prefix ++ Done e.number e.outcome ∷ [] in
      let long : length xs ≡ s.position = length_push s.stands.prefix (Done e.number e.outcome) ∙ s.stands.at in
      let (within, everywhere) = told-prefix E S F K now H B t up x k s.leadership s.led xs s.stands.stands (subst (Everywhere S F x.part K.heard) (sym long) s.everywhere) in
      record {
        part = x.part;
        is_part = k.part;
        number = e.number;
        outcome = e.outcome;
        answers = e.answers;
        stood = in-stood S F x.part t k.leadership k.led xs (prefix-trans xs k.leadership.begun k.leadership.log within (H.leaderships x.part t k.leadership k.led).grown) everywhere
            (Done e.number e.outcome) (in-right (Done e.number e.outcome) s.stands.prefix (Done e.number e.outcome ∷ []) (inl refl));
      }

  -- all of them
  pub told-known : (told : List Heard) → AllByRecursion (StateOk E S F t) told → ((p : ℕ) → IsPart S p → (x : Heard) × In x told × (x.part ≡ p)) → (work : Option Work) (replies : List LastReply)
      → AllByRecursion (KnownReply S F K.submitted K.heard work) replies → AllByRecursion (KnownReply S F K.submitted t work) (replies_told told replies)
  told-known told states tells work replies known = each-told (KnownReply S F K.submitted t work) told
      (all-mono (StateOk E S F t) (λ x. AllByRecursion (KnownReply S F K.submitted t work) x.replies) (state-known work) told states) replies
      (all-mono (KnownReply S F K.submitted K.heard work) (KnownReply S F K.submitted t work) still replies known)
    where
      still : (r : LastReply) → KnownReply S F K.submitted K.heard work r → KnownReply S F K.submitted t work r
      still r (inl (inl one)) = inl (inl one)
      still r (inl (inr e)) = let (x, i, at) = tells e.part e.is_part in inl (inr (end-kept x (all-at (StateOk E S F t) told states x i) r e at))
      still r (inr own) = inr own

-- ---- the turn

module _ (E : Database) (S : LogState) (F : Firm) (K : Transactions) (now stamp n : ℕ) (w : Membership) (lay : LaidOut S) (H : LogsHold S) (B : Books E S F K now) (l : now ≤ stamp)
    (i : Initiates S n w) (a : AgentState) (start : a.start ≡ (S.words.agents n).start) (word : a.decided ≡ Some w) (past : AllBefore K.submitted stamp) (knows : Knows S F K a.initiating) (asks : JobsAsked K.submitted a.initiating) where
  -- what has been told by then, with the last one that was
  module _ (told : List Heard) (k : PhaseOk E S F K (term_of w) a (Hears told)) where
    module _ (tells : (p : ℕ) → IsPart S p → (x : Heard) × In x told × (x.part ≡ p)) where
      -- All is told, and the history goes on with this number, and this outcome if there is one.
      -- what it knows then
      known-then : RepliesRise (replies_told told a.initiating.replies) × ((o : Outcome) → Covered a.initiating.replies o → Covered (replies_told told a.initiating.replies) o)
      known-then = told-keeps-all E S F K now stamp H B (term_of w) k.0 past told k.1 tells a.initiating.replies knows.rise

      goes-on : (number : ℕ) (agreed : Option Outcome) → Books E S F (heard_with K (term_of w) number agreed) now
          → (b : AgentState) → b.start ≡ a.start → b.decided ≡ a.decided → b.waiting ≡ a.waiting → number < b.initiating.next
          → b.initiating.work ≡ a.initiating.work → b.initiating.queue ≡ a.initiating.queue → b.initiating.replies ≡ replies_told told a.initiating.replies
          → JobOk (heard_with K (term_of w) number agreed) b.initiating.work → InitiatorActs E S F K stamp n w a (closes_open E S.words.deployment n b told (open_told told))
      goes-on number agreed C b s d x next work queue replies job =
          let up = k.0 in
          goes-from E S F K stamp n w a (heard_with K (term_of w) number agreed) b (closes_open E S.words.deployment n b told (open_told told)) refl refl (omega (arith, up)) s d x
          (closes_open-goes E S F (heard_with K (term_of w) number agreed) now stamp n w lay H C l i b (s ∙ start) (d ∙ word) refl next job told
          (stand E S F K now n w H B i k.0 told k.1 tells number agreed) tells
          (subst RepliesRise (sym replies) known-then.0)
          (subst (CoversAll S (heard_with K (term_of w) number agreed)) (sym replies) (told-covers E S F K now stamp H B (term_of w) k.0 past told k.1 tells a.initiating.replies knows.rise number agreed))
          (λ y o is decision. subst (λ rs. Covered rs o) (sym replies) (known-then.1 o (knows.decided y o (sym work ∙ is) decision)))
          (subst (λ z. AllByRecursion (KnownReply S F K.submitted (term_of w) z) b.initiating.replies) (sym work) (subst (AllByRecursion (KnownReply S F K.submitted (term_of w) a.initiating.work)) (sym replies)
          (told-known E S F K now H B (term_of w) k.0 told k.1 tells a.initiating.work a.initiating.replies knows.from)))
          (subst (AllByRecursion (QueuedAsked K.submitted)) (sym queue) asks.0, subst (OnSome (WorkAsked K.submitted)) (sym work) asks.1)
          (λ y o is decision. knows.outcome y o (sym work ∙ is) decision))

      -- a new initiator goes on from the greatest number that was told
      abbrev first : AgentState
      first = record a { initiating = record a.initiating { next = greatest_told told + 1 } }

      first-goes : a.initiating.work ≡ None → InitiatorActs E S F K stamp n w a (closes_open E S.words.deployment n (knows_told first told) told (open_told told))
      first-goes none = elim (cases_eq (greatest_told told) K.number) [
        | inl same ↦ goes-on K.number K.agreed (with-heard E S F K now n w H B i k.0 told k.1 tells) (knows_told first told) refl refl refl (omega (arith, same)) refl refl refl k.2
        | inr other ↦ goes-on (greatest_told told) None (renumbered E S F K now n w H B i k.0 told k.1 tells other) (knows_told first told) refl refl refl (omega arith) refl refl refl
            (subst (JobOk (heard_with K (term_of w) (greatest_told told) None)) (sym none) tt)
      ]

      next-or-new : (a.initiating.next ≡ 0 → ⊥) → K.number < a.initiating.next
      next-or-new some = elim k.3 [ inl new ↦ absurd (some new.0) | inr next ↦ next ]

      work-of-new : a.initiating.next ≡ 0 → a.initiating.work ≡ None
      work-of-new none = elim k.3 [ inl new ↦ new.1 | inr next ↦ absurd (omega (arith, none, next)) ]

      all-told : InitiatorActs E S F K stamp n w a (closes_open E S.words.deployment n (knows_told (first_number a told) told) told (open_told told))
      all-told = choice (a.initiating.next == 0) refl
        where
          choice : (b : Bool) → (a.initiating.next == 0) ≡ b → InitiatorActs E S F K stamp n w a (closes_open E S.words.deployment n (knows_told (if b then first else a) told) told (open_told told))
          choice true is = first-goes (work-of-new (eqb-true a.initiating.next 0 is))
          choice false is = goes-on K.number K.agreed (with-heard E S F K now n w H B i k.0 told k.1 tells) (knows_told a told) refl refl refl (next-or-new (eqb-false a.initiating.next 0 is)) refl refl refl k.2

    hears-all : InitiatorActs E S F K stamp n w a (hears E S.words.deployment n a told)
    hears-all = goes-if E S F K stamp n w a _ _ _ (λ all. all-told (told-by S told all)) (λ some. goes-still E S F K stamp n w a now (with_phase a (Hears told)) B l refl refl refl k
        (record { rise = knows.rise; covers = tt; decided = knows.decided; fresh = λ x works. absurd (cc); from = knows.from; first = knows.first; outcome = knows.outcome }))

  -- The leader of partition p tells how it stands.
  module _ (k : PhaseOk E S F K (term_of w) a a.initiating.phase) (x : Heard)
      (state : K.heard < term_of w → StateOk E S F (term_of w) x) where
    still : InitiatorActs E S F K stamp n w a (becomes a)
    still = goes-still E S F K stamp n w a now a B l refl refl refl k knows

    hears-goes : (told : List Heard) → PhaseOk E S F K (term_of w) a (Hears told) → InitiatorActs E S F K stamp n w a (on_mp_state E S.words.deployment n a (Hears told) x)
    hears-goes told h = goes-if E S F K stamp n w a _ _ _ (λ again. still)
        (λ new. hears-all (told ++ x ∷ []) (
          h.0,
          all-append (StateOk E S F (term_of w)) told (x ∷ []) h.1 (state h.0, tt),
          h.2,
          h.3,
        ))

    -- In any phase.
    pub mp_state-goes : InitiatorActs E S F K stamp n w a (on_mp_state E S.words.deployment n a a.initiating.phase x)
    mp_state-goes = choice a.initiating.phase k
      where
        choice : (phase : Phase) → PhaseOk E S F K (term_of w) a phase → InitiatorActs E S F K stamp n w a (on_mp_state E S.words.deployment n a phase x)
        choice Off h = absurd h
        choice (Hears told) h = hears-goes told h
        choice phase h = still
