-- What holds of transactions, holds after an event that only adds to logs.
use Rattle.volt_wire.specs.declared.message.Msg.TheVariants as msg
use Rattle.transaction_laws.proofs.Names.{CallsOk, KnownEnd, KnownReply, CoversAll, CoversIn, Initiating, Knows, LastReply, Submissions, AgentCalls, AgentState, Aligned, AllByRecursion, AnswerOk, AtHand, Books, Closes, Database, Deployment, Done, DueOk, Entry, Everywhere, Fed, Firm, Frag, Heard, HeardOk, HeardPart, Hears, Idle, In, IsCall, IsEnded, IsPart, Last, Leadership, LeadershipFits, Letter, List, LogState, Logs, LogsHold, Membership, NoRound, None, OfNumber, Off, OnlyCalls, Option, OrderOk, Outcome, Phase, PhaseOk, Prefix, Settled, Site, Some, Stage, StateOk, Stood, ToSiteOk, Transactions, Waiting, WaitingAnswer, WellFormed, Work, Works, [], agrees-begun, all-append, all-at, all-behind, all-first, all-mono, ap, append-nil, append_assoc, arith, base-least, cases_Bool, cases_eq, drop, drop-append-le, drop-append_seam, epoch_base, first_stage, heard_of, in-cases, in-left, in-right, initiator, initiator-member, inl, inr, known, last-below, last_done, leader, led_log, length, length-take, member-is, nat_lt, none-and-some, not-both, open_in, part, part_of_slot, parts, point_in, prefix-append, prefix-grows, prefix-length, prefix-rest, prefix-take, prefix-trans, prefixes-order, refl, same-some, since, slots, stage, stage_behind, standing, start_of_slot, subst, suc, sym, take, term_in, term_of, true, whole, zero, ℕ, ◌++◌, ◌+◌, ◌<◌, ◌∙◌, ◌∷◌, ◌≡◌, ◌≤◌, ◌⊎◌}
use Rattle.transaction_laws.proofs.Kept.Moves.{Onto, BeginsTerm, GoesOnTerm, Moved, with_due, Under, CallsAt}
use Rattle.transaction_laws.proofs.Entries.Machine.{AtMostOne, formed-append, formed-prefix, prefix-point, calls-only, calls-formed, calls-point, due-formed, due-opened, due-number, due-point, stage-append}
use Rattle.transaction_laws.proofs.Entries.Since.{call-number, call-round, call-no-order}
use Rattle.transaction_laws.proofs.Entries.Calls.{ok-between, ok-first, ok-prefix}
use Rattle.transaction_laws.proofs.Entries.Aligned.{under-refl, under-prefix, under-trans, under-calls, aligned-under}

-- ---- what only grows

pub everywhere-on : (S T : LogState) (F M : Firm) → Onto S T F M → (p t n : ℕ) → Everywhere S F p t n → Everywhere T M p t n
everywhere-on S T F M o p t n k = record { reach = omega (arith, k.reach, o.onward.reach p t); firm = omega (arith, k.firm, o.firm p) }

pub stood-on : (S T : LogState) (F M : Firm) → Onto S T F M → (p t : ℕ) (e : Entry) → Stood S F p t e → Stood T M p t e
stood-on S T F M o p t e k = let h = o.onward.kept p t k.leadership k.led in record {
  leadership = h.0;
  led = h.1;
  position = k.position;
  stands = record {
    prefix = k.stands.prefix;
    stands = prefix-trans (k.stands.prefix ++ e ∷ []) k.leadership.log h.0.log k.stands.stands h.3;
    at = k.stands.at;
  };
  everywhere = everywhere-on S T F M o p t k.position k.everywhere;
}

-- what is known of a last reply
pub end-on : (S T : LogState) (F M : Firm) → Onto S T F M → (t : ℕ) (r : LastReply) → KnownEnd S F t r → KnownEnd T M t r
end-on S T F M o t r k = record {
  part = k.part;
  is_part = subst (λ D. nat_lt k.part (parts D) ≡ true) (sym o.deployment) k.is_part;
  number = k.number;
  outcome = k.outcome;
  answers = k.answers;
  stood = stood-on S T F M o k.part t (Done k.number k.outcome) k.stood;
}

pub known-on : (S T : LogState) (F M : Firm) → Onto S T F M → (A : Submissions) (t : ℕ) (work : Option Work) (r : LastReply) → KnownReply S F A t work r → KnownReply T M A t work r
known-on S T F M o A t work r (inl (inl one)) = inl (inl one)
known-on S T F M o A t work r (inl (inr k)) = inl (inr (end-on S T F M o t r k))
known-on S T F M o A t work r (inr own) = inr own

pub state-on : (E : Database) (S T : LogState) (F M : Firm) → Onto S T F M → (t : ℕ) (x : Heard) → StateOk E S F t x → StateOk E T M t x
state-on E S T F M o t x k = let h = o.onward.kept x.part t k.leadership k.led in record {
  part = subst (λ D. nat_lt x.part (parts D) ≡ true) (sym o.deployment) k.part;
  leadership = h.0;
  led = h.1;
  told = ap (λ b. standing (open_in b) (last_done E x.part b) x.replies) h.2 ∙ k.told;
  everywhere = subst (λ b. Everywhere T M x.part t (length b)) (sym h.2) (everywhere-on S T F M o x.part t (length k.leadership.begun) k.everywhere);
  top = o.tops x.part t 0 k.top;
  log = k.log;
  behind = subst (λ b. Prefix b k.log) (sym h.2) k.behind;
  within = prefix-trans k.log k.leadership.log h.0.log k.within h.3;
  replies_are = k.replies_are;
}

pub answer-on : (E : Database) (S T : LogState) (F M : Firm) → Onto S T F M → (K L : Transactions) → K.heard ≤ L.heard → (p : ℕ) (l : Letter) → AnswerOk E S F K p l → AnswerOk E T M L p l
answer-on E S T F M o K L h p l k = elim l.body as (λ m. AnswerOk E S F K p (record l { body = m }) → AnswerOk E T M L p (record l { body = m })) [
  | msg.FragDone m round partial ↦ λ k. (k.0, (k.1.0, stood-on S T F M o p l.term (Frag m round k.1.0) k.1.1))
  | msg.Finished m ↦ λ k. (k.0, (k.1.0, stood-on S T F M o p l.term (Done m k.1.0) k.1.1))
  | msg.MpState m is_open outcome replies ↦ λ k. (k.0, λ above. state-on E S T F M o l.term (heard_of p m is_open outcome replies) (k.1 (omega (arith, h, above))))
  | _ ↦ λ k. tt
] k

-- of one that waits for an agent
pub waiting-on : (E : Database) (S T : LogState) (F M : Firm) → Onto S T F M → (K L : Transactions) → K.heard ≤ L.heard → (x : Waiting) → WaitingAnswer E S F K x → WaitingAnswer E T M L x
waiting-on E S T F M o K L h x k = elim x.from as (λ a. WaitingAnswer E S F K (record x { from = a }) → WaitingAnswer E T M L (record x { from = a })) [
  | Site c ↦ λ k. subst (λ D. (nat_lt c (slots D) ≡ true) × AnswerOk E T M L (part_of_slot D c) x.letter) (sym o.deployment) (k.0, answer-on E S T F M o K L h (part S c) x.letter k.1)
  | _ ↦ λ k. tt
] k

order-on : (S T : LogState) (F M : Firm) → Onto S T F M → (h c : ℕ) (l : Letter) → OrderOk S h c l → OrderOk T h c l
order-on S T F M o h c l k = let r = o.onward.kept (part S c) l.term k.leadership k.led in record {
  addressed = k.addressed;
  word = k.word;
  is_word = record { decided = o.decided k.word k.is_word.decided; term_is = k.is_word.term_is };
  by = k.by;
  initiates = k.initiates;
  leads = subst (λ D. leader D k.word (part_of_slot D c) ≡ Some c) (sym o.deployment) k.leads;
  start_is = subst (λ D. start_of_slot D k.word c ≡ Some l.start) (sym o.deployment) k.start_is;
  leadership = r.0;
  led = subst (λ D. T.logs.leadership (part_of_slot D c) l.term ≡ Some r.0) (sym o.deployment) r.1;
}

pub to_site-on : (S T : LogState) (F M : Firm) → Onto S T F M → (h c : ℕ) (l : Letter) → ToSiteOk S h c l → ToSiteOk T h c l
to_site-on S T F M o h c l k = elim l.body as (λ m. ToSiteOk S h c (record l { body = m }) → ToSiteOk T h c (record l { body = m })) [
  | msg.Frag m round body ↦ λ k. order-on S T F M o h c (record l { body = msg.Frag m round body }) k
  | msg.Done m outcome ↦ λ k. order-on S T F M o h c (record l { body = msg.Done m outcome }) k
  | _ ↦ λ k. tt
] k

-- what is said of a partition in the term that was heard
heard-part : (S T : LogState) (F M : Firm) → Onto S T F M → (K : Transactions) (due : ℕ → ℕ → List Entry) (p : ℕ) → HeardPart S F K p → HeardPart T M (with_due K due) p
heard-part S T F M o K due p k = let h = o.onward.kept p K.heard k.leadership k.led in record {
  leadership = h.0;
  led = h.1;
  inside = prefix-trans (K.closed p) k.leadership.log h.0.log k.inside h.3;
  closed = everywhere-on S T F M o p K.heard (length (K.closed p)) k.closed;
  decided = λ x e. let d = k.decided x e in
      (prefix-trans (K.decided p) k.leadership.log h.0.log d.0 h.3, everywhere-on S T F M o p K.heard (length (K.decided p)) d.1);
  top = o.tops p K.heard 0 k.top;
}

-- with another outcome that is agreed, where what stood there when that was decided is firm
pub part-agreed : (S : LogState) (F : Firm) (K : Transactions) (number : ℕ) (agreed : Option Outcome) (decided : ℕ → List Entry) (due : ℕ → ℕ → List Entry) (p : ℕ) (h : HeardPart S F K p)
    → ((x : ℕ) → point_in agreed ≡ Some x → Prefix (decided p) h.leadership.log × Everywhere S F p K.heard (length (decided p)))
    → HeardPart S F (record K { number = number; agreed = agreed; decided = decided; due = due }) p
part-agreed S F K number agreed decided due p h d = record { leadership = h.leadership; led = h.led; inside = h.inside; closed = h.closed; decided = d; top = h.top }

-- What is settled stays so with another history of the last transaction, if nothing is due there still.
pub settled-with : (E : Database) (S : LogState) (F : Firm) (K L : Transactions) (p : ℕ) → L.heard ≡ K.heard → L.due p K.heard ≡ [] → Settled E S F K p → Settled E S F L p
settled-with E S F K L p same none s = record {
  none = rw same none;
  leadership = s.leadership;
  led = rw same s.led;
  prefix = s.prefix;
  stands = s.stands;
  calls = s.calls;
  everywhere = rw same s.everywhere;
  over = s.over;
}

-- ---- terms that were led and whose initiator hasn't heard of all

-- What a term begins with is a prefix of the log of the last one before that was led.
begun-behind : (S : LogState) → LogsHold S → (p t : ℕ) (g : Leadership) → S.logs.leadership p t ≡ Some g → epoch_base S < t → (v : ℕ) × (l : Last S.logs p v t) × Prefix g.begun l.leadership.log
begun-behind S H p t g is above =
    let r = (H.leaderships p t g is).begun_by above in
    let entered = H.entered r.0 t r.1 r.4 in
    let l = last-below S H p t above in
    let behind = (subst (λ q. (x : Last S.logs q l.0 t) → Prefix r.1.log x.leadership.log × (known r.1 ≤ S.logs.reach q l.0)) r.3 (entered.behind l.0) l.1).0 in
    (l.0, l.1, subst (λ z. Prefix z l.1.leadership.log) r.5 behind)

-- In such a term the leader's log has no round and no end that isn't in that of the term that was heard, in its place.
pub inert-leadership : (E : Database) (S : LogState) (F : Firm) (K : Transactions) (now : ℕ) → LogsHold S → Books E S F K now → (p t : ℕ) (g h : Leadership) → IsPart S p
    → S.logs.leadership p K.heard ≡ Some g → S.logs.leadership p t ≡ Some h → K.heard ≤ t → Under h.log g.log
inert-leadership E S F K now H B p t g h part led is up = upwards (t + 1) t h (omega arith) is up
  where
    above-base : (t : ℕ) → K.heard < t → epoch_base S < t
    above-base t above = let k = H.leaderships p K.heard g led in omega (arith, base-least S H k.word k.is_word.decided, k.is_word.term_is, above)

    same : (t : ℕ) (h : Leadership) → S.logs.leadership p t ≡ Some h → t ≡ K.heard → Under h.log g.log
    same t h is e = subst (λ x. Under x.log g.log) (same-some (sym led ∙ ap (S.logs.leadership p) (sym e) ∙ is)) (under-refl g.log)

    upwards : (m t : ℕ) (h : Leadership) → t < m → S.logs.leadership p t ≡ Some h → K.heard ≤ t → Under h.log g.log
    upwards zero t h small is up = absurd (omega (arith, small))
    upwards (suc m) t h small is up = elim (cases_eq t K.heard) [
      | inl e ↦ same t h is e
      | inr d ↦
          let above : K.heard < t = omega (arith, up, d) in
          let b = begun-behind S H p t h is (above-base t above) in
          let low = b.1.greatest K.heard g led above in
          let begun = under-trans h.begun b.1.leadership.log g.log (under-prefix h.begun b.1.leadership.log b.2)
          (upwards m b.0 b.1.leadership (omega (arith, b.1.below, small)) b.1.led low) in
          subst (λ z. Under z g.log) (sym (prefix-rest h.begun h.log (H.leaderships p t h is).grown))
          (under-calls h.begun g.log (drop (length h.begun) h.log) begun ((B.leaderships p t h part is).unheard above))
    ]

-- What is everywhere in a term is a prefix of the log of a later one, from its beginning on.
pub everywhere-prefix : (S : LogState) (F : Firm) → LogsHold S → (p t u : ℕ) (g h : Leadership) (xs : List Entry) → S.logs.leadership p t ≡ Some g → S.logs.leadership p u ≡ Some h → t < u
    → Prefix xs g.log → Everywhere S F p t (length xs) → Prefix xs h.begun
everywhere-prefix S F H p t u g h xs led is l f k =
    let a = agrees-begun S H p t g led u h is l in
    let n = S.logs.reach p t in
    prefix-trans xs (take n g.log) h.begun
    (prefixes-order xs (take n g.log) g.log f (prefix-take n g.log) (omega (arith, length-take n g.log, (H.leaderships p t g led).within, k.reach))) a.1

-- ---- calls that run between a log and what is due behind it

-- xs is a log with what is due, and ys the same with calls between.
record Between (E : Database) (A : Submissions) (p stamp : ℕ) (xs ys : List Entry) : Type 0 where
  log : List Entry
  calls : List Entry
  due : List Entry
  was : xs ≡ log ++ due
  is : ys ≡ (log ++ calls) ++ due
  at : CallsAt stamp calls
  one : AtMostOne due
  room : (calls ≡ []) ⊎ ((stage E p log).opened ≡ None)
  once : CallsOk A p log → CallsOk A p (log ++ calls)

module _ (E : Database) (A : Submissions) (p stamp : ℕ) (xs ys : List Entry) (b : Between E A p stamp xs ys) where
  -- the same is open, with the same number
  between-opened : (stage E p ys).opened ≡ (stage E p xs).opened
  between-opened = ap (λ z. (stage E p z).opened) b.is ∙ due-opened (first_stage E p) b.log b.calls b.due stamp b.at ∙ ap (λ z. (stage E p z).opened) (sym b.was)

  between-number : (stage E p ys).number ≡ (stage E p xs).number
  between-number = ap (λ z. (stage E p z).number) b.is ∙ due-number (first_stage E p) b.log b.calls b.due stamp b.at ∙ ap (λ z. (stage E p z).number) (sym b.was)

  between-low : WellFormed (first_stage E p) xs → (stage E p xs).point ≤ stamp → (stage E p b.log).point ≤ stamp
  between-low h l = omega (arith, prefix-point (first_stage E p) b.log xs (b.due, b.was) h, l)

  between-formed : WellFormed (first_stage E p) xs → (stage E p xs).point ≤ stamp → WellFormed (first_stage E p) ys
  between-formed h l = subst (WellFormed (first_stage E p)) (sym b.is)
      (due-formed (first_stage E p) b.log b.calls b.due stamp b.one (subst (WellFormed (first_stage E p)) b.was h) b.at b.room (between-low h l))

  between-point : WellFormed (first_stage E p) xs → (stage E p xs).point ≤ stamp → (stage E p ys).point ≤ stamp
  between-point h l = subst (λ z. (stage E p z).point ≤ stamp) (sym b.is)
      (due-point (first_stage E p) b.log b.calls b.due stamp b.one b.at (between-low h l) (subst (λ z. (stage E p z).point ≤ stamp) b.was l))

  -- what is behind a position in the log, with and without the calls
  drop-was : (n : ℕ) → n ≤ length b.log → drop n xs ≡ drop n b.log ++ b.due
  drop-was n l = ap (drop n) b.was ∙ drop-append-le n b.log b.due l

  drop-is : (n : ℕ) → n ≤ length b.log → drop n ys ≡ drop n b.log ++ (b.calls ++ b.due)
  drop-is n l = ap (drop n) (b.is ∙ append_assoc b.log b.calls b.due) ∙ drop-append-le n b.log (b.calls ++ b.due) l

  between-all : (P : Entry → Type 0) → ((x : Entry) → IsCall x → P x) → (n : ℕ) → n ≤ length b.log → AllByRecursion P (drop n xs) → AllByRecursion P (drop n ys)
  between-all P calls n l h =
      let k = subst (AllByRecursion P) (drop-was n l) h in
      subst (AllByRecursion P) (sym (drop-is n l)) (all-append P (drop n b.log) (b.calls ++ b.due) (all-first P (drop n b.log) b.due k)
      (all-append P b.calls b.due (all-mono IsCall P calls b.calls (calls-only stamp b.calls b.at)) (all-behind P (drop n b.log) b.due k)))

  between-in : (x : Entry) → (IsCall x → ⊥) → (n : ℕ) → n ≤ length b.log → In x (drop n ys) → In x (drop n xs)
  between-in x order n l i = subst (In x) (sym (drop-was n l)) (elim (in-cases x (drop n b.log) (b.calls ++ b.due) (subst (In x) (drop-is n l) i)) [
    | inl k ↦ in-left x (drop n b.log) b.due k
    | inr k ↦ elim (in-cases x b.calls b.due k) [
      | inl c ↦ absurd (order (all-at IsCall b.calls (calls-only stamp b.calls b.at) x c))
      | inr d ↦ in-right x (drop n b.log) b.due d
    ]
  ])

  -- each call stands once, still
  between-ok : CallsOk A p xs → CallsOk A p ys
  between-ok h =
      let k = subst (CallsOk A p) b.was h in
      subst (CallsOk A p) (sym b.is) (ok-between A p b.log b.calls b.due k (b.once (ok-first A p b.log b.due k)) (calls-only stamp b.calls b.at) (orders b.one))
    where
      orders : AtMostOne b.due → AllByRecursion (λ x. IsCall x → ⊥) b.due
      orders (inl none) = subst (AllByRecursion (λ x. IsCall x → ⊥)) (sym none) tt
      orders (inr (x, is, order)) = subst (AllByRecursion (λ y. IsCall y → ⊥)) (sym is) (λ c. call-no-order x c order, tt)

  between-prefix : (zs : List Entry) → Prefix zs b.log → Prefix zs ys
  between-prefix zs f = subst (Prefix zs) (sym b.is) (prefix-grows zs (b.log ++ b.calls) b.due (prefix-grows zs b.log b.calls f))

-- ---- what was due, and what is left of it

rest-none : (taken next : List Entry) → taken ++ next ≡ [] → (taken ≡ []) × (next ≡ [])
rest-none [] next e = (refl, e)
rest-none (x ∷ xs) next e = absurd (cc)

rest-one : (taken next : List Entry) (x : Entry) → taken ++ next ≡ x ∷ [] → (next ≡ []) ⊎ (next ≡ x ∷ [])
rest-one [] next x e = inr e
rest-one (y ∷ ys) next x e = let none : ys ++ next ≡ [] = cc in inl (rest-none ys next none).1

-- what is left of one order at most
one-rest : (due taken next : List Entry) → due ≡ taken ++ next → AtMostOne due → AtMostOne next
one-rest due taken next e (inl none) = inl (rest-none taken next (sym e ∙ none)).1
one-rest due taken next e (inr (x, is, order)) = elim (rest-one taken next x (sym e ∙ is)) [ inl none ↦ inl none | inr one ↦ inr (x, one, order) ]

due-one : (S : LogState) (K : Transactions) (p t : ℕ) → DueOk S K p t → AtMostOne (K.due p t)
due-one S K p t (inl none) = inl none
due-one S K p t (inr (x, g, is, order, led, l)) = inr (x, is, order)

-- so it is with the log of a leader that took what was due
abbrev between-goes : (E : Database) (A : Submissions) (F G : Logs) (due next : List Entry) (stamp p t : ℕ) (k : GoesOnTerm E A F G due next stamp p t) → AtMostOne due
    → Between E A p stamp (k.old.log ++ due) (k.new.log ++ next)
between-goes E A F G due next stamp p t k one = record {
  log = k.old.log ++ k.taken;
  calls = k.runs.calls;
  due = next;
  was = ap (λ z. k.old.log ++ z) k.due_is ∙ sym (append_assoc k.old.log k.taken next);
  is = ap (λ z. z ++ next) k.runs.is;
  at = k.runs.at;
  one = one-rest due k.taken next k.due_is one;
  room = k.runs.room;
  once = λ h. subst (CallsOk A p) k.runs.is (k.runs.once h);
}

-- where nothing was due, only calls were added
goes-inert : (E : Database) (A : Submissions) (F G : Logs) (due next : List Entry) (stamp p t : ℕ) (k : GoesOnTerm E A F G due next stamp p t) → due ≡ []
    → (next ≡ []) × (k.new.log ≡ k.old.log ++ k.runs.calls) × (k.old.log ++ k.taken ≡ k.old.log)
goes-inert E A F G due next stamp p t k none =
    let r = rest-none k.taken next (sym k.due_is ∙ none) in
    let log = ap (λ z. k.old.log ++ z) r.0 ∙ append-nil k.old.log in
    (r.1, k.runs.is ∙ ap (λ z. z ++ k.runs.calls) log, log)

-- ---- the turn of a site

-- The initiator of a decided word that still runs has a word of a term that isn't lower, if it had one.
abbrev pub KeepsWords : LogState → LogState → ℕ → Type 0
KeepsWords S T heard = (w : Membership) (h a : ℕ) → In w S.words.history.decided → initiator w ≡ Some (h, a) → 0 < a → (T.words.agents h).start ≡ a
    → ((S.words.agents h).start ≡ a → heard ≤ term_in (S.words.agents h).decided) → heard ≤ term_in (T.words.agents h).decided

-- where agents stay as they are
pub keeps-same : (S T : LogState) (heard : ℕ) → T.words.agents ≡ S.words.agents → KeepsWords S T heard
keeps-same S T heard same w h a d first some is before = let e = ap (λ f. f h) same in rw e (before (sym (ap (λ x. x.start) e) ∙ is))

-- All that words and logs hold, where a term begins.
module _ (E : Database) (S T : LogState) (F M : Firm) (K : Transactions) (now stamp : ℕ) (due : ℕ → ℕ → List Entry) (later : now ≤ stamp) (H : LogsHold S)
    (J : (p t : ℕ) → BeginsTerm E K.submitted S.logs T.logs (K.due p t) (due p t) stamp p t → LogsHold T) (o : Onto S T F M)
    (moved : (p t : ℕ) → IsPart S p → Moved E K.submitted S.logs T.logs K.due due stamp p t) (B : Books E S F K now) where
  abbrev L : Transactions
  L = with_due K due

  -- what the leader of a term took
  abbrev Went : ℕ → ℕ → Type 0
  Went p t = GoesOnTerm E K.submitted S.logs T.logs (K.due p t) (due p t) stamp p t

  -- a term that was led goes on
  goes-at : (p t : ℕ) (g : Leadership) → IsPart S p → S.logs.leadership p t ≡ Some g → (k : Went p t) × (k.old ≡ g)
  goes-at p t g part led = from (moved p t part)
    where
      from : Moved E K.submitted S.logs T.logs K.due due stamp p t → (k : Went p t) × (k.old ≡ g)
      from (inl (same, next)) = (
        record {
          old = g;
          was = led;
          new = g;
          is = same ∙ led;
          begun = refl;
          taken = [];
          due_is = sym next;
          runs = record {
            calls = [];
            is = sym (append-nil g.log) ∙ ap (λ z. z ++ []) (sym (append-nil g.log));
            at = tt;
            room = inl refl;
            once = subst (CallsOk K.submitted p) (append-nil g.log);
          };
        },
        refl,
      )
      from (inr (inl k)) = absurd (none-and-some k.none led)
      from (inr (inr k)) = (k, same-some (sym k.was ∙ led))

  -- of what was due, the leader took the first part, or nothing
  taken-at : (p t : ℕ) → IsPart S p → (taken : List Entry) × (K.due p t ≡ taken ++ due p t)
  taken-at p t part = elim (moved p t part) [
    | inl (same, next) ↦ ([], sym next)
    | inr (inl k) ↦ ([], k.before ∙ sym k.after)
    | inr (inr k) ↦ (k.taken, k.due_is)
  ]

  -- what is left of what was due
  due-on : (p t : ℕ) (taken : List Entry) → K.due p t ≡ taken ++ due p t → DueOk T L p t
  due-on p t taken e = from (B.due p t)
    where
      from : DueOk S K p t → DueOk T L p t
      from (inl none) = inl (rest-none taken (due p t) (sym e ∙ none)).1
      from (inr (x, g, is, order, led, l)) = elim (rest-one taken (due p t) x (sym e ∙ is)) [
        | inl none ↦ inl none
        | inr one ↦ let h = o.onward.kept p t g led in inr (x, h.0, one, order, h.1, l)
      ]

  due-at : ((p t : ℕ) → (IsPart S p → ⊥) → due p t ≡ K.due p t) → (p t : ℕ) → DueOk T L p t
  due-at others p t = elim (cases_Bool (nat_lt p (parts S.words.deployment))) [
    | inl is ↦ let r = taken-at p t is in due-on p t r.0 r.1
    | inr out ↦ due-on p t [] (sym (others p t (λ is. not-both (nat_lt p (parts S.words.deployment)) is out)))
  ]

  -- ---- the logs of leaders

  -- In a term whose initiator hasn't heard of all nothing is due.
  unheard-none : (p t : ℕ) → K.heard < t → K.due p t ≡ []
  unheard-none p t above = elim (B.due p t) [ inl none ↦ none | inr (x, g, is, order, led, l) ↦ absurd (omega (arith, above, l)) ]

  -- where the term was led before
  fits-led : (p t : ℕ) → IsPart S p → (k : Went p t) → LeadershipFits E T L stamp p t k.new
  fits-led p t part k = record {
    formed = between-formed E K.submitted p stamp (k.old.log ++ K.due p t) (k.new.log ++ due p t) b f.formed (omega (arith, f.past, later));
    past = between-point E K.submitted p stamp (k.old.log ++ K.due p t) (k.new.log ++ due p t) b f.formed (omega (arith, f.past, later));
    unheard = λ above.
        let q = goes-inert E K.submitted S.logs T.logs (K.due p t) (due p t) stamp p t k (unheard-none p t above) in
        let n = length k.old.begun in
        let e : drop n k.new.log ≡ drop n k.old.log ++ k.runs.calls =
        ap (drop n) q.1 ∙ drop-append-le n k.old.log k.runs.calls (prefix-length k.old.begun k.old.log (H.leaderships p t k.old k.was).grown) in
        subst (λ z. OnlyCalls (drop (length z) k.new.log)) (sym k.begun) (subst OnlyCalls (sym e)
        (all-append IsCall (drop n k.old.log) k.runs.calls (f.unheard above) (calls-only stamp k.runs.calls k.runs.at)));
    calls = between-ok E K.submitted p stamp (k.old.log ++ K.due p t) (k.new.log ++ due p t) b f.calls;
  }
    where
      f : LeadershipFits E S K now p t k.old
      f = B.leaderships p t k.old part k.was

      b : Between E K.submitted p stamp (k.old.log ++ K.due p t) (k.new.log ++ due p t)
      b = between-goes E K.submitted S.logs T.logs (K.due p t) (due p t) stamp p t k (due-one S K p t (B.due p t))

  abbrev FitsThen : ℕ → ℕ → Leadership → Type 0
  FitsThen p t g = LeadershipFits E T L stamp p t g

  abbrev Starts : ℕ → ℕ → Type 0
  Starts p t = BeginsTerm E K.submitted S.logs T.logs (K.due p t) (due p t) stamp p t

  -- what a new term begins with fits, if the logs of those before do
  begun-fits : (p t : ℕ) (k : Starts p t) → ((v : ℕ) (g : Leadership) → v < t → T.logs.leadership p v ≡ Some g → FitsThen p v g)
      → WellFormed (first_stage E p) k.leadership.begun × ((stage E p k.leadership.begun).point ≤ stamp) × CallsOk K.submitted p k.leadership.begun
  begun-fits p t k earlier = (
    formed-prefix (first_stage E p) k.leadership.begun (b.1.leadership.log ++ due p b.0) whole f.formed,
    omega (arith, prefix-point (first_stage E p) k.leadership.begun (b.1.leadership.log ++ due p b.0) whole f.formed, f.past),
    ok-prefix K.submitted p k.leadership.begun (b.1.leadership.log ++ due p b.0) whole f.calls,
  )
    where
      N : LogsHold T
      N = J p t k

      -- the epoch is the same
      same-base : epoch_base T ≡ epoch_base S
      same-base = sym (N.words.history.decided_good S.words.history.first (o.decided S.words.history.first H.words.history.first_decided)).base

      above : epoch_base T < t
      above = let r = N.leaderships p t k.leadership k.led in elim (cases_eq t (epoch_base T)) [
        | inl e ↦ let f = H.first p in absurd (none-and-some k.none (ap (S.logs.leadership p) (e ∙ same-base) ∙ f.1))
        | inr d ↦ omega (arith, base-least T N r.word r.is_word.decided, r.is_word.term_is, d)
      ]

      b : (v : ℕ) × (l : Last T.logs p v t) × Prefix k.leadership.begun l.leadership.log
      b = begun-behind T N p t k.leadership k.led above

      f : FitsThen p b.0 b.1.leadership
      f = earlier b.0 b.1.leadership b.1.below b.1.led

      whole : Prefix k.leadership.begun (b.1.leadership.log ++ due p b.0)
      whole = prefix-grows k.leadership.begun b.1.leadership.log (due p b.0) b.2

  -- and so does its log
  fits-begun : (p t : ℕ) (k : Starts p t) → WellFormed (first_stage E p) k.leadership.begun → (stage E p k.leadership.begun).point ≤ stamp → CallsOk K.submitted p k.leadership.begun
      → FitsThen p t k.leadership
  fits-begun p t k formed low ok = record {
    formed = subst (WellFormed s) (sym log) (formed-append s k.leadership.begun k.runs.calls formed (calls k.runs.room));
    past = subst (λ z. (stage_behind s z).point ≤ stamp) (sym log)
        (subst (λ z. z.point ≤ stamp) (sym (stage-append s k.leadership.begun k.runs.calls))
        (calls-point (stage E p k.leadership.begun) stamp k.runs.calls k.runs.at low));
    unheard = λ above. subst OnlyCalls (sym (ap (drop (length k.leadership.begun)) k.runs.is ∙ drop-append_seam k.leadership.begun k.runs.calls))
        (calls-only stamp k.runs.calls k.runs.at);
    calls = subst (CallsOk K.submitted p) (sym (ap (λ z. k.leadership.log ++ z) k.after ∙ append-nil k.leadership.log)) (k.runs.once ok);
  }
    where
      s : Stage
      s = first_stage E p

      log : k.leadership.log ++ due p t ≡ k.leadership.begun ++ k.runs.calls
      log = ap (λ z. k.leadership.log ++ z) k.after ∙ append-nil k.leadership.log ∙ k.runs.is

      calls : (k.runs.calls ≡ []) ⊎ ((stage E p k.leadership.begun).opened ≡ None) → WellFormed (stage E p k.leadership.begun) k.runs.calls
      calls (inl none) = subst (WellFormed (stage E p k.leadership.begun)) (sym none) tt
      calls (inr e) = calls-formed (stage E p k.leadership.begun) stamp k.runs.calls k.runs.at e low

  -- all that are led fit
  fits-up : (m p t : ℕ) (g : Leadership) → IsPart S p → t < m → T.logs.leadership p t ≡ Some g → LeadershipFits E T L stamp p t g
  fits-up zero p t g part small led = absurd (omega (arith, small))
  fits-up (suc m) p t g part small led = from (λ v h low is. fits-up m p v h part (omega (arith, low, small)) is) (S.logs.leadership p t) refl (moved p t part)
    where
      from : ((v : ℕ) (h : Leadership) → v < t → T.logs.leadership p v ≡ Some h → FitsThen p v h) → (x : Option Leadership) → S.logs.leadership p t ≡ x
          → Moved E K.submitted S.logs T.logs K.due due stamp p t → FitsThen p t g
      from earlier (Some h) e x = let k = (goes-at p t h part e).0 in subst (FitsThen p t) (same-some (sym k.is ∙ led)) (fits-led p t part k)
      from earlier None e (inl (same, next)) = absurd (none-and-some e (sym same ∙ led))
      from earlier None e (inr (inr k)) = absurd (none-and-some e k.was)
      from earlier None e (inr (inl k)) = let f = begun-fits p t k earlier in subst (FitsThen p t) (same-some (sym k.led ∙ led)) (fits-begun p t k f.0 f.1 f.2)

  -- ---- the term that was heard

  -- what its leader has, with what is due, before and after
  abbrev before : ℕ → List Entry
  before = whole S K K.heard

  abbrev after : ℕ → List Entry
  after = whole T L K.heard

  heard-between : (p : ℕ) (part : IsPart S p) → (b : Between E K.submitted p stamp (before p) (after p)) × Prefix (B.heard.each p part).leadership.log b.log
  heard-between p part =
      let h = B.heard.each p part in
      let r = goes-at p K.heard h.leadership part h.led in
      let k = r.0 in
      let b = between-goes E K.submitted S.logs T.logs (K.due p K.heard) (due p K.heard) stamp p K.heard k (due-one S K p K.heard (B.due p K.heard)) in
      let was : before p ≡ k.old.log ++ K.due p K.heard = ap (λ z. led_log z ++ K.due p K.heard) k.was in
      let is : after p ≡ k.new.log ++ due p K.heard = ap (λ z. led_log z ++ due p K.heard) k.is in (
        record { log = b.log; calls = b.calls; due = b.due; was = was ∙ b.was; is = is ∙ b.is; at = b.at; one = b.one; room = b.room; once = b.once },
        subst (λ z. Prefix z.log b.log) r.1 (prefix-append k.old.log k.taken),
      )

  abbrev between : (p : ℕ) → IsPart S p → Between E K.submitted p stamp (before p) (after p)
  between p part = (heard-between p part).0

  -- what its log had when the last transaction was begun
  closed : (p : ℕ) (part : IsPart S p) → Prefix (K.closed p) (between p part).log
  closed p part = prefix-trans (K.closed p) (B.heard.each p part).leadership.log (between p part).log (B.heard.each p part).inside (heard-between p part).1

  short : (p : ℕ) (part : IsPart S p) → length (K.closed p) ≤ length (between p part).log
  short p part = prefix-length (K.closed p) (between p part).log (closed p part)

  -- a partition of the later state is one of the earlier
  on-part : (p : ℕ) → IsPart T p → IsPart S p
  on-part p part = subst (λ D. nat_lt p (parts D) ≡ true) o.deployment part

  -- The logs stay aligned.
  heard-aligned : Aligned E S.words.deployment stamp L after
  heard-aligned = record {
    formed = λ p part. between-formed E K.submitted p stamp (before p) (after p) (between p part) (k.formed p part) (late p part);
    past = λ p part. between-point E K.submitted p stamp (before p) (after p) (between p part) (k.formed p part) (late p part);
    prefix = λ p part. between-prefix E K.submitted p stamp (before p) (after p) (between p part) (K.closed p) (closed p part);
    over = k.over;
    below = k.below;
    only = λ p part. between-all E K.submitted p stamp (before p) (after p) (between p part) (OfNumber K.number) (call-number K.number) (length (K.closed p)) (short p part) (k.only p part);
    fresh = λ p q part other e. between-all E K.submitted q stamp (before q) (after q) (between q other) IsCall (λ x c. c) (length (K.closed q)) (short q other) (k.fresh p q part other e);
    ends = λ p part u i. k.ends p part u (between-in E K.submitted p stamp (before p) (after p) (between p part) (Done K.number u) (λ c. c) (length (K.closed p)) (short p part) i);
    snapshot = λ p part e. between-all E K.submitted p stamp (before p) (after p) (between p part) NoRound call-round (length (K.closed p)) (short p part) (k.snapshot p part e);
    decided = λ p x part e.
        let d = k.decided p x part e in
        let prefix = prefix-trans (K.decided p) (B.heard.each p part).leadership.log (between p part).log ((B.heard.each p part).decided x e).0 (heard-between p part).1 in
        (between-prefix E K.submitted p stamp (before p) (after p) (between p part) (K.decided p) prefix, d.1, d.2);
    agreed = λ x e. omega (arith, k.agreed x e, later);
    even = k.even;
  }
    where
      k : Aligned E S.words.deployment now K before
      k = B.heard.aligned

      late : (p : ℕ) → IsPart S p → (stage E p (before p)).point ≤ stamp
      late p part = omega (arith, k.past p part, later)

  heard-on : KeepsWords S T K.heard → HeardOk E T M L stamp
  heard-on by = record {
    word = word;
    is_word = record { decided = o.decided word B.heard.is_word.decided; term_is = B.heard.is_word.term_is };
    by = λ h a first start. by word h a B.heard.is_word.decided first (some h a first) start (B.heard.by h a first);
    each = λ p part. heard-part S T F M o K due p (B.heard.each p (on-part p part));
    aligned = subst (λ D. Aligned E D stamp L (whole T L K.heard)) (sym o.deployment) heard-aligned;
    ends = λ x is. let k = B.heard.ends x is in record { asked = k.asked; unapplied = λ n i p part. k.unapplied n i p (on-part p part); new = λ p part. k.new p (on-part p part) };
  }
    where
      word : Membership
      word = B.heard.word

      -- an initiator has begun
      some : (h a : ℕ) → initiator word ≡ Some (h, a) → 0 < a
      some h a first =
          let good = H.words.history.decided_good word B.heard.is_word.decided in
          (good.named_begun a (member-is S.words H.words.history word h a good (initiator-member word h a first)).0).some

  -- All that the history says holds then.
  pub books-moved : KeepsWords S T K.heard → ((p t : ℕ) → (IsPart S p → ⊥) → due p t ≡ K.due p t) → Books E T M L stamp
  books-moved by others = record {
    due = due-at others;
    leaderships = λ p t g part led. fits-up (t + 1) p t g (on-part p part) (omega arith) led;
    heard = heard-on by;
  }

  -- ---- initiators

  -- Behind what is settled only calls are added.
  settled-on : (p : ℕ) → IsPart S p → Settled E S F K p → Settled E T M L p
  settled-on p part u = record {
    none = q.0;
    leadership = k.new;
    led = k.is;
    prefix = u.prefix;
    stands = prefix-trans u.prefix k.old.log k.new.log stands (k.runs.calls, q.1);
    calls = subst OnlyCalls (sym behind) (all-append IsCall (drop n k.old.log) k.runs.calls
        (subst (λ z. OnlyCalls (drop n z.log)) (sym r.1) u.calls) (calls-only stamp k.runs.calls k.runs.at));
    everywhere = everywhere-on S T F M o p K.heard n u.everywhere;
    over = u.over;
  }
    where
      r : (k : Went p K.heard) × (k.old ≡ u.leadership)
      r = goes-at p K.heard u.leadership part u.led

      k : Went p K.heard
      k = r.0

      n : ℕ
      n = length u.prefix

      q : (due p K.heard ≡ []) × (k.new.log ≡ k.old.log ++ k.runs.calls) × (k.old.log ++ k.taken ≡ k.old.log)
      q = goes-inert E K.submitted S.logs T.logs (K.due p K.heard) (due p K.heard) stamp p K.heard k u.none

      stands : Prefix u.prefix k.old.log
      stands = subst (λ z. Prefix u.prefix z.log) (sym r.1) u.stands

      behind : drop n k.new.log ≡ drop n k.old.log ++ k.runs.calls
      behind = ap (drop n) q.1 ∙ drop-append-le n k.old.log k.runs.calls (prefix-length u.prefix k.old.log stands)

  -- Where the last transaction ended, it has ended.
  ended-on : (p : ℕ) → IsPart S p → IsEnded E S K p → IsEnded E T L p
  ended-on p part e = (between-opened E K.submitted p stamp (before p) (after p) (between p part) ∙ e.0, between-number E K.submitted p stamp (before p) (after p) (between p part) ∙ e.1)

  -- While a transaction is open and nothing is due, the log stays as it is.
  fed-on : (p : ℕ) (x : ℕ × ℕ) → IsPart S p → (stage E p (before p)).opened ≡ Some x → Fed S F K p → Fed T M L p
  fed-on p x part e f = record {
    none = q.0;
    everywhere = subst (λ z. Everywhere T M p K.heard (length z)) (sym same) (everywhere-on S T F M o p K.heard (length (led_log (S.logs.leadership p K.heard))) f.everywhere);
  }
    where
      k : Went p K.heard
      k = (goes-at p K.heard (B.heard.each p part).leadership part (B.heard.each p part).led).0

      q : (due p K.heard ≡ []) × (k.new.log ≡ k.old.log ++ k.runs.calls) × (k.old.log ++ k.taken ≡ k.old.log)
      q = goes-inert E K.submitted S.logs T.logs (K.due p K.heard) (due p K.heard) stamp p K.heard k f.none

      log : before p ≡ k.old.log
      log = ap (λ z. led_log (S.logs.leadership p K.heard) ++ z) f.none ∙ append-nil (led_log (S.logs.leadership p K.heard)) ∙ ap led_log k.was

      no_calls : k.runs.calls ≡ []
      no_calls = elim k.runs.room [ inl none ↦ none | inr none ↦ absurd (none-and-some none (ap (λ z. (stage E p z).opened) (q.2 ∙ sym log) ∙ e)) ]

      same : led_log (T.logs.leadership p K.heard) ≡ led_log (S.logs.leadership p K.heard)
      same = ap led_log k.is ∙ q.1 ∙ ap (λ z. k.old.log ++ z) no_calls ∙ append-nil k.old.log ∙ ap led_log (sym k.was)

  -- how far the job at hand is
  at-hand-on : (w : Work) (d : Option Outcome) → AtHand E S F K w d → AtHand E T M L w d
  at-hand-on w None h = (
    h.0,
    λ p part. let is = on-part p part in let r = h.1 p is in
        (between-opened E K.submitted p stamp (before p) (after p) (between p is) ∙ r.0, λ has. fed-on p (K.number, w.round) is r.0 (r.1 has)),
  )
  at-hand-on w (Some d) h = λ p part. let is = on-part p part in let r = h p is in (ended-on p is r.0, λ done. settled-on p is (r.1 done))

  -- what an idle initiator knows
  idle-on : (p : ℕ) → IsPart S p → (K.due p K.heard ≡ []) × OnlyCalls (since K before p) → (due p K.heard ≡ []) × OnlyCalls (since L after p)
  idle-on p part h =
      let t = taken-at p K.heard part in (
        (rest-none t.0 (due p K.heard) (sym t.1 ∙ h.0)).1,
        between-all E K.submitted p stamp (before p) (after p) (between p part) IsCall (λ x c. c) (length (K.closed p)) (short p part) h.1,
      )

  -- An agent that stays as it is is as far as it was.
  pub phase-moved : (t : ℕ) (a : AgentState) (phase : Phase) → PhaseOk E S F K t a phase → PhaseOk E T M L t a phase
  phase-moved t a Off k = k
  phase-moved t a (Hears told) k = (k.0, all-mono _ _ (state-on E S T F M o t) told k.1, k.2, k.3)
  phase-moved t a (Closes m parts finished) k = (
    k.0,
    k.1,
    k.2,
    k.3,
    λ p part. let is = on-part p part in let r = k.4 p is in (λ one. ended-on p is (r.0 one), λ over. settled-on p is (r.1 over)),
  )
  phase-moved t a Idle k = (k.0, k.1, k.2, λ p part. let is = on-part p part in idle-on p is (k.3 p is))
  phase-moved t a Works k = (k.0, k.1, (k.2.0, k.2.1, k.2.2, at-hand-on k.2.0 k.2.0.decision k.2.3))

  -- What an agent knows covers what it covered.
  covers-on : (replies : List LastReply) → CoversAll S K replies → CoversAll T L replies
  covers-on replies k p m x part i = let is = on-part p part in
      k p m x is (between-in E K.submitted p stamp (before p) (after p) (between p is) (Done m x) (λ c. c) 0 (omega arith) i)

  pub knows-moved : (i : Initiating) → Knows S F K i → Knows T M L i
  knows-moved i k = record {
    rise = k.rise;
    covers = covers i.phase k.covers;
    decided = k.decided;
    fresh = k.fresh;
    from = all-mono _ _ (known-on S T F M o K.submitted K.heard i.work) i.replies k.from;
    first = k.first;
    outcome = k.outcome;
  }
    where
      covers : (phase : Phase) → CoversIn S K i.replies phase → CoversIn T L i.replies phase
      covers Off c = tt
      covers (Hears told) c = tt
      covers (Closes m parts finished) c = covers-on i.replies c
      covers Idle c = covers-on i.replies c
      covers Works c = covers-on i.replies c

  pub agent-moved : (h : ℕ) → T.words.agents h ≡ S.words.agents h → AgentCalls E S F K h → AgentCalls E T M L h
  agent-moved h same k = record {
    initiating = elim k.initiating [
      | inl off ↦ inl (rw same off)
      | inr (w, i, phase) ↦ inr (
        w,
        record { runs = rw same i.runs; has_decided = rw same i.has_decided; initiates = rw same i.initiates },
        subst (λ a. PhaseOk E T M L (term_of w) a a.initiating.phase) (sym same) (phase-moved (term_of w) (S.words.agents h) (S.words.agents h).initiating.phase phase),
      )
    ];
    knows = subst (λ a. Knows T M L a.initiating) (sym same) (knows-moved (S.words.agents h).initiating k.knows);
    waiting = subst (λ a. AllByRecursion (WaitingAnswer E T M L) a.waiting) (sym same)
        (all-mono _ _ (waiting-on E S T F M o K L (omega arith)) (S.words.agents h).waiting k.waiting);
  }

-- ---- later

pub aligned-later : (E : Database) (D : Deployment) (now stamp : ℕ) → now ≤ stamp → (K : Transactions) (logs : ℕ → List Entry) → Aligned E D now K logs → Aligned E D stamp K logs
aligned-later E D now stamp l K logs k = aligned-under E D now stamp K K.heard logs logs l k (λ p part. (k.formed p part, omega (arith, k.past p part, l)))
    (λ p part. (under-refl (logs p), k.prefix p part)) (λ p x part e. (k.decided p x part e).0)

pub books-later : (E : Database) (S : LogState) (F : Firm) (K : Transactions) (now stamp : ℕ) → now ≤ stamp → Books E S F K now → Books E S F K stamp
books-later E S F K now stamp l B = record {
  due = B.due;
  leaderships = λ p t g part led. let f = B.leaderships p t g part led in record { formed = f.formed; past = omega (arith, f.past, l); unheard = f.unheard; calls = f.calls };
  heard = let h = B.heard in record {
    word = h.word;
    is_word = h.is_word;
    by = h.by;
    each = h.each;
    aligned = aligned-later E S.words.deployment now stamp l K (whole S K K.heard) h.aligned;
    ends = h.ends;
  };
}
