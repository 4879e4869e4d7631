-- Rounds and ends that an initiator sends to the leaders of its word.
use Rattle.volt_wire.specs.declared.message.Msg.TheVariants as msg
use Rattle.transaction_laws.proofs.Names.{AgentState, Aligned, AllByRecursion, Blocks, Books, Bool, CallsOk, Database, Deployment, DueOk, Entry, Firm, HeardOk, HeardPart, In, Initiates, IsLaidOut, IsOrder, IsPart, IsSlot, Knows, Leadership, LeadershipFits, Letter, List, LogState, LogsHold, MayEnd, Membership, Msg, None, Option, OrderOk, Outcome, PhaseOk, Replied, Sends, Site, Some, Transactions, [], and_from, and_left, and_parts, and_right, all-if, ap, append-nil, arith, cases_eq, eq-eqb, eqb-same, eqb-true, false, false_from_ne_true, if-false, if-true, if◌then◌else◌, inl, inr, is_some_of, is_some_of-is, leader, led_log, letter_in, lt-ltb, ltb-true, names, nat_le, nat_lt, nat_tests, order_in, order_of, orders, part, part_of_slot, parts, refl, sending, slots, some-here, some-start, some-term, start_of_slot, subst, sym, term_of, to_leader, to_leaders, true, whole, ℕ, ◌%◌, ◌&&◌, ◌*◌, ◌++◌, ◌+◌, ◌/◌, ◌<◌, ◌==◌, ◌∙◌, ◌∷◌, ◌≡◌, ◌≤◌}
use Rattle.transaction_laws.proofs.Kept.{AllTell, Ending, SendsDue, SentOrder, InitiatorActs, Tells}

-- the layout is one that isn't refused
abbrev pub LaidOut : LogState → Type 0
LaidOut S = IsLaidOut S.words.deployment

-- this entry is due in these partitions, in the term that was heard
abbrev pub due_with : LogState → Transactions → (ℕ → Bool) → Entry → ℕ → ℕ → List Entry
due_with S K to e p t = K.due p t ++ (if nat_lt p (parts S.words.deployment) && to p && t == K.heard then e ∷ [] else [])

-- ---- partitions

-- The partition of a slot is one of the deployment's.
pub slot-part : (S : LogState) → LaidOut S → (c : ℕ) → IsSlot S c → IsPart S (part S c)
slot-part S lay c is =
    let whole = eqb-true (S.words.deployment.layout.hosts * S.words.deployment.layout.sites % (S.words.deployment.layout.k + 1)) 0
    (and_parts (S.words.deployment.layout.hosts * S.words.deployment.layout.sites % (S.words.deployment.layout.k + 1) == 0)
    (nat_le (S.words.deployment.layout.k + 1) S.words.deployment.layout.hosts) lay.accepted).0 in
    lt-ltb (part S c) (parts S.words.deployment)
    (within c (S.words.deployment.layout.hosts * S.words.deployment.layout.sites) S.words.deployment.layout.k (ltb-true c (slots S.words.deployment) is) whole)
  where
    within : (c slots k : ℕ) → c < slots → slots % (k + 1) ≡ 0 → c / (k + 1) < slots / (k + 1)
    within c slots k l e = grind (arith, nat_tests)

-- ---- what is due

-- whether the entry is due in a partition and term
abbrev due_in : LogState → Transactions → (ℕ → Bool) → ℕ → ℕ → Bool
due_in S K to p t = nat_lt p (parts S.words.deployment) && to p && t == K.heard

-- It is in the term that was heard, in partitions to which it goes, and nowhere else.
pub due-more : (S : LogState) (K : Transactions) (to : ℕ → Bool) (e : Entry) (p t : ℕ) → IsPart S p → to p ≡ true → t ≡ K.heard → due_with S K to e p t ≡ K.due p t ++ e ∷ []
due-more S K to e p t part y q = ap (λ xs. K.due p t ++ xs) (if-true (due_in S K to p t) (e ∷ []) []
    (and_from (nat_lt p (parts S.words.deployment) && to p) (t == K.heard) (and_from (nat_lt p (parts S.words.deployment)) (to p) part y) (eq-eqb t K.heard q)))

due-none : (S : LogState) (K : Transactions) (to : ℕ → Bool) (e : Entry) (p t : ℕ) → due_in S K to p t ≡ false → due_with S K to e p t ≡ K.due p t
due-none S K to e p t n = ap (λ xs. K.due p t ++ xs) (if-false (due_in S K to p t) (e ∷ []) [] n) ∙ append-nil (K.due p t)

due-other : (S : LogState) (K : Transactions) (to : ℕ → Bool) (e : Entry) (p t : ℕ) → (t ≡ K.heard → ⊥) → due_with S K to e p t ≡ K.due p t
due-other S K to e p t n = due-none S K to e p t
    (and_right (nat_lt p (parts S.words.deployment) && to p) (t == K.heard) (false_from_ne_true (t == K.heard) (λ q. n (eqb-true t K.heard q))))

pub due-kept : (S : LogState) (K : Transactions) (to : ℕ → Bool) (e : Entry) (p t : ℕ) → to p ≡ false → due_with S K to e p t ≡ K.due p t
due-kept S K to e p t n = due-none S K to e p t
    (and_left (nat_lt p (parts S.words.deployment) && to p) (t == K.heard) (and_right (nat_lt p (parts S.words.deployment)) (to p) n))

-- ---- what an initiator sends

-- the word that an agent has decided is one of the epoch
pub decided-word : (S : LogState) → LogsHold S → (n : ℕ) (w : Membership) → (S.words.agents n).decided ≡ Some w → In w S.words.history.decided
decided-word S H n w e = (some-here (λ x. In x S.words.history.decided × (names x (S.words.agents n).start ≡ true)) (S.words.agents n).decided w e (H.words.agents n).decided).0

-- an order is one, and other messages are none
sent-order : (S : LogState) (n : ℕ) (w : Membership) (c : ℕ) (l : Letter) → OrderOk S n c l → l.term ≡ term_of w → SentOrder S n w c l
sent-order S n w c l k t = elim l.body as (λ m. OrderOk S n c (record l { body = m }) → SentOrder S n w c (record l { body = m })) [
  | msg.Frag m round body ↦ λ k. (k, t)
  | msg.Done m o ↦ λ k. (k, t)
  | m ↦ λ k. tt
] k

-- one order, as it is under way
order-one : (start term : ℕ) (m : Msg Blocks) (e : Entry) → order_in m ≡ e ∷ [] → orders start term (letter_in term start m ∷ []) ≡ e ∷ []
order-one start term m e is =
    append-nil (order_of start term (letter_in term start m))
    ∙ if-true (start == start && term == term) (order_in m) [] (and_from (start == start) (term == term) (eqb-same start) (eqb-same term)) ∙ is

-- What an initiator sends to leaders of partitions is due from then on.
orders-sent : (E : Database) (S : LogState) (F : Firm) (K L : Transactions) (now n : ℕ) (w : Membership) → LaidOut S → LogsHold S → Books E S F K now → Initiates S n w → K.heard ≡ term_of w
    → (m : Msg Blocks) (e : Entry) → order_in m ≡ e ∷ [] → (to : ℕ → Bool) → L.due ≡ due_with S K to e
    → SendsDue S n w K L (to_leaders S.words.deployment w to m)
orders-sent E S F K L now n w lay H B i heard m e is to due = record { letters = letters; due = more; others = others }
  where
    decided : In w S.words.history.decided
    decided = decided-word S H n w i.has_decided

    -- to the leader of a partition
    order : (c a : ℕ) → IsSlot S c → leader S.words.deployment w (part S c) ≡ Some c → start_of_slot S.words.deployment w c ≡ Some a
        → OrderOk S n c (letter_in (term_of w) a m)
    order c a slot leads start = record {
      addressed = (some-start S H w c a decided start, some-term S H w decided);
      word = w;
      is_word = record { decided = decided; term_is = refl };
      by = (S.words.agents n).start;
      initiates = i.initiates;
      leads = leads;
      start_is = start;
      leadership = (B.heard.each (part S c) (slot-part S lay c slot)).leadership;
      led = ap (S.logs.leadership (part S c)) (sym heard) ∙ (B.heard.each (part S c) (slot-part S lay c slot)).led;
    }

    letters : (c : ℕ) → IsSlot S c → AllByRecursion (SentOrder S n w c) (to_leaders S.words.deployment w to m (Site c))
    letters c slot = choice (to (part S c) && is_some_of (leader S.words.deployment w (part S c)) c) refl
      where
        one : (o : Option ℕ) → start_of_slot S.words.deployment w c ≡ o → leader S.words.deployment w (part S c) ≡ Some c
            → AllByRecursion (SentOrder S n w c) (to_leader S.words.deployment w m c o)
        one None q leads = tt
        one (Some a) q leads = (sent-order S n w c (letter_in (term_of w) a m) (order c a slot leads q) refl, tt)

        choice : (b : Bool) → (to (part S c) && is_some_of (leader S.words.deployment w (part S c)) c) ≡ b
            → AllByRecursion (SentOrder S n w c) (if b then to_leader S.words.deployment w m c (start_of_slot S.words.deployment w c) else [])
        choice true q = one (start_of_slot S.words.deployment w c) refl
            (is_some_of-is (leader S.words.deployment w (part S c)) c (and_parts (to (part S c)) (is_some_of (leader S.words.deployment w (part S c)) c) q).1)
        choice false q = tt

    more : (c a : ℕ) → IsSlot S c → leader S.words.deployment w (part S c) ≡ Some c → start_of_slot S.words.deployment w c ≡ Some a
        → L.due (part S c) (term_of w) ≡ K.due (part S c) (term_of w) ++ orders a (term_of w) (to_leaders S.words.deployment w to m (Site c))
    more c a slot leads start = ap (λ f. f (part S c) (term_of w)) due ∙ choice (to (part S c)) refl
      where
        here : is_some_of (leader S.words.deployment w (part S c)) c ≡ true
        here = ap (λ o. is_some_of o c) leads ∙ eqb-same c

        choice : (b : Bool) → to (part S c) ≡ b
            → due_with S K to e (part S c) (term_of w) ≡ K.due (part S c) (term_of w) ++ orders a (term_of w)
            (if b && is_some_of (leader S.words.deployment w (part S c)) c then to_leader S.words.deployment w m c (start_of_slot S.words.deployment w c) else [])
        choice true q = due-more S K to e (part S c) (term_of w) (slot-part S lay c slot) q (sym heard) ∙ ap (λ xs. K.due (part S c) (term_of w) ++ xs)
            (sym (ap (orders a (term_of w)) (if-true (is_some_of (leader S.words.deployment w (part S c)) c) _ [] here ∙ ap (to_leader S.words.deployment w m c) start) ∙ order-one a (term_of w) m e is))
        choice false q = due-kept S K to e (part S c) (term_of w) q ∙ sym (append-nil (K.due (part S c) (term_of w)))

    others : (p t : ℕ) → (t ≡ term_of w → ⊥) → L.due p t ≡ K.due p t
    others p t other = ap (λ f. f p t) due ∙ due-other S K to e p t (λ q. other (q ∙ heard))

-- Each call stands once in the logs of all partitions, once those are taken that are due, and the last transaction may end as was agreed.
pub record Once (E : Database) (S : LogState) (K : Transactions) : Type 0 where
  pub calls : (p : ℕ) → IsPart S p → CallsOk K.submitted p (whole S K K.heard p)
  pub ends : (o : Outcome) → K.agreed ≡ Some o → MayEnd E S K o

pub books-once : (E : Database) (S : LogState) (F : Firm) (K : Transactions) (now : ℕ) → Books E S F K now → Once E S K
books-once E S F K now B = record {
  calls = λ p part. let h = B.heard.each p part in
      subst (λ o. CallsOk K.submitted p (led_log o ++ K.due p K.heard)) (sym h.led) (B.leaderships p K.heard h.leadership part h.led).calls;
  ends = B.heard.ends;
}

-- So all holds, with a history in which this is due: where nothing was, and the entry fits.
orders-books : (E : Database) (S : LogState) (F : Firm) (K L : Transactions) (now stamp : ℕ) (e : Entry) (to : ℕ → Bool) → Books E S F K now → now ≤ stamp → IsOrder e
    → L.heard ≡ K.heard → L.due ≡ due_with S K to e
    → ((p : ℕ) → IsPart S p → to p ≡ true → K.due p K.heard ≡ [])
    → ((p : ℕ) → IsPart S p → HeardPart S F L p)
    → Aligned E S.words.deployment stamp L (whole S L L.heard) → Once E S L → L.submitted ≡ K.submitted
    → Books E S F L stamp
orders-books E S F K L now stamp e to B l order heard due none each aligned once submitted = record { due = dues; leaderships = fits; heard = ok }
  where
    due-at : (p t : ℕ) → L.due p t ≡ due_with S K to e p t
    due-at p t = ap (λ f. f p t) due

    -- in what partitions and terms it is due
    dues : (p t : ℕ) → DueOk S L p t
    dues p t = choice (due_in S K to p t) refl
      where
        as-before : L.due p t ≡ K.due p t → DueOk S K p t → DueOk S L p t
        as-before q (inl k) = inl (q ∙ k)
        as-before q (inr (f, g, is, o, led, up)) = inr (f, g, q ∙ is, o, led, omega (arith, up, heard))

        choice : (b : Bool) → due_in S K to p t ≡ b → DueOk S L p t
        choice true q =
            let (k, here) = and_parts (nat_lt p (parts S.words.deployment) && to p) (t == K.heard) q in
            let (part, goes) = and_parts (nat_lt p (parts S.words.deployment)) (to p) k in
            let at : t ≡ K.heard = eqb-true t K.heard here in
            inr (
              e,
              (each p part).leadership,
              due-at p t ∙ due-more S K to e p t part goes at ∙ ap (λ xs. xs ++ e ∷ []) (ap (K.due p) at ∙ none p part goes),
              order,
              ap (S.logs.leadership p) (at ∙ sym heard) ∙ (each p part).led,
              omega (arith, at, heard),
            )
        choice false q = as-before (due-at p t ∙ due-none S K to e p t q) (B.due p t)

    fits : (p t : ℕ) (g : Leadership) → IsPart S p → S.logs.leadership p t ≡ Some g → LeadershipFits E S L stamp p t g
    fits p t g part led = elim (cases_eq t L.heard) [
      | inl q ↦
          let same : whole S L L.heard p ≡ g.log ++ L.due p t = ap (λ o. led_log o ++ L.due p L.heard) (ap (S.logs.leadership p) (sym q) ∙ led) ∙ ap (λ u. g.log ++ L.due p u) (sym q) in
          record { formed = rw same at (aligned.formed p part); past = rw same at (aligned.past p part); unheard = λ b. absurd (omega (arith, b, q)); calls = rw same at (once.calls p part) }
      | inr d ↦
          let same : L.due p t ≡ K.due p t = due-at p t ∙ due-other S K to e p t (λ q. d (q ∙ sym heard)) in
          let k = B.leaderships p t g part led in
          record { formed = rw same k.formed; past = rw same (omega (arith, l, k.past)); unheard = λ b. k.unheard (omega (arith, b, heard)); calls = rw (same, submitted) k.calls }
    ]

    ok : HeardOk E S F L stamp
    ok = record {
      word = B.heard.word;
      is_word = record { decided = B.heard.is_word.decided; term_is = B.heard.is_word.term_is ∙ sym heard };
      by = λ h a first runs. omega (arith, heard, B.heard.by h a first runs);
      each = each;
      aligned = aligned;
      ends = once.ends;
    }

-- A round or an end tells of no call.
order-tells : (term start : ℕ) (m : Msg Blocks) (e : Entry) → order_in m ≡ e ∷ [] → (M R : Ending) → Tells M R (letter_in term start m)
order-tells term start m e is M R = elim m as (λ m. order_in m ≡ e ∷ [] → Tells M R (letter_in term start m)) [
  | msg.MpReply call x ↦ λ none. absurd (cc)
  | msg.Answer call x ↦ λ none. absurd (cc)
  | m ↦ λ _. tt
] is

leaders-tell : (D : Deployment) (w : Membership) (m : Msg Blocks) (e : Entry) → order_in m ≡ e ∷ [] → (to : ℕ → Bool) (M R : Ending) → AllTell M R (to_leaders D w to m)
leaders-tell D w m e is to M R (Site c) = all-if (Tells M R) (to (part_of_slot D c) && is_some_of (leader D w (part_of_slot D c)) c) (to_leader D w m c (start_of_slot D w c)) [] (one (start_of_slot D w c)) tt
  where
    one : (o : Option ℕ) → AllByRecursion (Tells M R) (to_leader D w m c o)
    one None = tt
    one (Some a) = (order-tells (term_of w) a m e is M R, tt)
leaders-tell D w m e is to M R b = tt

-- A turn in which it sends this to leaders of partitions, with a history in which it is due.
pub sends-goes : (E : Database) (S : LogState) (F : Firm) (K L : Transactions) (now stamp n : ℕ) (w : Membership) → LaidOut S → LogsHold S → Books E S F K now → now ≤ stamp → Initiates S n w
    → K.heard ≡ term_of w → (a b : AgentState) (m : Msg Blocks) (e : Entry) (to : ℕ → Bool) (out : Sends) → out ≡ to_leaders S.words.deployment w to m → order_in m ≡ e ∷ [] → IsOrder e
    → L.heard ≡ K.heard → L.due ≡ due_with S K to e → ((p : ℕ) → IsPart S p → to p ≡ true → K.due p K.heard ≡ []) → ((p : ℕ) → IsPart S p → HeardPart S F L p)
    → Aligned E S.words.deployment stamp L (whole S L L.heard) → Once E S L → L.submitted ≡ K.submitted
    → b.start ≡ a.start → b.decided ≡ a.decided → b.waiting ≡ a.waiting → PhaseOk E S F L (term_of w) b b.initiating.phase → Knows S F L b.initiating → InitiatorActs E S F K stamp n w a (sending b out)
sends-goes E S F K L now stamp n w lay H B low i heard a b m e to out is one order same due none each aligned once submitted start decided waiting phase knows = record {
  goes = record {
    after = L;
    books = orders-books E S F K L now stamp e to B low order same due none each aligned once submitted;
    heard = omega (arith, same);
    start = start;
    decided = decided;
    waiting = waiting;
    submitted = submitted;
    phase = phase;
    knows = knows;
    sends = subst (λ o. SendsDue S n w K L o) (sym is) (orders-sent E S F K L now n w lay H B i heard m e one to due);
  };
  tells = subst (AllTell (Replied S.logs S.words.deployment F) (Replied S.logs S.words.deployment F)) (sym is)
      (leaders-tell S.words.deployment w m e one to (Replied S.logs S.words.deployment F) (Replied S.logs S.words.deployment F));
}
