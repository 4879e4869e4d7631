-- Turns of an initiator: in which nothing changes, behind a part that sends no round and no end, and from another history of what is due.
use Rattle.transaction_laws.proofs.Names.{AgentState, AllByRecursion, Books, Bool, Database, Firm, Knows, LogState, Membership, PhaseOk, Replied, Sends, Site, Transactions, Turn, [], all-append, ap, append-nil, arith, becomes, false, if◌then◌else◌, le_trans, no_sends, orders, part, refl, subst, sym, term_of, true, ℕ, ◌++◌, ◌∙◌, ◌≡◌, ◌≤◌, ◌▸◌}
use Rattle.transaction_laws.proofs.Kept.{AllTell, SentOrder, SendsDue, InitiatorActs, Tells, books-later}

-- ---- what is sent

-- nothing, and nothing more is due
sends-none : (S : LogState) (n : ℕ) (w : Membership) (K : Transactions) → SendsDue S n w K K no_sends
sends-none S n w K = record { letters = λ c s. tt; due = λ c a s l x. sym (append-nil (K.due (part S c) (term_of w))); others = λ p t d. refl }

-- the same to the sites, from a history in which the same is due
sends-from : (S : LogState) (n : ℕ) (w : Membership) (K L M : Transactions) (out same : Sends) → L.due ≡ K.due → ((c : ℕ) → same (Site c) ≡ out (Site c))
    → SendsDue S n w L M out → SendsDue S n w K M same
sends-from S n w K L M out same due sites h = record {
  letters = λ c s. subst (AllByRecursion (SentOrder S n w c)) (sym (sites c)) (h.letters c s);
  due = λ c a s l x. subst (λ ls. M.due (part S c) (term_of w) ≡ K.due (part S c) (term_of w) ++ orders a (term_of w) ls) (sym (sites c))
      (subst (λ d. M.due (part S c) (term_of w) ≡ d (part S c) (term_of w) ++ orders a (term_of w) (out (Site c))) due (h.due c a s l x));
  others = λ p t d. h.others p t d ∙ ap (λ f. f p t) due;
}

-- ---- turns

module _ (E : Database) (S : LogState) (F : Firm) (K : Transactions) (stamp n : ℕ) (w : Membership) (a : AgentState) where
  -- the one turn or the other
  pub goes-if : (c : Bool) (x y : Turn AgentState) → (c ≡ true → InitiatorActs E S F K stamp n w a x) → (c ≡ false → InitiatorActs E S F K stamp n w a y)
      → InitiatorActs E S F K stamp n w a (if c then x else y)
  goes-if true x y p q = p refl
  goes-if false x y p q = q refl

  -- It goes on as it was, or with another state that is as good.
  pub goes-still : (now : ℕ) (b : AgentState) → Books E S F K now → now ≤ stamp → b.start ≡ a.start → b.decided ≡ a.decided → b.waiting ≡ a.waiting
      → PhaseOk E S F K (term_of w) b b.initiating.phase → Knows S F K b.initiating → InitiatorActs E S F K stamp n w a (becomes b)
  goes-still now b B l start decided waiting k knows = record {
    goes = record {
      after = K;
      books = books-later E S F K now stamp l B;
      heard = omega arith;
      start = start;
      decided = decided;
      waiting = waiting;
      submitted = refl;
      phase = k;
      knows = knows;
      sends = sends-none S n w K;
    };
    tells = λ b. tt;
  }

  -- from another state with the same start, word and messages that wait, and a history in which the same is due
  pub goes-from : (L : Transactions) (b : AgentState) (t : Turn AgentState) → L.due ≡ K.due → L.submitted ≡ K.submitted → K.heard ≤ L.heard → b.start ≡ a.start → b.decided ≡ a.decided → b.waiting ≡ a.waiting
      → InitiatorActs E S F L stamp n w b t → InitiatorActs E S F K stamp n w a t
  goes-from L b t due submitted up start decided waiting acts = let g = acts.goes in record {
    goes = record {
      after = g.after;
      books = g.books;
      heard = le_trans up g.heard;
      start = g.start ∙ start;
      decided = g.decided ∙ decided;
      waiting = g.waiting ∙ waiting;
      submitted = g.submitted ∙ submitted;
      phase = g.phase;
      knows = g.knows;
      sends = sends-from S n w K L g.after t.sends t.sends due (λ c. refl) g.sends;
    };
    tells = acts.tells;
  }

-- A part of a turn that is none of the initiator's: it leaves its part as it was, and sends nothing to sites.
pub record Aside (a : AgentState) (t : Turn AgentState) : Type 0 where
  pub start : t.state.start ≡ a.start
  pub decided : t.state.decided ≡ a.decided
  pub waiting : t.state.waiting ≡ a.waiting
  pub initiating : t.state.initiating ≡ a.initiating
  pub sends : (c : ℕ) → t.sends (Site c) ≡ []

-- the turn behind it, where it tells of calls what an initiator may
pub goes-then : (E : Database) (S : LogState) (F : Firm) (K : Transactions) (stamp n : ℕ) (w : Membership) (a : AgentState) (t : Turn AgentState) (f : AgentState → Turn AgentState)
    → Aside a t → AllTell (Replied S.logs S.words.deployment F) (Replied S.logs S.words.deployment F) t.sends
    → InitiatorActs E S F K stamp n w t.state (f t.state) → InitiatorActs E S F K stamp n w a (t ▸ f)
goes-then E S F K stamp n w a t f k tells acts = let g = acts.goes in let P = Replied S.logs S.words.deployment F in record {
  goes = record {
    after = g.after;
    books = g.books;
    heard = g.heard;
    start = g.start ∙ k.start;
    decided = g.decided ∙ k.decided;
    waiting = g.waiting ∙ k.waiting;
    submitted = g.submitted;
    phase = g.phase;
    knows = g.knows;
    sends = sends-from S n w K K g.after (f t.state).sends (t ▸ f).sends refl (λ c. ap (λ ls. ls ++ (f t.state).sends (Site c)) (k.sends c)) g.sends;
  };
  tells = λ b. all-append (Tells P P) (t.sends b) ((f t.state).sends b) (tells b) (acts.tells b);
}
