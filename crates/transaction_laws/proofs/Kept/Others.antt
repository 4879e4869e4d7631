-- Events of clients, the director and scanners: what holds of transactions, holds after them.
use Rattle.transaction_laws.proofs.Names.{Actor, Agent, AllByRecursion, AnswerOk, Bool, CallsHold, Database, Firm, Letter, List, LogState, LogsHold, Site, SiteCalls, ToSiteOk, Transactions, all-mono, ap, arith, chosen, inl, onward-same, orders, part, refl, site_start, subst, sym, term_of, ℕ, ◌+◌, ◌∙◌, ◌≡◌}
use Rattle.transaction_laws.proofs.Kept.Moves.{Onto, with_due}
use Rattle.transaction_laws.proofs.Kept.Later.{answer-on, to_site-on, books-moved, agent-moved, keeps-same, aligned-later}

-- ---- other numbers, owners and messages

module _ (E : Database) (S : LogState) (F : Firm) (halted : Bool) (K : Transactions) (now : ℕ) (H : LogsHold S) (k : CallsHold E S F halted K now)
    (next : ℕ) (ch : Actor → Actor → List Letter) (owner : ℕ → ℕ)
    (down : (h c : ℕ) → ch (Agent h) (Site c) ≡ S.words.channel (Agent h) (Site c)) (up : (c h : ℕ) → ch (Site c) (Agent h) ≡ S.words.channel (Site c) (Agent h)) where
  abbrev T : LogState
  T = record S { words = record S.words { next = next; channel = ch; owner = owner } }

  abbrev L : Transactions
  L = with_due K K.due

  onto : Onto S T F F
  onto = record {
    deployment = refl;
    decided = λ w i. i;
    onward = onward-same S.logs;
    firm = λ p. omega arith;
    tops = λ p m n t. record { slot = t.slot; is_slot = t.is_slot; part_is = t.part_is; all = t.all };
  }

  site-kept : (c : ℕ) → SiteCalls S K c → SiteCalls T L c
  site-kept c s = record {
    waiting = s.waiting;
    held = s.held;
    orders = λ w joins view first h a init. ap (orders (site_start S c) (term_of w)) (down h c) ∙ s.orders w joins view first h a init;
    counts = λ leads. let n = s.counts leads in record { counted = n.counted; joined = n.joined };
    unrepaired = s.unrepaired;
  }

  module _ (J : LogsHold T) where
    pub calls-plain : CallsHold E T F halted L (now + 1)
    calls-plain = record {
      books = books-moved E S T F F K now (now + 1) K.due (omega arith) H (λ p t b. J) onto (λ p t q. inl (refl, refl)) k.books (keeps-same S T K.heard refl) (λ p t q. refl);
      to_sites = λ h c slot. subst (AllByRecursion (ToSiteOk T h c)) (sym (down h c))
          (all-mono (ToSiteOk S h c) (ToSiteOk T h c) (λ l. to_site-on S T F F onto h c l) (S.words.channel (Agent h) (Site c)) (k.to_sites h c slot));
      to_agents = λ c h slot. subst (AllByRecursion (AnswerOk E T F L (part S c))) (sym (up c h))
          (all-mono (AnswerOk E S F K (part S c)) (AnswerOk E T F L (part S c)) (λ l. answer-on E S T F F onto K L (omega arith) (part S c) l)
          (S.words.channel (Site c) (Agent h)) (k.to_agents c h slot));
      environment = λ c h out. up c h ∙ k.environment c h out;
      sites = λ c slot runs. site-kept c (k.sites c slot runs);
      agents = λ h. agent-moved E S T F F K now (now + 1) K.due (omega arith) H (λ p t b. J) onto (λ p t q. inl (refl, refl)) k.books h refl (k.agents h);
      halts = λ e shown s.
          let c = k.halts e shown (record { one = s.one; none = s.none }) in
          (c.0, aligned-later E S.words.deployment now (now + 1) (omega arith) c.0 (chosen S.words.deployment shown) c.1, c.2);
    }
