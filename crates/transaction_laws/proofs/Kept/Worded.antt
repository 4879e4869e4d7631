-- Other agents, other messages and more words, with the same logs and sites: what holds of transactions, holds then.
use Rattle.transaction_laws.proofs.Names.{Actor, AgentState, Firm, History, In, Letter, List, LogState, Membership, Shown, Shows, arith, prefix-refl, refl, worded, ℕ}
use Rattle.transaction_laws.proofs.Kept.Moves.{Onto}

module _ (S : LogState) (agents : ℕ → AgentState) (channel : Actor → Actor → List Letter) (G : History) (decided : (w : Membership) → In w S.words.history.decided → In w G.decided) where
  -- the state then
  abbrev T : LogState
  T = worded S agents channel G

  pub onto-worded : (F : Firm) → Onto S T F F
  onto-worded F = record {
    deployment = refl;
    decided = decided;
    onward = record { kept = λ p t g e. (g, e, refl, prefix-refl g.log); reach = λ p t. omega arith };
    firm = λ p. omega arith;
    tops = λ p m n k. record { slot = k.slot; is_slot = k.is_slot; part_is = k.part_is; all = k.all };
  }

  -- ---- what a recovery that was stopped may choose

  pub shows-worded : (shown : ℕ → Shown) → Shows T shown → Shows S shown
  shows-worded shown k = record { one = k.one; none = k.none }

-- with all as it is
pub onto-same : (S : LogState) (F : Firm) → Onto S S F F
onto-same S F = onto-worded S S.words.agents S.words.channel S.words.history (λ w i. i) F
