-- Words that stay good: with a start more that is lost or admitted, and what two words say together.
use Rattle.std.proofs.Common.{◌≡◌, sym, subst, ap, inl, inr}
use Rattle.std.specs.Prelude.{ℕ}
use Rattle.volt_wire.specs.Word.{Membership}
use Rattle.cluster_model.specs.Words.{union, with_lost, with_admitted}
use Rattle.cluster_steps.specs.Lists.{In}
use Rattle.word_laws.specs.Histories.{State, Admitted, Within, Begun, Gone, Recorded, GoodWord}
use Rattle.word_laws.proofs.Algebra.{within-trans, within-with_lost, within-with_admitted, within-union-left, within-union-right, in-with_lost, with_lost-rises, admits-with_admitted, with_admitted-rises, with_admitted-owned, lost-union, admits-union, union-lost-rises, union-admitted-rises, union-owned, names-first, names-admits, names-cases}
use Rattle.word_laws.proofs.Moves.{WordsLater}
use Rattle.word_laws.proofs.Laters.{good-later}

-- what was admitted at a word within v was so at one within w
pub recorded-within : (S : State) (v w : Membership) (s : ℕ) → Within v w → Recorded S v s → Recorded S w s
recorded-within S v w s p r = record { entry = r.entry; is_one = r.is_one; same = r.same; within = within-trans r.entry.at v w r.within p }

-- a start more that has stopped
pub good-lost : (S : State) (o : ℕ) (w : Membership) → Gone S o → GoodWord S w → GoodWord S (with_lost o w)
good-lost S o w gone g = record {
  base = g.base;
  first = g.first;
  lost_rises = with_lost-rises o w g.lost_rises;
  admitted_rises = g.admitted_rises;
  owned = g.owned;
  lost_gone = λ s e. elim (in-with_lost o s w e) [
    | inl k ↦ subst (Gone S) k gone
    | inr k ↦ g.lost_gone s k
  ];
  named_begun = g.named_begun;
  recorded = λ s e. recorded-within S w (with_lost o w) s (within-with_lost o w) (g.recorded s e);
}

-- what either has lost or admitted
pub good-union : (S : State) (v w : Membership) → GoodWord S v → GoodWord S w → GoodWord S (union v w)
good-union S v w g k = record {
  base = g.base;
  first = g.first;
  lost_rises = union-lost-rises v w g.lost_rises k.lost_rises;
  admitted_rises = union-admitted-rises v w g.admitted_rises k.admitted_rises;
  owned = union-owned S.owner v w g.owned k.owned;
  lost_gone = λ s e. elim (lost-union v w s e) [
    | inl i ↦ g.lost_gone s i
    | inr i ↦ k.lost_gone s i
  ];
  named_begun = λ s e. elim (names-cases (union v w) s e) [
    | inl i ↦ g.named_begun s (names-first v s i)
    | inr i ↦ elim (admits-union v w s i) [
      | inl j ↦ g.named_begun s (names-admits v s j)
      | inr j ↦ k.named_begun s (names-admits w s j)
    ]
  ];
  recorded = λ s e. elim (admits-union v w s e) [
    | inl i ↦ recorded-within S v (union v w) s (within-union-left v w) (g.recorded s i)
    | inr i ↦ recorded-within S w (union v w) s (within-union-right v w) (k.recorded s i)
  ];
}

-- The admission is in the history of the later state.
pub good-admitted : (S T : State) (later : WordsLater S T) (x : Admitted) (w : Membership) → GoodWord S w → Begun S x.start → In x T.history.admitted → x.at ≡ w → GoodWord T (with_admitted x.start (S.owner x.start) w)
good-admitted S T later x w good begun i at = record {
  base = g.base;
  first = g.first;
  lost_rises = g.lost_rises;
  admitted_rises = with_admitted-rises x.start (S.owner x.start) w g.admitted_rises;
  owned = with_admitted-owned T.owner x.start (S.owner x.start) w (ap (λ o. o x.start) later.owner) g.owned;
  lost_gone = g.lost_gone;
  named_begun = λ s e. elim (names-cases (with_admitted x.start (S.owner x.start) w) s e) [
    | inl k ↦ g.named_begun s (names-first w s k)
    | inr k ↦ elim (admits-with_admitted x.start (S.owner x.start) s w k) [
      | inl j ↦ subst (Begun T) j (later.begun x.start begun)
      | inr j ↦ g.named_begun s (names-admits w s j)
    ]
  ];
  recorded = λ s e. elim (admits-with_admitted x.start (S.owner x.start) s w e) [
    | inl k ↦ record { entry = x; is_one = i; same = k; within = subst (λ z. Within z (with_admitted x.start (S.owner x.start) w)) (sym at) (within-with_admitted x.start (S.owner x.start) w) }
    | inr k ↦ recorded-within T w (with_admitted x.start (S.owner x.start) w) s (within-with_admitted x.start (S.owner x.start) w) (g.recorded s k)
  ];
}
  where
    g : GoodWord T w
    g = good-later S T later w good
