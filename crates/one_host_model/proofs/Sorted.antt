-- Lists in strict order that have the same members are one list.
use Rattle.std.proofs.Common.{◌≡◌, ◌&&◌, ◌||◌, Bool, true, false, List, [], ◌∷◌, filter, ap, sym, subst, ◌∙◌, inl, inr}
use Rattle.std.specs.List.{list_any, AllByRecursion}
use Rattle.std.specs.List.Sorted.{IsStrictlySortedBy}
use Rattle.std.specs.Cmp.{IsTotalOrder, Equal-is}
use Rattle.std.specs.BTreeMap.{is_at}
use Rattle.std.specs.BTreeSet.{BTreeSet}
use Rattle.std.specs.declared.cmp.Ordering.{Ordering}
use Rattle.std.proofs.lemmas.Bool.{false≢true, cases_Bool}
use Rattle.std.proofs.lemmas.List.Kept.{IsStrictlySortedBy-filter}
use Rattle.std.proofs.lemmas.Map.Lookups.{CmpEqualImpliesEq, btree_set_from_contains}
use Rattle.std.proofs.lemmas.Map.Views.{any-filter_same}

module _ {K : Type 0} {R : K → K → Ordering} (total : IsTotalOrder R) (exact : CmpEqualImpliesEq R) where
  -- what holds of each key holds of one that is found among them
  holds_of_found : (P : K → Type 0) (q : K) (ks : List K) → AllByRecursion P ks → list_any (is_at (R q)) ks ≡ true → P q
  holds_of_found P q [] h e = absurd (false≢true e)
  holds_of_found P q (k ∷ ks) h e =
      elim (cases_Bool (is_at (R q) k)) [
        | inl t ↦ subst P (sym (exact q k ((Equal-is (R q k)).0 t))) h.0
        | inr f ↦ holds_of_found P q ks h.1 (ap (λ b. b || list_any (is_at (R q)) ks) (sym f) ∙ e)
      ]

  -- Keys in strict order, each of them among the candidates and found by a test, are the candidates that pass it.
  pub sorted_is_filter : (test : K → Bool) (candidates ks : List K) → IsStrictlySortedBy R candidates → IsStrictlySortedBy R ks → AllByRecursion (λ k. list_any (is_at (R k)) candidates ≡ true) ks → ((q : K) → test q ≡ list_any (is_at (R q)) ks) → ks ≡ filter test candidates
  sorted_is_filter test candidates ks all some members found =
      let left : BTreeSet K = record { keys = ks } in
      let right : BTreeSet K = record { keys = filter test candidates } in
      btree_set_from_contains total left right some (IsStrictlySortedBy-filter R test candidates all) same exact
    where
      kept : (q : K) (b : Bool) → test q ≡ b → list_any (is_at (R q)) (filter test candidates) ≡ (b && list_any (is_at (R q)) candidates)
      kept q b e = any-filter_same (is_at (R q)) test b (λ k t. ap test (sym (exact q k ((Equal-is (R q k)).0 t))) ∙ e) candidates

      same : (q : K) → list_any (is_at (R q)) ks ≡ list_any (is_at (R q)) (filter test candidates)
      same q = elim (cases_Bool (list_any (is_at (R q)) ks)) [
        | inl t ↦ t ∙ sym (kept q true (found q ∙ t) ∙ holds_of_found (λ k. list_any (is_at (R k)) candidates ≡ true) q ks members t)
        | inr f ↦ f ∙ sym (kept q false (found q ∙ f))
      ]
