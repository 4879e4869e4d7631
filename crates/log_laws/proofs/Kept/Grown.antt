-- What turns of sites add to the history of terms that are led: nothing, at one place, and one turn behind another.
use Rattle.log_laws.proofs.Names.{◌≡◌, sym, subst, ap, ◌∙◌, inl, inr, refl, arith, cases_eq, ℕ, ◌≤◌, Some, Deployment, SiteState, prefix-refl, prefix-trans, Logs}
use Rattle.log_laws.proofs.Kept.Moves.{Onward, Heads, Grown, Enters}

-- ---- a later history

-- where the same terms are led, with the same logs
onward-reach : (F G : Logs) → G.leadership ≡ F.leadership → ((p t : ℕ) → F.reach p t ≤ G.reach p t) → Onward F G
onward-reach F G same reach = record { kept = λ p t g is. (g, ap (λ r. r p t) same ∙ is, refl, prefix-refl g.log); reach = reach }

pub onward-same : (F : Logs) → Onward F F
onward-same F = onward-reach F F refl (λ p t. omega arith)

pub onward-then : (F G H : Logs) → Onward F G → Onward G H → Onward F H
onward-then F G H first second = record {
  kept = λ p t g is.
      let k = first.kept p t g is in
      let l = second.kept p t k.0 k.1 in
      (l.0, l.1, l.2 ∙ k.2, prefix-trans g.log k.0.log l.0.log k.3 l.3);
  reach = λ p t. let k = first.reach p t in let l = second.reach p t in omega (arith, k, l);
}

-- ---- what is entered

-- where nothing is
pub enters-same : (i low : ℕ) (F G : Logs) → G.entered ≡ F.entered → Enters i low F G
enters-same i low F G same = record { kept = λ c t e is. ap (λ f. f c t) same ∙ is; now = λ t e is. inl (ap (λ f. f i t) (sym same) ∙ is) }

-- one turn after another, from a log that has only grown
pub enters-then : (i low high : ℕ) (F G H : Logs) → low ≤ high → Enters i low F G → Enters i high G H → Enters i low F H
enters-then i low high F G H longer first second = record {
  kept = λ c t e is. second.kept c t e (first.kept c t e is);
  now = λ t e is. elim (second.now t e is) [ inl old ↦ first.now t e old | inr long ↦ inr (omega (arith, longer, long)) ];
}

-- ---- turns of a site

module _ (D : Deployment) (i : ℕ) where
  -- where the site goes on with its start in its word
  heads-on : (a b : SiteState) → b.start ≡ a.start → b.view ≡ a.view → (p t : ℕ) → Heads D i a p t → Heads D i b p t
  heads-on a b start view p t h = record {
    word = h.word;
    view = view ∙ h.view;
    part_is = h.part_is;
    term_is = h.term_is;
    first = h.first;
    start_is = h.start_is ∙ ap Some (sym start);
  }

  -- no term is led anew, or with a longer log
  pub grown-reach : (s : SiteState) (F G : Logs) → G.leadership ≡ F.leadership → ((p t : ℕ) → F.reach p t ≤ G.reach p t) → Grown D i s F G
  grown-reach s F G same reach = record { onward = onward-reach F G same reach; led = λ p t h is. inl (ap (λ r. r p t) (sym same) ∙ is) }

  -- nothing is added
  pub grown-same : (s : SiteState) (F : Logs) → Grown D i s F F
  grown-same s F = grown-reach s F F refl (λ p t. omega arith)

  -- one is, which the site leads
  pub grown-at : (s : SiteState) (F G : Logs) (p t : ℕ) → Heads D i s p t → Onward F G → ((q u : ℕ) → (q ≡ p → u ≡ t → ⊥) → G.leadership q u ≡ F.leadership q u) → Grown D i s F G
  grown-at s F G p t heads onward apart = record {
    onward = onward;
    led = λ q u h is. elim (cases_eq q p) [
      | inr n ↦ inl (sym (apart q u (λ e _. n e)) ∙ is)
      | inl e ↦ elim (cases_eq u t) [ inr n ↦ inl (sym (apart q u (λ _ f. n f)) ∙ is) | inl f ↦ inr (subst (λ z. Heads D i s z u) (sym e) (subst (Heads D i s p) (sym f) heads)) ]
    ];
  }

  -- one turn behind another, in which the site goes on with its start in its word
  pub grown-on : (a b : SiteState) (F G : Logs) → b.start ≡ a.start → b.view ≡ a.view → Grown D i a F G → Grown D i b F G
  grown-on a b F G start view k = record {
    onward = k.onward;
    led = λ p t h is. elim (k.led p t h is) [ inl old ↦ inl old | inr new ↦ inr (heads-on a b start view p t new) ];
  }

  pub grown-then : (a b : SiteState) (F G H : Logs) → b.start ≡ a.start → b.view ≡ a.view → Grown D i a F G → Grown D i b G H → Grown D i b F H
  grown-then a b F G H start view first second = record {
    onward = onward-then F G H first.onward second.onward;
    led = λ p t h is. elim (second.led p t h is) [ inl old ↦ (grown-on a b F G start view first).led p t h old | inr new ↦ inr new ];
  }
