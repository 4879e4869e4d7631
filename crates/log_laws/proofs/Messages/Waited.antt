-- A site that has come to a term takes what waited for that, one after another: what holds, holds after it.
use Rattle.log_laws.proofs.Names.{◌≡◌, ◌<◌, List, [], ◌∷◌, sym, subst, ap, ◌∙◌, ◌==◌, arith, eqb-true, ℕ, length, AllByRecursion, Site, Database, Deployment, term_in, Waiting, Turn, ◌▸◌, no_sends, of_term, above_term, SiteState, site_term, site_handler, all-append, all-from, in-filter, set-here, set-same, set-twice, LogState, LogsHold, SiteWaitingOk, site_start, log_at, term_at}
use Rattle.cluster_model.specs.Site.{takes_each, takes_waiting}
use Rattle.log_laws.proofs.Kept.{after_site, left, Enters, LogsGo, NoStreamStart, grown-then, enters-then, here, after-after, log-here, then-longer, goes-same}
use Rattle.log_laws.proofs.Messages.Pops.{takes-up-after}

-- ---- what is left of what waited

pub left-left : (S : LogState) (i : ℕ) (ws vs : List Waiting) → left (left S i ws) i vs ≡ left S i vs
left-left S i ws vs = ap (λ p. record S { pending = p }) (set-twice S.pending i ws vs)

pub left-same : (S : LogState) (i : ℕ) (ws : List Waiting) → S.pending i ≡ ws → left S i ws ≡ S
left-same S i ws e = subst (λ v. left S i v ≡ S) e (ap (λ p. record S { pending = p }) (set-same S.pending i))

-- a turn with which a message is taken that waited, and then one with which others are
pub left-then : (S : LogState) (i : ℕ) (ws vs : List Waiting) (t : Turn SiteState) (f : SiteState → Turn SiteState) (g : LogsGo (left S i ws) i t)
    → LogsGo (left (after_site (left S i ws) i t.state t.sends g.logs) i vs) i (f t.state) → LogsGo (left S i vs) i (t ▸ f)
left-then S i ws vs t f g r = record {
  logs = r.logs;
  start = r.start ∙ ap (λ x. x.start) (here (left S i ws) i t.state t.sends g.logs) ∙ g.start;
  view = r.view ∙ ap (λ x. x.view) (here (left S i ws) i t.state t.sends g.logs) ∙ g.view;
  plain = λ c. all-append NoStreamStart (t.sends (Site c)) ((f t.state).sends (Site c)) (g.plain c) (r.plain c);
  holds = subst (λ X. LogsHold (after_site X i (f t.state).state (t ▸ f).sends r.logs)) (left-left S i ws vs)
      (subst LogsHold (after-after (left (left S i ws) i vs) i t.state (f t.state).state t.sends (f t.state).sends g.logs r.logs) r.holds);
  grown = grown-then S.words.deployment i t.state (f t.state).state S.logs g.logs r.logs
      (r.start ∙ ap (λ x. x.start) (here (left S i ws) i t.state t.sends g.logs)) (r.view ∙ ap (λ x. x.view) (here (left S i ws) i t.state t.sends g.logs)) g.grown r.grown;
  enters = let e = log-here (left S i ws) i t.state t.sends g.logs in let k = g.longer in
      enters-then i (length (log_at S i)) (length (log_at (after_site (left S i ws) i t.state t.sends g.logs) i)) S.logs g.logs r.logs (omega (arith, e, k)) g.enters r.enters;
  longer = then-longer (left S i ws) i t.state t.sends g.logs (length (f t.state).state.log) g.longer r.longer;
}

-- ---- one after another

module _ (E : Database) (D : Deployment) (stamp i : ℕ) where
  -- All holds after the handler of each message that waited for the term.
  abbrev pub HandlersGo : Type 0
  HandlersGo = (T : LogState) (x : Waiting) (ws : List Waiting) → LogsHold T → 0 < site_start T i → T.words.deployment ≡ D → T.pending i ≡ x ∷ ws
      → x.letter.term ≡ term_at T i → SiteWaitingOk T i x → LogsGo (left T i ws) i (site_handler E D stamp i (T.sites i) x.from x.letter)

  pub each-goes : (ws : List Waiting) (S : LogState) → HandlersGo → LogsHold S → 0 < site_start S i → S.words.deployment ≡ D → S.pending i ≡ ws
      → AllByRecursion (λ x. x.letter.term ≡ term_at S i) ws → LogsGo (left S i []) i (takes_each E D stamp i ws (S.sites i))
  each-goes [] S handlers H up d is t = subst (λ T. LogsGo T i (takes_each E D stamp i [] (S.sites i))) (sym (left-same S i [] is)) (goes-same S i H)
  each-goes (x ∷ ws) S handlers H up d is t =
      let handler = site_handler E D stamp i (S.sites i) x.from x.letter in
      let g = handlers S x ws H up d is t.0 (subst (AllByRecursion (SiteWaitingOk S i)) is ((H.sites i).keeps up).pending).0 in
      let T = after_site (left S i ws) i handler.state handler.sends g.logs in
      let there = here (left S i ws) i handler.state handler.sends g.logs in
      let view : (T.sites i).view ≡ (S.sites i).view = ap (λ s. s.view) there ∙ g.view in
      let start : site_start T i ≡ site_start S i = ap (λ s. s.start) there ∙ g.start in
      left-then S i ws [] handler (takes_each E D stamp i ws) g (subst (λ s. LogsGo (left T i []) i (takes_each E D stamp i ws s)) there
      (each-goes ws T handlers g.holds (subst (λ s. 0 < s) (sym start) up) d (set-here S.pending i ws)
      (subst (λ o. AllByRecursion (λ x. x.letter.term ≡ term_in o) ws) (sym view) t.1)))

  -- What waited for the site's term is taken.
  pub waited-goes : (S : LogState) → HandlersGo → LogsHold S → 0 < site_start S i → S.words.deployment ≡ D → S.pending i ≡ [] → LogsGo S i (takes_waiting E D stamp i (S.sites i))
  waited-goes S handlers H up d none = record {
    logs = g.logs;
    start = g.start ∙ ap (λ x. x.start) there;
    view = g.view ∙ ap (λ x. x.view) there;
    plain = g.plain;
    holds = subst (λ X. LogsHold (after_site X i t.state t.sends g.logs)) (left-left S i now [] ∙ left-same S i [] none)
        (subst LogsHold (after-after (left (left S i now) i []) i s t.state no_sends t.sends S.logs g.logs) g.holds);
    grown = g.grown;
    enters = subst (λ n. Enters i n S.logs g.logs) (ap (λ x. length x.log) there) g.enters;
    longer = let e = ap (λ x. length x.log) there in let k = g.longer in omega (arith, e, k);
  }
    where
      now : List Waiting
      now = of_term (term_at S i) (S.sites i).waiting

      s : SiteState
      s = record (S.sites i) { waiting = above_term (term_at S i) (S.sites i).waiting }

      t : Turn SiteState
      t = takes_each E D stamp i now s

      T : LogState
      T = after_site (left S i now) i s no_sends S.logs

      there : T.sites i ≡ s
      there = here (left S i now) i s no_sends S.logs

      terms : AllByRecursion (λ x. x.letter.term ≡ term_at T i) now
      terms = all-from (λ x. x.letter.term ≡ term_at T i) now (λ x k.
          eqb-true x.letter.term (term_at S i) (in-filter (λ w. w.letter.term == term_at S i) x (S.sites i).waiting k).1 ∙ ap site_term (sym there))

      g : LogsGo (left T i []) i t
      g = subst (λ z. LogsGo (left T i []) i (takes_each E D stamp i now z)) there
          (each-goes now T handlers (takes-up-after S H i none (term_at S i)) (subst (λ z. 0 < z.start) (sym there) up) d (set-here S.pending i now) terms)
