-- What an entry that a leader passes on comes to, for the copies and the joiners to which it goes.
use Rattle.log_laws.proofs.Names.{◌≡◌, true, [], ◌∷◌, ◌++◌, refl, subst, ap, ◌∙◌, ℕ, map, AllByRecursion, Entry, Site, Deployment, is_in, Letter, Sends, SiteState, Joiner, site_term, start_in_view, other_copies, put_to, tasks_to, In, Distinct, all-append, all-at, all-from, only-one, Passed, put_letter, put-all, task_letter, tasks-all, flat_map-append, Puts, Flow, Follows, is_for, line_of, line, flow_of, flow, end_of, stream_ends_in, flow_in, line_in}
use Rattle.log_laws.proofs.Plain.Lines.{flat-in, put-line, put-flow, tasks-line, tasks-flow, flat-none, flat-same, for-other, if-empty, if-none}

module _ (D : Deployment) (i : ℕ) (e : Entry) (s : SiteState) (out : Sends) (k : Passed D i e s out) (c : ℕ) where
  -- each of them
  pub passed-all : (P : Letter → Type 0) → (is_in c (other_copies D i s) ≡ true → P (put_letter D s e c (other_copies D i s)))
      → ((j : Joiner) → In j s.joiners → j.slot ≡ c → P (task_letter s e c j)) → AllByRecursion P (out (Site c))
  passed-all P put task = rw (k.sites c) (all-append P (put_to D s e c (other_copies D i s)) (tasks_to s e c s.joiners)
      (put-all D s e c (other_copies D i s) P put) (tasks-all s e c P s.joiners task))

  -- a copy gets the entry, and none but a copy
  pub passed-line : (start term : ℕ) → is_in c (other_copies D i s) ≡ true → start_in_view D s.view c ≡ start → site_term s ≡ term
      → line start term (out (Site c)) ≡ Puts e ∷ []
  passed-line start term is a t = ap (line start term) (k.sites c)
      ∙ flat-same (line_of start term) (put_to D s e c (other_copies D i s)) (tasks_to s e c s.joiners) (tasks-line s e c start term s.joiners)
      ∙ put-line D s e c (other_copies D i s) start term is a t

  pub passed-line-other : (start term : ℕ) → (is_in c (other_copies D i s) ≡ true → start_in_view D s.view c ≡ start → site_term s ≡ term → ⊥)
      → line start term (out (Site c)) ≡ []
  passed-line-other start term n = flat-none (line_of start term) (out (Site c)) (passed-all (λ l. line_of start term l ≡ [])
      (λ is. for-other start term (put_letter D s e c (other_copies D i s)) (line_in (put_letter D s e c (other_copies D i s)).body) (n is)) (λ j is q. if-empty _ _ refl))

  -- so does a joiner that is counted, and none but that
  pub passed-flow : (start term : ℕ) → Distinct (map (λ j. j.slot) s.joiners) → (j : Joiner) → In j s.joiners → j.slot ≡ c → j.start ≡ start → site_term s ≡ term
      → flow start term (out (Site c)) ≡ Follows e ∷ []
  passed-flow start term d j is q a t = ap (flow start term) (k.sites c)
      ∙ flat_map-append (flow_of start term) (put_to D s e c (other_copies D i s)) (tasks_to s e c s.joiners)
      ∙ ap (λ x. x ++ flow start term (tasks_to s e c s.joiners)) (put-flow D s e c (other_copies D i s) start term)
      ∙ tasks-flow s e c start term s.joiners d j is q a t

  pub passed-flow-other : (start term : ℕ) → ((j : Joiner) → In j s.joiners → j.slot ≡ c → j.start ≡ start → site_term s ≡ term → ⊥)
      → flow start term (out (Site c)) ≡ []
  passed-flow-other start term n = flat-none (flow_of start term) (out (Site c)) (passed-all (λ l. flow_of start term l ≡ [])
      (λ is. if-empty _ _ refl) (λ j is q. for-other start term (task_letter s e c j) (flow_in (task_letter s e c j).past (task_letter s e c j).body) (n j is q)))

  pub passed-ends : (start term : ℕ) → stream_ends_in start term (out (Site c)) ≡ []
  passed-ends start term = flat-none (end_of start term) (out (Site c)) (passed-all (λ l. end_of start term l ≡ [])
      (λ is. if-empty _ _ refl) (λ j is q. if-empty _ _ refl))

  -- and nothing but entries that follow
  pub passed-follows : (P : Flow → Type 0) (start term : ℕ) → P (Follows e) → AllByRecursion P (flow start term (out (Site c)))
  passed-follows P start term p = all-from P (flow start term (out (Site c))) (λ x m.
      let r = flat-in (flow_of start term) x (out (Site c)) m in
      all-at (λ l. (y : Flow) → In y (flow_of start term l) → P y) (out (Site c))
      (passed-all (λ l. (y : Flow) → In y (flow_of start term l) → P y)
      (λ is y n. absurd (subst (In y) (if-none (is_for start term (put_letter D s e c (other_copies D i s)))) n))
      (λ j is q y n. let o = only-one (is_for start term (task_letter s e c j)) (Follows e) y n in subst P o.1 p)) r.0 r.1 x r.2)
