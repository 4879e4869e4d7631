-- What a site sends of its state: to copies, to joiners, and in which order.
use Rattle.cluster_steps.proofs.Names.{◌≡◌, Bool, true, false, List, [], ◌∷◌, ◌++◌, refl, sym, subst, ap, ◌∙◌, ◌⊎◌, inl, inr, ◌==◌, and_parts, eqb-true, eqb-false, ℕ, ◌&&◌, if◌then◌else◌, filter, drop, length, unwrap_or, AllByRecursion, Entry, Deployment, is_in, Letter, letter_in, SiteState, Reported, Joiner, site_term, start_in_view, order_of, of_order, put_to, tasks_to, repair_to, stream_ends_to, is_sent, In}
use Rattle.volt_wire.specs.declared.message.Msg.TheVariants as msg
use Rattle.cluster_steps.proofs.Lists.{in-map-from, in-filter, all-at, all-from, all-append, all-filter, all-one}

-- ---- in the order in which a site sends

abbrev pub in_order : List Letter → List Letter
in_order ls = of_order 1 ls ++ of_order 2 ls ++ of_order 3 ls ++ of_order 4 ls

-- what holds of all letters holds of them in order
pub all-order : (P : Letter → Type 0) (ls : List Letter) → AllByRecursion P ls → AllByRecursion P (in_order ls)
all-order P ls h =
    all-append P (of_order 1 ls ++ of_order 2 ls ++ of_order 3 ls) (of_order 4 ls)
    (all-append P (of_order 1 ls ++ of_order 2 ls) (of_order 3 ls) (all-append P (of_order 1 ls) (of_order 2 ls) (each 1) (each 2)) (each 3)) (each 4)
  where
    each : (n : ℕ) → AllByRecursion P (of_order n ls)
    each n = all-filter P (λ l. order_of l == n) ls h

-- no other letters are there
pub in-order : (l : Letter) (ls : List Letter) → In l (in_order ls) → In l ls
in-order l ls i = all-at (λ x. In x ls) (in_order ls) (all-order (λ x. In x ls) ls (all-from (λ x. In x ls) ls (λ x k. k))) l i

-- ---- what is put to a copy

module _ (D : Deployment) (s : SiteState) (e : Entry) (slot : ℕ) (others : List ℕ) where
  -- the message that it gets
  abbrev pub put_letter : Letter
  put_letter = letter_in (site_term s) (start_in_view D s.view slot) (msg.Put (length s.log) e s.floor)

  pub put-all : (P : Letter → Type 0) → (is_in slot others ≡ true → P put_letter) → AllByRecursion P (put_to D s e slot others)
  put-all P f = all-one P (is_in slot others) put_letter f

-- ---- what is passed on to a joiner

module _ (s : SiteState) (e : Entry) (slot : ℕ) where
  abbrev pub task_letter : Joiner → Letter
  task_letter j = letter_in (site_term s) j.start (msg.Task (length s.log) e)

  pub tasks-all : (P : Letter → Type 0) (js : List Joiner) → ((j : Joiner) → In j js → j.slot ≡ slot → P (task_letter j)) → AllByRecursion P (tasks_to s e slot js)
  tasks-all P js f = all-from P (tasks_to s e slot js) (λ l i.
      let r = in-map-from task_letter l (filter (λ j. j.slot == slot) js) i in
      let k = in-filter (λ j. j.slot == slot) r.0 js r.1 in
      subst P r.2 (f r.0 k.0 (eqb-true r.0.slot slot k.1)))

-- ---- what a copy lacks

module _ (D : Deployment) (s : SiteState) (slot : ℕ) where
  abbrev pub repair_letter : Reported → Letter
  repair_letter r = letter_in (site_term s) (start_in_view D s.view slot) (msg.Repair r.position (drop r.position s.log))

  -- by the first report of the slot, if there is one
  pub repair-cases : (rs : List Reported)
      → (((r : Reported) → In r rs → r.slot ≡ slot → ⊥) × (repair_to D s slot rs ≡ []))
      ⊎ ((r : Reported) × In r rs × (r.slot ≡ slot) × (repair_to D s slot rs ≡ repair_letter r ∷ []))
  repair-cases [] = inl ((λ r i q. i), refl)
  repair-cases (r ∷ rs) = choice (r.slot == slot) refl (repair-cases rs)
    where
      choice : (b : Bool) → (r.slot == slot) ≡ b
          → (((r : Reported) → In r rs → r.slot ≡ slot → ⊥) × (repair_to D s slot rs ≡ []))
          ⊎ ((r : Reported) × In r rs × (r.slot ≡ slot) × (repair_to D s slot rs ≡ repair_letter r ∷ []))
          → (((k : Reported) → In k (r ∷ rs) → k.slot ≡ slot → ⊥) × ((if b then repair_letter r ∷ [] else repair_to D s slot rs) ≡ []))
          ⊎ ((k : Reported) × In k (r ∷ rs) × (k.slot ≡ slot) × ((if b then repair_letter r ∷ [] else repair_to D s slot rs) ≡ repair_letter k ∷ []))
      choice true e c = inr (r, inl refl, eqb-true r.slot slot e, refl)
      choice false e (inl c) = inl ((λ k i q. elim i [ inl p ↦ eqb-false r.slot slot e (ap (λ x. x.slot) p ∙ q) | inr p ↦ c.0 k p q ]), c.1)
      choice false e (inr c) = inr (c.0, inr c.1, c.2, c.3)

  pub repair-all : (P : Letter → Type 0) (rs : List Reported) → ((r : Reported) → In r rs → r.slot ≡ slot → P (repair_letter r)) → AllByRecursion P (repair_to D s slot rs)
  repair-all P rs f = elim (repair-cases rs) [ inl c ↦ subst (AllByRecursion P) (sym c.1) tt | inr c ↦ subst (AllByRecursion P) (sym c.3) (f c.0 c.1 c.2, tt) ]

-- ---- that a stream is whole

module _ (s : SiteState) (slot : ℕ) where
  abbrev pub end_letter : Joiner → Letter
  end_letter j = letter_in (site_term s) j.start (msg.StreamEnd (unwrap_or j.count 0))

  pub stream_ends-all : (P : Letter → Type 0) → ((j : Joiner) → In j s.joiners → j.slot ≡ slot → is_sent s j ≡ true → P (end_letter j)) → AllByRecursion P (stream_ends_to s slot)
  stream_ends-all P f = all-from P (stream_ends_to s slot) (λ l i.
      let r = in-map-from end_letter l (filter (λ j. j.slot == slot && is_sent s j) s.joiners) i in
      let k = in-filter (λ j. j.slot == slot && is_sent s j) r.0 s.joiners r.1 in
      let p = and_parts (r.0.slot == slot) (is_sent s r.0) k.1 in
      subst P r.2 (f r.0 k.0 (eqb-true r.0.slot slot p.0) p.1))
