-- What is under way: items of lists of letters, of letters in the order in which a site sends them, and of what a site sends.
use Rattle.log_laws.proofs.Names.{◌≡◌, Bool, true, false, List, [], ◌∷◌, ◌++◌, append-nil, refl, sym, subst, ap, ◌∙◌, inl, inr, ◌==◌, true≢false, and_parts, and_from, eqb-true, eq-eqb, false_from_ne_true, map-append, flat_map-append, filter-append, ℕ, if◌then◌else◌, map, filter, flat_map, drop, AllByRecursion, Entry, Deployment, is_in, Letter, SiteState, Reported, Joiner, Ask, site_term, start_in_view, order_of, of_order, put_to, tasks_to, repair_to, stream_ends_to, is_sent, In, Distinct, if-true, if-false, in-left, in-right, in-cases, in-filter, all-from, all-mono, in-none, in-map, in_order, put_letter, put-all, task_letter, tasks-all, repair_letter, repair-cases, repair-all, end_letter, stream_ends-all, cases_eq, cond_both, None, Option, Some, ◌⊎◌, Line, Repairs, Puts, Flow, Begins, Follows, is_for, line_in, line_of, line, flow_in, flow_of, flow, end_in, end_of, stream_ends_in, ask_in, ask_of, asks_in, asks_kept, view_in, view_of}
use Rattle.volt_wire.specs.declared.message.Msg.TheVariants as msg
use Rattle.log_laws.proofs.Kept.Moves.{NoStreamStart}

-- ---- one number, and others

-- what is so of this one, and of each other one, is so of all
pub one-and-others : (P : ℕ → Type 0) (i : ℕ) → P i → ((c : ℕ) → (c ≡ i → ⊥) → P c) → (c : ℕ) → P c
one-and-others P i here there c = elim (cases_eq c i) [ inl e ↦ subst P (sym e) here | inr n ↦ there c n ]

-- a value that is there, or isn't
pub none-or-some : {A : Type 0} (o : Option A) → (o ≡ None) ⊎ ((x : A) × (o ≡ Some x))
none-or-some None = inl refl
none-or-some (Some x) = inr (x, refl)

-- ---- lists of lists

pub both-empty : {A : Type 0} (ys zs : List A) → ys ++ zs ≡ [] → (ys ≡ []) × (zs ≡ [])
both-empty [] zs e = (refl, e)
both-empty (y ∷ ys) zs e = absurd (cc)

module _ {A B : Type 0} (f : A → List B) where
  -- where each is empty there is nothing, and where there is nothing each is empty
  pub flat-none : (xs : List A) → AllByRecursion (λ x. f x ≡ []) xs → flat_map f xs ≡ []
  flat-none [] h = refl
  flat-none (x ∷ xs) h = rw h.0 (flat-none xs h.1)

  pub flat-each : (xs : List A) → flat_map f xs ≡ [] → (x : A) → In x xs → f x ≡ []
  flat-each [] e y i = absurd i
  flat-each (x ∷ xs) e y (inl q) = ap f (sym q) ∙ (both-empty (f x) (flat_map f xs) e).0
  flat-each (x ∷ xs) e y (inr i) = flat-each xs (both-empty (f x) (flat_map f xs) e).1 y i

  -- what is behind others, where it is nothing, and where it is of one
  pub flat-same : (xs ys : List A) → flat_map f ys ≡ [] → flat_map f (xs ++ ys) ≡ flat_map f xs
  flat-same xs ys e = flat_map-append f xs ys ∙ ap (λ zs. flat_map f xs ++ zs) e ∙ append-nil (flat_map f xs)

  pub flat-push : (xs : List A) (x : A) → flat_map f (xs ++ x ∷ []) ≡ flat_map f xs ++ f x
  flat-push xs x = flat_map-append f xs (x ∷ []) ∙ ap (λ zs. flat_map f xs ++ zs) (append-nil (f x))

  -- what is there comes from one of them
  pub flat-in : (y : B) (xs : List A) → In y (flat_map f xs) → (x : A) × In x xs × In y (f x)
  flat-in y [] i = absurd i
  flat-in y (x ∷ xs) i = elim (in-cases y (f x) (flat_map f xs) i) [ inl k ↦ (x, inl refl, k) | inr k ↦ let r = flat-in y xs k in (r.0, inr r.1, r.2) ]

  pub in-flat : (y : B) (x : A) (xs : List A) → In x xs → In y (f x) → In y (flat_map f xs)
  in-flat y x [] i k = absurd i
  in-flat y x (z ∷ xs) (inl e) k = in-left y (f z) (flat_map f xs) (subst (λ w. In y (f w)) (sym e) k)
  in-flat y x (z ∷ xs) (inr i) k = in-right y (f z) (flat_map f xs) (in-flat y x xs i k)

  -- of those that pass a test, where the others are empty, or they are
  pub flat-kept : (p : A → Bool) (xs : List A) → AllByRecursion (λ x. p x ≡ false → f x ≡ []) xs → flat_map f (filter p xs) ≡ flat_map f xs
  flat-kept p [] h = refl
  flat-kept p (x ∷ xs) h = cond_both (p x) _ _ (λ z. flat_map f (filter p xs) ≡ flat_map f xs → flat_map f z ≡ f x ++ flat_map f xs)
      (λ e k. ap (λ ys. f x ++ ys) k) (λ e k. rw (h.0 e) k) (flat-kept p xs h.1)

  pub flat-lost : (p : A → Bool) (xs : List A) → AllByRecursion (λ x. p x ≡ true → f x ≡ []) xs → flat_map f (filter p xs) ≡ []
  flat-lost p [] h = refl
  flat-lost p (x ∷ xs) h = cond_both (p x) _ _ (λ z. flat_map f (filter p xs) ≡ [] → flat_map f z ≡ []) (λ e k. rw (h.0 e) k) (λ e k. k) (flat-lost p xs h.1)

pub if-none : {A : Type 0} (c : Bool) → ◌≡◌ {A = List A} (if c then [] else []) []
if-none true = refl
if-none false = refl

-- what is empty is so whatever the test
pub if-empty : {A : Type 0} (c : Bool) (xs : List A) → xs ≡ [] → (if c then xs else []) ≡ []
if-empty true xs e = e
if-empty false xs e = refl

-- ---- asks that a site keeps

pub kept-append : (c : ℕ) (xs ys : List Ask) → asks_kept c (xs ++ ys) ≡ asks_kept c xs ++ asks_kept c ys
kept-append c xs ys =
    ap (λ zs. map (λ a. a.start) zs) (filter-append (λ a. a.slot == c) xs ys)
    ∙ map-append (λ a. a.start) (filter (λ a. a.slot == c) xs) (filter (λ a. a.slot == c) ys)

-- ---- for whom a message is

-- for this start and of this term, or not
pub for-true : (start term : ℕ) (l : Letter) → l.start ≡ start → l.term ≡ term → is_for start term l ≡ true
for-true start term l s t = and_from (l.start == start) (l.term == term) (eq-eqb l.start start s) (eq-eqb l.term term t)

pub true-for : (start term : ℕ) (l : Letter) → is_for start term l ≡ true → (l.start ≡ start) × (l.term ≡ term)
true-for start term l e = let p = and_parts (l.start == start) (l.term == term) e in (eqb-true l.start start p.0, eqb-true l.term term p.1)

pub for-false : (start term : ℕ) (l : Letter) → (l.start ≡ start → l.term ≡ term → ⊥) → is_for start term l ≡ false
for-false start term l n = false_from_ne_true (is_for start term l) (λ e. let p = true-for start term l e in n p.0 p.1)

-- what it says is said to one for whom it is, and nothing to another
pub for-here : {A : Type 0} (start term : ℕ) (l : Letter) (xs : List A) → l.start ≡ start → l.term ≡ term → (if is_for start term l then xs else []) ≡ xs
for-here start term l xs s t = if-true (is_for start term l) xs [] (for-true start term l s t)

pub for-other : {A : Type 0} (start term : ℕ) (l : Letter) (xs : List A) → (l.start ≡ start → l.term ≡ term → ⊥) → (if is_for start term l then xs else []) ≡ []
for-other start term l xs n = if-false (is_for start term l) xs [] (for-false start term l n)

pub asks-here : (term : ℕ) (l : Letter) → l.term ≡ term → ask_of term l ≡ ask_in l.body
asks-here term l t = if-true (l.term == term) (ask_in l.body) [] (eq-eqb l.term term t)

pub views-here : (start : ℕ) (l : Letter) → l.start ≡ start → view_of start l ≡ view_in l.body
views-here start l s = if-true (l.start == start) (view_in l.body) [] (eq-eqb l.start start s)

pub views-other : (start : ℕ) (l : Letter) → (l.start ≡ start → ⊥) → view_of start l ≡ []
views-other start l n = if-false (l.start == start) (view_in l.body) [] (false_from_ne_true (l.start == start) (λ e. n (eqb-true l.start start e)))

-- ---- items told apart

pub puts-cons : (es : List Entry) (e : Entry) (rest : List Line) → map Puts es ≡ Puts e ∷ rest → (fs : List Entry) × (es ≡ e ∷ fs) × (rest ≡ map Puts fs)
puts-cons [] e rest k = absurd (cc)
puts-cons (f ∷ fs) e rest k = (fs, cc, cc)

pub repairs-not-put : (from : ℕ) (es : List Entry) (e : Entry) (r q : List Line) → Repairs from es ∷ r ≡ Puts e ∷ q → ⊥
repairs-not-put from es e r q k = cc

pub puts-not-repairs : (es fs : List Entry) (from : ℕ) (r : List Line) → map Puts es ≡ Repairs from fs ∷ r → ⊥
puts-not-repairs [] fs from r k = cc
puts-not-repairs (e ∷ es) fs from r k = cc

pub repairs-same : (a b : ℕ) (xs ys : List Entry) (r q : List Line) → Repairs a xs ∷ r ≡ Repairs b ys ∷ q → (a ≡ b) × (xs ≡ ys) × (r ≡ q)
repairs-same a b xs ys r q k = (cc, cc, cc)

-- to a joiner
pub follows-cons : (es : List Entry) (e : Entry) (rest : List Flow) → map Follows es ≡ Follows e ∷ rest → (fs : List Entry) × (es ≡ e ∷ fs) × (rest ≡ map Follows fs)
follows-cons [] e rest k = absurd (cc)
follows-cons (f ∷ fs) e rest k = (fs, cc, cc)

pub begins-not-follows : (past : List Entry) (stream_start : ℕ) (e : Entry) (r q : List Flow) → Begins past stream_start ∷ r ≡ Follows e ∷ q → ⊥
begins-not-follows past stream_start e r q k = cc

pub follows-not-begins : (es past : List Entry) (stream_start : ℕ) (r : List Flow) → map Follows es ≡ Begins past stream_start ∷ r → ⊥
follows-not-begins [] past stream_start r k = cc
follows-not-begins (e ∷ es) past stream_start r k = cc

pub begins-same : (xs ys : List Entry) (a b : ℕ) (r q : List Flow) → Begins xs a ∷ r ≡ Begins ys b ∷ q → (xs ≡ ys) × (a ≡ b) × (r ≡ q)
begins-same xs ys a b r q k = (cc, cc, cc)

-- ---- in the order in which a site sends

module _ {A : Type 0} (f : Letter → List A) where
  -- what is said by letters of the first place alone, or of the last, is as it was
  pub order-first : (ls : List Letter) → AllByRecursion (λ l. (order_of l == 1) ≡ false → f l ≡ []) ls → flat_map f (in_order ls) ≡ flat_map f ls
  order-first ls h =
      flat_map-append f (of_order 1 ls ++ of_order 2 ls ++ of_order 3 ls) (of_order 4 ls)
      ∙ ap (λ x. flat_map f (of_order 1 ls ++ of_order 2 ls ++ of_order 3 ls) ++ x) (gone 4 refl)
      ∙ append-nil (flat_map f (of_order 1 ls ++ of_order 2 ls ++ of_order 3 ls))
      ∙ flat_map-append f (of_order 1 ls ++ of_order 2 ls) (of_order 3 ls)
      ∙ ap (λ x. flat_map f (of_order 1 ls ++ of_order 2 ls) ++ x) (gone 3 refl)
      ∙ append-nil (flat_map f (of_order 1 ls ++ of_order 2 ls))
      ∙ flat_map-append f (of_order 1 ls) (of_order 2 ls)
      ∙ ap (λ x. flat_map f (of_order 1 ls) ++ x) (gone 2 refl)
      ∙ append-nil (flat_map f (of_order 1 ls))
      ∙ flat-kept f (λ l. order_of l == 1) ls h
    where
      gone : (n : ℕ) → (n == 1) ≡ false → flat_map f (of_order n ls) ≡ []
      gone n d = flat-lost f (λ l. order_of l == n) ls (all-mono (λ l. (order_of l == 1) ≡ false → f l ≡ []) (λ l. (order_of l == n) ≡ true → f l ≡ [])
          (λ l k e. k (ap (λ m. m == 1) (eqb-true (order_of l) n e) ∙ d)) ls h)

  pub order-last : (ls : List Letter) → AllByRecursion (λ l. (order_of l == 4) ≡ false → f l ≡ []) ls → flat_map f (in_order ls) ≡ flat_map f ls
  order-last ls h =
      flat_map-append f (of_order 1 ls ++ of_order 2 ls ++ of_order 3 ls) (of_order 4 ls)
      ∙ ap (λ x. x ++ flat_map f (of_order 4 ls)) before
      ∙ flat-kept f (λ l. order_of l == 4) ls h
    where
      gone : (n : ℕ) → (n == 4) ≡ false → flat_map f (of_order n ls) ≡ []
      gone n d = flat-lost f (λ l. order_of l == n) ls (all-mono (λ l. (order_of l == 4) ≡ false → f l ≡ []) (λ l. (order_of l == n) ≡ true → f l ≡ [])
          (λ l k e. k (ap (λ m. m == 4) (eqb-true (order_of l) n e) ∙ d)) ls h)

      before : flat_map f (of_order 1 ls ++ of_order 2 ls ++ of_order 3 ls) ≡ []
      before =
          flat_map-append f (of_order 1 ls ++ of_order 2 ls) (of_order 3 ls)
          ∙ ap (λ x. flat_map f (of_order 1 ls ++ of_order 2 ls) ++ x) (gone 3 refl)
          ∙ append-nil (flat_map f (of_order 1 ls ++ of_order 2 ls))
          ∙ flat_map-append f (of_order 1 ls) (of_order 2 ls)
          ∙ ap (λ x. flat_map f (of_order 1 ls) ++ x) (gone 2 refl)
          ∙ append-nil (flat_map f (of_order 1 ls))
          ∙ gone 1 refl

-- each message that isn't of that place says nothing
line-place : (start term : ℕ) (l : Letter) → (order_of l == 1) ≡ false → line_of start term l ≡ []
line-place start term l = elim l.body as (λ m. (order_of (record l { body = m }) == 1) ≡ false → line_of start term (record l { body = m }) ≡ []) [
  | msg.Put position e floor ↦ λ k. absurd (true≢false k)
  | msg.Repair from es ↦ λ k. absurd (true≢false k)
  | m ↦ λ k. if-none (is_for start term l)
]

flow-place : (start term : ℕ) (l : Letter) → NoStreamStart l → (order_of l == 1) ≡ false → flow_of start term l ≡ []
flow-place start term l = elim l.body as (λ m. NoStreamStart (record l { body = m }) → (order_of (record l { body = m }) == 1) ≡ false
    → flow_of start term (record l { body = m }) ≡ []) [
      | msg.StreamStart head ↦ λ n k. absurd n
      | msg.Task position e ↦ λ n k. absurd (true≢false k)
      | m ↦ λ n k. if-none (is_for start term l)
    ]

ends-place : (start term : ℕ) (l : Letter) → (order_of l == 4) ≡ false → end_of start term l ≡ []
ends-place start term l = elim l.body as (λ m. (order_of (record l { body = m }) == 4) ≡ false → end_of start term (record l { body = m }) ≡ []) [
  | msg.StreamEnd count ↦ λ k. absurd (true≢false k)
  | m ↦ λ k. if-none (is_for start term l)
]

asks-place : (term : ℕ) (l : Letter) → (order_of l == 4) ≡ false → ask_of term l ≡ []
asks-place term l = elim l.body as (λ m. (order_of (record l { body = m }) == 4) ≡ false → ask_of term (record l { body = m }) ≡ []) [
  | msg.JoinAsk start slot ↦ λ k. absurd (true≢false k)
  | m ↦ λ k. if-none (l.term == term)
]

pub line-order : (start term : ℕ) (ls : List Letter) → line start term (in_order ls) ≡ line start term ls
line-order start term ls = order-first (line_of start term) ls (all-from (λ l. (order_of l == 1) ≡ false → line_of start term l ≡ []) ls (λ l i. line-place start term l))

pub flow-order : (start term : ℕ) (ls : List Letter) → AllByRecursion NoStreamStart ls → flow start term (in_order ls) ≡ flow start term ls
flow-order start term ls h = order-first (flow_of start term) ls
    (all-mono NoStreamStart (λ l. (order_of l == 1) ≡ false → flow_of start term l ≡ []) (λ l k. flow-place start term l k) ls h)

pub ends-order : (start term : ℕ) (ls : List Letter) → stream_ends_in start term (in_order ls) ≡ stream_ends_in start term ls
ends-order start term ls = order-last (end_of start term) ls (all-from (λ l. (order_of l == 4) ≡ false → end_of start term l ≡ []) ls (λ l i. ends-place start term l))

pub asks-order : (term : ℕ) (ls : List Letter) → asks_in term (in_order ls) ≡ asks_in term ls
asks-order term ls = order-last (ask_of term) ls (all-from (λ l. (order_of l == 4) ≡ false → ask_of term l ≡ []) ls (λ l i. asks-place term l))

-- ---- what is put to a copy

module _ (D : Deployment) (s : SiteState) (e : Entry) (slot : ℕ) (others : List ℕ) where
  pub put-line : (start term : ℕ) → is_in slot others ≡ true → start_in_view D s.view slot ≡ start → site_term s ≡ term
      → line start term (put_to D s e slot others) ≡ Puts e ∷ []
  put-line start term i a t =
      ap (line start term) (if-true (is_in slot others) (put_letter D s e slot others ∷ []) [] i) ∙ append-nil (line_of start term (put_letter D s e slot others)) ∙ for-here start term (put_letter D s e slot others) (line_in (put_letter D s e slot others).body) a t

  pub put-flow : (start term : ℕ) → flow start term (put_to D s e slot others) ≡ []
  put-flow start term = flat-none (flow_of start term) (put_to D s e slot others) (put-all D s e slot others (λ l. flow_of start term l ≡ []) (λ i. if-empty _ _ refl))

-- ---- what is passed on to a joiner

module _ (s : SiteState) (e : Entry) (slot : ℕ) where
  pub tasks-line : (start term : ℕ) (js : List Joiner) → line start term (tasks_to s e slot js) ≡ []
  tasks-line start term js = flat-none (line_of start term) (tasks_to s e slot js) (tasks-all s e slot (λ l. line_of start term l ≡ []) js (λ j i q. if-empty _ _ refl))

  -- one that is gets one, since its slot is counted once
  pub tasks-flow : (start term : ℕ) (js : List Joiner) → Distinct (map (λ j. j.slot) js) → (j : Joiner) → In j js → j.slot ≡ slot → j.start ≡ start → site_term s ≡ term
      → flow start term (tasks_to s e slot js) ≡ Follows e ∷ []
  tasks-flow start term js d j i q a t = ap (flow start term) (alone js d i) ∙ append-nil (flow_of start term (task_letter s e slot j)) ∙ for-here start term (task_letter s e slot j) (flow_in (task_letter s e slot j).past (task_letter s e slot j).body) a t
    where
      none : (ks : List Joiner) → (In j.slot (map (λ k. k.slot) ks) → ⊥) → filter (λ k. k.slot == slot) ks ≡ []
      none ks n = in-none (filter (λ k. k.slot == slot) ks) (λ k m.
          let p = in-filter (λ k. k.slot == slot) k ks m in
          n (subst (λ x. In x (map (λ k. k.slot) ks)) (eqb-true k.slot slot p.1 ∙ sym q) (in-map (λ k. k.slot) k ks p.0)))

      alone : (ks : List Joiner) → Distinct (map (λ k. k.slot) ks) → In j ks → tasks_to s e slot ks ≡ task_letter s e slot j ∷ []
      alone [] d i = absurd i
      alone (k ∷ ks) d (inl p) =
          ap (map (task_letter s e slot)) (if-true (k.slot == slot) (k ∷ filter (λ k. k.slot == slot) ks) (filter (λ k. k.slot == slot) ks) (eq-eqb k.slot slot (ap (λ x. x.slot) p ∙ q)))
          ∙ ap (λ x. task_letter s e slot k ∷ map (task_letter s e slot) x) (none ks (λ m. d.0 (subst (λ x. In x (map (λ k. k.slot) ks)) (sym (ap (λ x. x.slot) p)) m)))
          ∙ ap (λ x. task_letter s e slot x ∷ []) p
      alone (k ∷ ks) d (inr p) =
          ap (map (task_letter s e slot)) (if-false (k.slot == slot) (k ∷ filter (λ k. k.slot == slot) ks) (filter (λ k. k.slot == slot) ks)
          (false_from_ne_true (k.slot == slot) (λ m. d.0 (subst (λ x. In x (map (λ k. k.slot) ks)) (q ∙ sym (eqb-true k.slot slot m)) (in-map (λ k. k.slot) j ks p)))))
          ∙ alone ks d.1 p

-- ---- what a copy lacks

module _ (D : Deployment) (s : SiteState) (slot : ℕ) where
  pub repair-line : (start term : ℕ) (rs : List Reported) (r : Reported) → In r rs → r.slot ≡ slot → start_in_view D s.view slot ≡ start → site_term s ≡ term
      → (k : Reported) × In k rs × (k.slot ≡ slot) × (line start term (repair_to D s slot rs) ≡ Repairs k.position (drop k.position s.log) ∷ [])
  repair-line start term rs r i q a t = elim (repair-cases D s slot rs) [
    | inl c ↦ absurd (c.0 r i q)
    | inr c ↦ (
      c.0,
      c.1,
      c.2,
      ap (line start term) c.3 ∙ append-nil (line_of start term (repair_letter D s slot c.0)) ∙ for-here start term (repair_letter D s slot c.0) (line_in (repair_letter D s slot c.0).body) a t,
    )
  ]

  pub repair-line-other : (start term : ℕ) (rs : List Reported) → ((r : Reported) → In r rs → r.slot ≡ slot → start_in_view D s.view slot ≡ start → site_term s ≡ term → ⊥)
      → line start term (repair_to D s slot rs) ≡ []
  repair-line-other start term rs n =
      flat-none (line_of start term) (repair_to D s slot rs) (repair-all D s slot (λ l. line_of start term l ≡ []) rs (λ r i q. for-other start term (repair_letter D s slot r) (line_in (repair_letter D s slot r).body) (n r i q)))

  pub repair-flow : (start term : ℕ) (rs : List Reported) → flow start term (repair_to D s slot rs) ≡ []
  repair-flow start term rs = flat-none (flow_of start term) (repair_to D s slot rs) (repair-all D s slot (λ l. flow_of start term l ≡ []) rs (λ r i q. if-empty _ _ refl))

  pub repair-ends : (start term : ℕ) (rs : List Reported) → stream_ends_in start term (repair_to D s slot rs) ≡ []
  repair-ends start term rs = flat-none (end_of start term) (repair_to D s slot rs) (repair-all D s slot (λ l. end_of start term l ≡ []) rs (λ r i q. if-empty _ _ refl))

-- ---- that a stream is whole

module _ (s : SiteState) (slot : ℕ) where
  pub stream_ends-other : (start term : ℕ) → ((j : Joiner) → In j s.joiners → j.slot ≡ slot → j.start ≡ start → site_term s ≡ term → is_sent s j ≡ true → ⊥)
      → stream_ends_in start term (stream_ends_to s slot) ≡ []
  stream_ends-other start term n =
      flat-none (end_of start term) (stream_ends_to s slot) (stream_ends-all s slot (λ l. end_of start term l ≡ []) (λ j i q c. for-other start term (end_letter s slot j) (end_in (end_letter s slot j).body) (λ a t. n j i q a t c)))
