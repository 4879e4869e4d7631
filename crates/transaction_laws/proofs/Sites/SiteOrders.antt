-- Rounds and ends under way to a site: which of them it takes, and what is due to it then.
use Rattle.volt_wire.specs.declared.message.Msg.TheVariants as msg
use Rattle.word_laws.proofs.Steps as word_steps
use Rattle.transaction_laws.proofs.Names.{Actor, Agent, AllByRecursion, Arrival, Client, Director, Done, DueOk, Entry, Frag, IsSlot, Leading, Letter, List, LogState, LogsHold, None, OrderOk, Refused, Scanner, Site, SiteCalls, SiteState, Some, Taken, ToSiteOk, Transactions, Waits, WaitsPlain, [], all-mono, and-false, ap, append-nil, arith, arrival, both-empty, cases_Bool, drop, drop-append_seam, eqb-same, false, false_from_ne_true, flat-none, for-false, for-true, if-false, if-none, if-true, if◌then◌else◌, initiator, inl, inr, is_for, leadership-entered, length, nat_tests, none-and-some, not-both, order_in, order_of, orders, part, popped-here, refl, refused-for, rest, same, same-some, same-word, site_popped, site_start, subst, sym, taken-here, term_at, term_in, term_of, true, true-for, waits-for, ℕ, ◌&&◌, ◌++◌, ◌==◌, ◌∙◌, ◌∷◌, ◌≡◌, ◌≤◌, ◌⊎◌}
use Rattle.transaction_laws.proofs.Sites.SiteWalk.{taken_by}

-- ---- channels to a site that takes a message

-- from the agents that didn't send it, and to other slots
popped-agent : (S : LogState) (from : Actor) (i h : ℕ) → (from ≡ Agent h → ⊥) → (site_popped S from i).words.channel (Agent h) (Site i) ≡ S.words.channel (Agent h) (Site i)
popped-agent S from i h n =
    let e = false_from_ne_true (same from (Agent h)) (λ q. n (word_steps.same-true from (Agent h) q)) in
    if-false (i == i && same from (Agent h)) (rest (S.words.channel (Agent h) (Site i))) (S.words.channel (Agent h) (Site i)) (ap (λ b. i == i && b) e ∙ and-false (i == i))

pub popped-there : (S : LogState) (from a : Actor) (i c : ℕ) → (c ≡ i → ⊥) → (site_popped S from i).words.channel a (Site c) ≡ S.words.channel a (Site c)
popped-there S from a i c n = let e : (i == c) ≡ false = grind (arith, nat_tests, n) in rw e refl

-- ---- rounds and ends

-- A message is one, or none.
order-one : (S : LogState) (h c : ℕ) (l : Letter) → ToSiteOk S h c l → (order_in l.body ≡ []) ⊎ (OrderOk S h c l × ((e : Entry) × (order_in l.body ≡ e ∷ [])))
order-one S h c l k = elim l.body as (λ m. ToSiteOk S h c (record l { body = m }) → (order_in m ≡ []) ⊎ (OrderOk S h c (record l { body = m }) × ((e : Entry) × (order_in m ≡ e ∷ [])))) [
  | msg.Frag m round body ↦ λ k. inr (k, (Frag m round body, refl))
  | msg.Done m o ↦ λ k. inr (k, (Done m o, refl))
  | m ↦ λ k. inl refl
] k

-- what is none says nothing to any start
none-ordered : (start term : ℕ) (l : Letter) → order_in l.body ≡ [] → order_of start term l ≡ []
none-ordered start term l e = ap (λ xs. if is_for start term l then xs else []) e ∙ if-none (is_for start term l)

other-ordered : (start term : ℕ) (l : Letter) → (l.start ≡ start → l.term ≡ term → ⊥) → order_of start term l ≡ []
other-ordered start term l n = if-false (is_for start term l) (order_in l.body) [] (for-false start term l n)

own-ordered : (start term : ℕ) (l : Letter) → l.start ≡ start → l.term ≡ term → order_of start term l ≡ order_in l.body
own-ordered start term l s t = if-true (is_for start term l) (order_in l.body) [] (for-true start term l s t)

-- In a term that isn't led none is under way.
pub none-under-way : (S : LogState) (h c start term : ℕ) → S.logs.leadership (part S c) term ≡ None → (ls : List Letter) → AllByRecursion (ToSiteOk S h c) ls → orders start term ls ≡ []
none-under-way S h c start term none ls all = flat-none (order_of start term) ls (all-mono (ToSiteOk S h c) (λ l. order_of start term l ≡ []) each ls all)
  where
    each : (l : Letter) → ToSiteOk S h c l → order_of start term l ≡ []
    each l k = elim (order-one S h c l k) [
      | inl e ↦ none-ordered start term l e
      | inr (o, _) ↦ other-ordered start term l (λ _ t. none-and-some none (ap (S.logs.leadership (part S c)) (sym t) ∙ o.led))
    ]

-- of the head of a channel from an agent
pub head-ok : (S : LogState) (i : ℕ) → ((h : ℕ) → AllByRecursion (ToSiteOk S h i) (S.words.channel (Agent h) (Site i))) → (from : Actor) (l : Letter) (ls : List Letter)
    → S.words.channel from (Site i) ≡ l ∷ ls → (h : ℕ) → from ≡ Agent h → ToSiteOk S h i l
head-ok S i ok from l ls is h e = (subst (AllByRecursion (ToSiteOk S h i)) (ap (λ a. S.words.channel a (Site i)) (sym e) ∙ is) (ok h)).0

module _ (S : LogState) (H : LogsHold S) (i : ℕ) (slot : IsSlot S i) where
  abbrev s : SiteState
  s = S.sites i

  -- The receiver has been in the term of one that is for it.
  order-below : (h : ℕ) (l : Letter) → OrderOk S h i l → l.start ≡ site_start S i → l.term ≤ term_at S i
  order-below h l k own =
      let e = leadership-entered S H (part S i) l.term k.leadership k.led k.word k.is_word i l.start slot refl k.start_is in
      ((H.entered i l.term e.0 e.1).running (sym own ∙ sym e.2)).1

  -- So it takes it, or drops it.
  order-waits : (h : ℕ) (l : Letter) → OrderOk S h i l → arrival (site_start S i) (term_at S i) l ≡ Waits → ⊥
  order-waits h l k e =
      let w = waits-for (site_start S i) (term_at S i) l e in
      elim w.0 [
        | inl z ↦ let a = k.addressed.0 in absurd (omega (arith, a, z))
        | inr q ↦ let a = order-below h l k q in let b = w.1 in absurd (omega (arith, a, b))
      ]

  pub order-waits-none : (from : Actor) (l : Letter) → ((h : ℕ) → from ≡ Agent h → ToSiteOk S h i l) → arrival (site_start S i) (term_at S i) l ≡ Waits → WaitsPlain from l
  order-waits-none (Agent h) l ok e = (elim l.body as (λ m. ToSiteOk S h i (record l { body = m }) → arrival (site_start S i) (term_at S i) (record l { body = m }) ≡ Waits → WaitsPlain (Agent h) (record l { body = m })) [
    | msg.Frag m round body ↦ λ k e. order-waits h (record l { body = msg.Frag m round body }) k e
    | msg.Done m o ↦ λ k e. order-waits h (record l { body = msg.Done m o }) k e
    | m ↦ λ k e. tt
  ]) (ok h refl) e
  order-waits-none (Site k) l ok e = tt
  order-waits-none Director l ok e = tt
  order-waits-none (Client n) l ok e = tt
  order-waits-none (Scanner x) l ok e = tt

  -- What it takes is what is for its start and term.
  order-taken : (h : ℕ) (l : Letter) → ToSiteOk S h i l → order_of (site_start S i) (term_at S i) l ≡ taken_by s (Agent h) l
  order-taken h l k = elim (order-one S h i l k) [
    | inl e ↦ none-ordered (site_start S i) (term_at S i) l e ∙ sym (none-taken e (arrival (site_start S i) (term_at S i) l))
    | inr (o, _) ↦ either o (arrival (site_start S i) (term_at S i) l) refl
  ]
    where
      at : Arrival → List Entry
      at a = elim a as (λ _. List Entry) [ Taken ↦ order_in l.body | Refused ↦ [] | Waits ↦ [] ]

      none-taken : order_in l.body ≡ [] → (a : Arrival) → at a ≡ []
      none-taken e Taken = e
      none-taken e a = refl

      either : OrderOk S h i l → (a : Arrival) → arrival (site_start S i) (term_at S i) l ≡ a → order_of (site_start S i) (term_at S i) l ≡ at a
      either o Taken e = let q = taken-here (site_start S i) (term_at S i) l e o.addressed.0 o.addressed.1 in own-ordered (site_start S i) (term_at S i) l q.0 q.1
      either o Refused e = other-ordered (site_start S i) (term_at S i) l (λ a b. elim (refused-for (site_start S i) (term_at S i) l e) [
        | inl n ↦ n a
        | inr low ↦ let x = low.1 in absurd (omega (arith, x, b))
      ])
      either o Waits e = absurd (order-waits h l o e)

-- from others than agents it takes none
takes-nothing : (a : Arrival) → elim a as (λ _. List Entry) [ Taken ↦ [] | Refused ↦ [] | Waits ↦ [] ] ≡ []
takes-nothing Taken = refl
takes-nothing Refused = refl
takes-nothing Waits = refl

-- ---- what is due to a leader

-- one at most, of which the first part is there
due-first : (S : LogState) (K : Transactions) (p t : ℕ) → DueOk S K p t → (xs ys : List Entry) → xs ++ ys ≡ K.due p t → (xs ≡ []) ⊎ (K.due p t ≡ xs)
due-first S K p t ok [] ys e = inl refl
due-first S K p t (inl none) (x ∷ xs) ys e = let q = e ∙ none in absurd (cc)
due-first S K p t (inr (d, g, is, _, _, _)) (x ∷ xs) ys e =
    let q : x ∷ (xs ++ ys) ≡ d ∷ [] = e ∙ is in
    let none : xs ++ ys ≡ [] = cc in
    inr (sym e ∙ ap (λ zs. (x ∷ xs) ++ zs) (both-empty xs ys none).1 ∙ append-nil (x ∷ xs))

module _ (S : LogState) (H : LogsHold S) (K : Transactions) (due : (p t : ℕ) → DueOk S K p t) (i : ℕ) (slot : IsSlot S i)
    (ok : (h : ℕ) → AllByRecursion (ToSiteOk S h i) (S.words.channel (Agent h) (Site i))) (calls : SiteCalls S K i) (k : Leading S i) where
  term-is : term_at S i ≡ term_of k.word
  term-is = ap term_in k.view

  -- what is due to it is under way from the initiator of its word
  pub own-orders : (h a : ℕ) → initiator k.word ≡ Some (h, a) → orders (site_start S i) (term_at S i) (S.words.channel (Agent h) (Site i)) ≡ K.due (part S i) (term_at S i)
  own-orders h a e = subst (λ t. orders (site_start S i) t (S.words.channel (Agent h) (Site i)) ≡ K.due (part S i) t) (sym term-is) (calls.orders k.word k.joins k.view k.first h a e)

  -- and from no other agent
  own-initiator : (h : ℕ) (l : Letter) (o : OrderOk S h i l) → l.term ≡ term_at S i → initiator k.word ≡ Some (h, o.by)
  own-initiator h l o e =
      let same : o.word ≡ k.word = same-word S H l.term o.word k.word o.is_word (record { decided = k.member.decided; term_is = sym term-is ∙ sym e }) in
      ap initiator (sym same) ∙ o.initiates

  module _ (from : Actor) (l : Letter) (ls : List Letter) (is : S.words.channel from (Site i) ≡ l ∷ ls) where
    abbrev from-agent : (h : ℕ) → from ≡ Agent h → ToSiteOk S h i l
    from-agent = head-ok S i ok from l ls is

    -- It takes none, or one from the initiator.
    abbrev Taking : Actor → Type 0
    Taking a = (taken_by (S.sites i) a l ≡ []) ⊎ ((h : ℕ) × (b : ℕ) × (a ≡ Agent h) × (initiator k.word ≡ Some (h, b)))

    taking : (a : Actor) → ((h : ℕ) → a ≡ Agent h → ToSiteOk S h i l) → Taking a
    taking (Agent h) okl = let take = order-taken S H i slot h l (okl h refl) in elim (order-one S h i l (okl h refl)) [
      | inl e ↦ inl (sym take ∙ none-ordered (site_start S i) (term_at S i) l e)
      | inr (o, _) ↦ elim (cases_Bool (is_for (site_start S i) (term_at S i) l)) [
        | inl y ↦ inr (h, o.by, refl, own-initiator h l o (true-for (site_start S i) (term_at S i) l y).1)
        | inr n ↦ inl (sym take ∙ if-false (is_for (site_start S i) (term_at S i) l) (order_in l.body) [] n)
      ]
    ]
    taking from okl = inl (takes-nothing (arrival (site_start S i) (term_at S i) l))

    -- of a channel from the initiator: what it takes, and what is under way behind that
    module _ (h a : ℕ) (init : initiator k.word ≡ Some (h, a)) (e : from ≡ Agent h) where
      take-first : order_of (site_start S i) (term_at S i) l ≡ taken_by (S.sites i) from l
      take-first = order-taken S H i slot h l (from-agent h e) ∙ ap (λ b. taken_by (S.sites i) b l) (sym e)

      from-is : S.words.channel (Agent h) (Site i) ≡ l ∷ ls
      from-is = ap (λ b. S.words.channel b (Site i)) (sym e) ∙ is

      parts : taken_by (S.sites i) from l ++ orders (site_start S i) (term_at S i) ls ≡ K.due (part S i) (term_at S i)
      parts = ap (λ xs. xs ++ orders (site_start S i) (term_at S i) ls) (sym take-first) ∙ ap (orders (site_start S i) (term_at S i)) (sym from-is) ∙ own-orders h a init

      left : (site_popped S from i).words.channel (Agent h) (Site i) ≡ ls
      left = ap (λ b. (site_popped S from i).words.channel b (Site i)) (sym e) ∙ popped-here S from i ∙ ap rest is

    -- What it takes was due.
    pub taken-due : (taken_by (S.sites i) from l ≡ []) ⊎ (K.due (part S i) (term_at S i) ≡ taken_by (S.sites i) from l)
    taken-due = elim (taking from from-agent) [
      | inl none ↦ inl none
      | inr (h, b, e, init) ↦ due-first S K (part S i) (term_at S i) (due (part S i) (term_at S i)) (taken_by (S.sites i) from l) (orders (site_start S i) (term_at S i) ls) (parts h b init e)
    ]

    -- The rest of what is due is under way.
    pub left-orders : (h a : ℕ) → initiator k.word ≡ Some (h, a)
        → orders (site_start S i) (term_at S i) ((site_popped S from i).words.channel (Agent h) (Site i)) ≡ drop (length (taken_by (S.sites i) from l)) (K.due (part S i) (term_at S i))
    left-orders h a init = elim (cases_Bool (same from (Agent h))) [
      | inl y ↦ let e = word_steps.same-true from (Agent h) y in
          ap (orders (site_start S i) (term_at S i)) (left h a init e)
          ∙ sym (drop-append_seam (taken_by (S.sites i) from l) (orders (site_start S i) (term_at S i) ls))
          ∙ ap (drop (length (taken_by (S.sites i) from l))) (parts h a init e)
      | inr n ↦ ap (orders (site_start S i) (term_at S i)) (popped-agent S from i h (λ e. apart n e)) ∙ own-orders h a init
          ∙ ap (λ xs. drop (length xs) (K.due (part S i) (term_at S i))) (sym (nothing (λ e. apart n e) (taking from from-agent)))
    ]
      where
        apart : same from (Agent h) ≡ false → from ≡ Agent h → ⊥
        apart n e = not-both (same from (Agent h)) (subst (λ b. same b (Agent h) ≡ true) (sym e) (eqb-same h)) n

        -- from others it takes nothing
        nothing : (from ≡ Agent h → ⊥) → Taking from → taken_by (S.sites i) from l ≡ []
        nothing n (inl e) = e
        nothing n (inr (g, b, e, other)) = let q = ap (λ x. x.0) (same-some (sym other ∙ init)) in absurd (n (e ∙ ap Agent q))
