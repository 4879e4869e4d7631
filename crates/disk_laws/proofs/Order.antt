-- How good contents are, what the parts of an event leave of them, and what a recovery chooses.
use Rattle.disk_laws.proofs.Names.{one-and-others, cond_both, ◌≡◌, ◌<◌, ◌≤◌, Bool, true, false, List, [], ◌∷◌, ◌++◌, length, take, drop, take-append-drop, refl, sym, subst, ap, ◌∙◌, ◌⊎◌, inl, inr, ◌==◌, arith, or_parts, cases_eq, cases_lt, or_cases, and_parts, nat_tests, ℕ, ◌&&◌, nat_lt, if◌then◌else◌, map, unwrap_or, Option, Some, None, AllByRecursion, Done, Outcome, Dropped, slots_of_part, Database, Deployment, part_of_slot, all_parts, open_in, Content, Shown, after_parts, after_failure, is_better, better, best_of, shown_of_part, chosen, mark_of, greatest_mark, greatest_open, resolved, closed, recovered, In, Prefix, in-left, in-right, in-cases, in-map, in-map-from, all-at, all-from, all-mono, LogState, IsSlot, part, part-slots, slots-part, prefix-refl, AtLeast, Top, shown_at}

-- ---- one content and another

-- What is no worse than a content that is good enough is good enough.
pub at_least-trans : (x : Content) (y : Shown) (m n : ℕ) → AtLeast m n (Some x) → AtLeast x.mark (length x.log) y → AtLeast m n y
at_least-trans x None m n h k = k
at_least-trans x (Some y) m n (inl a) (inl b) = inl (omega (arith, a, b))
at_least-trans x (Some y) m n (inl a) (inr b) = inl (omega (arith, a, b.0))
at_least-trans x (Some y) m n (inr a) (inl b) = inl (omega (arith, a.0, b))
at_least-trans x (Some y) m n (inr a) (inr b) = inr (b.0 ∙ a.0, omega (arith, a.1, b.1))

-- a content of a higher mark is as good as any of a lower one
pub at_least-better : (t v n : ℕ) (x : Shown) → AtLeast t 0 x → v < t → AtLeast v n x
at_least-better t v n None h l = h
at_least-better t v n (Some x) (inl a) l = inl (omega (arith, a, l))
at_least-better t v n (Some x) (inr a) l = inl (omega (arith, a.0, l))

-- it has that mark or a later one
pub at_least-mark : (m n : ℕ) (x : Shown) → AtLeast m n x → m ≤ mark_of x
at_least-mark m n None h = absurd h
at_least-mark m n (Some x) (inl a) = omega (arith, a)
at_least-mark m n (Some x) (inr a) = omega (arith, a.0)

-- ---- the parts of an event

pub in-take : {A : Type 0} (n : ℕ) (x : A) (xs : List A) → In x (take n xs) → In x xs
in-take n x xs i = subst (In x) (take-append-drop n xs) (in-left x (take n xs) (drop n xs) i)

-- What is shown after them was shown before, or one of them left it.
pub in-after_parts : (before parts : List Shown) (y : Shown) → In y (after_parts before parts) → In y before ⊎ In y parts
in-after_parts before [] y i = inl i
in-after_parts before (c ∷ cs) y i = elim (in-after_parts (c ∷ []) cs y i) [ inl (inl e) ↦ inr (inl e) | inl (inr n) ↦ absurd n | inr k ↦ inr (inr k) ]

pub in-after_failure : (before parts : List Shown) (n : ℕ) (y : Shown) → In y (after_failure before parts n) → In y before ⊎ In y parts
in-after_failure before parts n y i = elim (in-cases y (after_parts before (take n parts)) (take 1 (drop n parts)) i) [
  | inl k ↦ elim (in-after_parts before (take n parts) y k) [ inl b ↦ inl b | inr p ↦ inr (in-take n y parts p) ]
  | inr k ↦ inr (subst (In y) (take-append-drop n parts) (in-right y (take n parts) (drop n parts) (in-take 1 y (drop n parts) k)))
]

-- all that answered leave what the last of them leaves
pub after_parts-last : (before parts : List Shown) (y : Shown) → after_parts before (parts ++ y ∷ []) ≡ y ∷ []
after_parts-last before [] y = refl
after_parts-last before (c ∷ cs) y = after_parts-last (c ∷ []) cs y

-- a disk goes on to show something
pub some-after_parts : (before parts : List Shown) → (before ≡ [] → ⊥) → after_parts before parts ≡ [] → ⊥
some-after_parts before [] some e = some e
some-after_parts before (c ∷ cs) some e = some-after_parts (c ∷ []) cs (λ q. absurd (cc)) e

pub some-after_failure : (before parts : List Shown) (n : ℕ) → (before ≡ [] → ⊥) → after_failure before parts n ≡ [] → ⊥
some-after_failure before parts n some e =
    some-after_parts before (take n parts) some (first-none (after_parts before (take n parts)) (take 1 (drop n parts)) e)
  where
    first-none : (xs ys : List Shown) → xs ++ ys ≡ [] → xs ≡ []
    first-none [] ys q = refl
    first-none (x ∷ xs) ys q = absurd (cc)

-- what holds of all that was shown before, and of all that the parts leave
module _ (P : Shown → Type 0) (before parts : List Shown) (h : AllByRecursion P before) (k : AllByRecursion P parts) where
  either : (y : Shown) → In y before ⊎ In y parts → P y
  either y (inl i) = all-at P before h y i
  either y (inr i) = all-at P parts k y i

  pub all-after_parts : AllByRecursion P (after_parts before parts)
  all-after_parts = all-from P (after_parts before parts) (λ y i. either y (in-after_parts before parts y i))

  pub all-after_failure : (n : ℕ) → AllByRecursion P (after_failure before parts n)
  all-after_failure n = all-from P (after_failure before parts n) (λ y i. either y (in-after_failure before parts n y i))

pub all-take : {A : Type 0} (P : A → Type 0) (n : ℕ) (xs : List A) → AllByRecursion P xs → AllByRecursion P (take n xs)
all-take P n xs h = all-from P (take n xs) (λ x i. all-at P xs h x (in-take n x xs i))

-- ---- contents that are raised

-- Each of the later contents is no worse than some of the earlier ones.
abbrev pub Raise : List Shown → List Shown → Type 0
Raise xs ys = (y : Shown) → In y ys → (x : Shown) × In x xs × ((m n : ℕ) → AtLeast m n x → AtLeast m n y)

pub raise-refl : (xs : List Shown) → Raise xs xs
raise-refl xs y i = (y, i, λ m n h. h)

pub raise-same : (xs ys : List Shown) → ys ≡ xs → Raise xs ys
raise-same xs ys e = subst (Raise xs) (sym e) (raise-refl xs)

-- from one content to some that are no worse
pub raise-one : (x : Content) (ys : List Shown) → AllByRecursion (AtLeast x.mark (length x.log)) ys → Raise (Some x ∷ []) ys
raise-one x ys h y i = (Some x, inl refl, λ m n k. at_least-trans x y m n k (all-at (AtLeast x.mark (length x.log)) ys h y i))

-- if all parts raise what was shown, so does what is left
module _ (before parts : List Shown) (f : Raise before parts) where
  raised : (y : Shown) → In y before ⊎ In y parts → (x : Shown) × In x before × ((m n : ℕ) → AtLeast m n x → AtLeast m n y)
  raised y (inl i) = raise-refl before y i
  raised y (inr i) = f y i

  pub raise-after_parts : Raise before (after_parts before parts)
  raise-after_parts y i = raised y (in-after_parts before parts y i)

  pub raise-after_failure : (n : ℕ) → Raise before (after_failure before parts n)
  raise-after_failure n y i = raised y (in-after_failure before parts n y i)

  pub raise-take : (n : ℕ) → Raise before (take n parts)
  raise-take n y i = f y (in-take n y parts i)

-- ---- the best that a partition's disks show

module _ (S T : LogState) (same : T.words.deployment ≡ S.words.deployment) where
  -- on the same slot
  top-on : (p m n : ℕ) (t : Top S p m n) → AllByRecursion (AtLeast m n) (shown_at T t.slot) → Top T p m n
  top-on p m n t h = record { slot = t.slot; is_slot = rw same t.is_slot; part_is = rw same t.part_is; all = h }

  -- where each slot's contents are raised
  pub top-later : ((c : ℕ) → IsSlot S c → Raise (shown_at S c) (shown_at T c)) → (p m n : ℕ) → Top S p m n → Top T p m n
  top-later f p m n t = top-on p m n t
      (all-from (AtLeast m n) (shown_at T t.slot) (λ y i. let r = f t.slot t.is_slot y i in r.2 m n (all-at (AtLeast m n) (shown_at S t.slot) t.all r.0 r.1)))

  -- where those of one slot are, and the others stay
  pub top-raise : (i : ℕ) → Raise (shown_at S i) (shown_at T i) → ((c : ℕ) → (c ≡ i → ⊥) → shown_at T c ≡ shown_at S c)
      → (p m n : ℕ) → Top S p m n → Top T p m n
  top-raise i f others = top-later (one-and-others _ i (λ _. f) (λ c d _. raise-same (shown_at S c) (shown_at T c) (others c d)))

  -- One slot's contents change, whose marks were all below that of some other slot of its partition.
  pub top-wipe : (i t : ℕ) → ((c : ℕ) → (c ≡ i → ⊥) → shown_at T c ≡ shown_at S c) → (shown_at S i ≡ [] → ⊥)
      → AllByRecursion (λ x. mark_of x < t) (shown_at S i) → Top S (part S i) t 0 → (p m n : ℕ) → Top S p m n → Top T p m n
  top-wipe i t others some marks high p m n h = elim (cases_eq h.slot i) [
    | inr d ↦ top-on p m n h (rw (others h.slot d) h.all)
    | inl e ↦ elim (cases_eq high.slot i) [
      | inl q ↦ absurd (unlike (shown_at S i) some marks (rw q at high.all))
      | inr d ↦
          let low : m < t = below (shown_at S i) some marks (rw e at h.all) in
          record {
            slot = high.slot;
            is_slot = rw same high.is_slot;
            part_is = rw same (high.part_is ∙ ap (part S) (sym e) ∙ h.part_is);
            all = rw (others high.slot d) (all-mono (AtLeast t 0) (AtLeast m n) (λ x k. at_least-better t m n x k low) (shown_at S high.slot) high.all);
          }
    ]
  ]
    where
      unlike : (xs : List Shown) → (xs ≡ [] → ⊥) → AllByRecursion (λ x. mark_of x < t) xs → AllByRecursion (AtLeast t 0) xs → ⊥
      unlike [] f g k = f refl
      unlike (x ∷ xs) f g k = let l = at_least-mark t 0 x k.0 in omega (arith, l, g.0)

      below : (xs : List Shown) → (xs ≡ [] → ⊥) → AllByRecursion (λ x. mark_of x < t) xs → AllByRecursion (AtLeast m n) xs → m < t
      below [] f g k = absurd (f refl)
      below (x ∷ xs) f g k = let l = at_least-mark m n x k.0 in omega (arith, l, g.0)

-- ---- the choice of a recovery

-- the better of two is one of them
better-is : (a b : Shown) → (better a b ≡ a) ⊎ (better a b ≡ b)
better-is None b = inr refl
better-is (Some a) None = inl refl
better-is (Some a) (Some b) = choice (is_better b a)
  where
    choice : (t : Bool) → ((if t then Some b else Some a) ≡ Some a) ⊎ ((if t then Some b else Some a) ≡ Some b)
    choice true = inr refl
    choice false = inl refl

-- by the test
is-better : (a b : Content) → is_better b a ≡ true → AtLeast a.mark (length a.log) (Some b)
is-better a b e = elim (or_cases (nat_lt a.mark b.mark) (b.mark == a.mark && nat_lt (length a.log) (length b.log)) e) [
  | inl l ↦ inl (grind (arith, nat_tests, l))
  | inr k ↦
      let p = and_parts (b.mark == a.mark) (nat_lt (length a.log) (length b.log)) k in
      inr (grind (arith, nat_tests, p.0), grind (arith, nat_tests, p.1))
]

not-better : (a b : Content) → is_better b a ≡ false → AtLeast b.mark (length b.log) (Some a)
not-better a b e = elim (cases_lt b.mark a.mark) [
  | inl l ↦ inl l
  | inr l ↦
      let k = or_parts (nat_lt a.mark b.mark) (b.mark == a.mark && nat_lt (length a.log) (length b.log)) e in
      let q : a.mark ≡ b.mark = grind (arith, nat_tests, l, k.0) in
      inr (q, within q k.1)
]
  where
    within : a.mark ≡ b.mark → (b.mark == a.mark && nat_lt (length a.log) (length b.log)) ≡ false → length b.log ≤ length a.log
    within q f = elim (cases_lt (length a.log) (length b.log)) [ inr l ↦ l | inl l ↦ absurd (grind (arith, nat_tests, l, q, f)) ]

-- the better of two is no worse than either
better-left : (a b : Shown) (m n : ℕ) → AtLeast m n a → AtLeast m n (better a b)
better-left None b m n h = absurd h
better-left (Some a) None m n h = h
better-left (Some a) (Some b) m n h = cond_both (is_better b a) _ _ (AtLeast m n) (λ e. at_least-trans a (Some b) m n h (is-better a b e)) (λ e. h)

better-right : (a b : Shown) (m n : ℕ) → AtLeast m n b → AtLeast m n (better a b)
better-right None b m n h = h
better-right (Some a) None m n h = absurd h
better-right (Some a) (Some b) m n h = cond_both (is_better b a) _ _ (AtLeast m n) (λ e. h) (λ e. at_least-trans b (Some a) m n h (not-better a b e))

-- The best is one of them, and no worse than any.
pub best-in : (xs : List Shown) (y : Content) → best_of xs ≡ Some y → In (Some y) xs
best-in [] y e = absurd (cc)
best-in (c ∷ cs) y e = elim (better-is c (best_of cs)) [ inl k ↦ inl (sym k ∙ e) | inr k ↦ inr (best-in cs y (sym k ∙ e)) ]

pub best-at_least : (xs : List Shown) (x : Shown) (m n : ℕ) → In x xs → AtLeast m n x → AtLeast m n (best_of xs)
best-at_least [] x m n i h = absurd i
best-at_least (c ∷ cs) x m n (inl e) h = better-left c (best_of cs) m n (subst (AtLeast m n) (sym e) h)
best-at_least (c ∷ cs) x m n (inr i) h = better-right c (best_of cs) m n (best-at_least cs x m n i h)

-- each mark is at most the greatest one
pub greatest_mark-above : (xs : List Shown) (x : Shown) → In x xs → mark_of x ≤ greatest_mark xs
greatest_mark-above [] x i = absurd i
greatest_mark-above (c ∷ cs) x (inl e) = omega (arith, ap mark_of e)
greatest_mark-above (c ∷ cs) x (inr i) = omega (arith, greatest_mark-above cs x i)

-- ---- the slots of a partition

module _ (D : Deployment) (shown : ℕ → Shown) where
  pub shown-in : (c p : ℕ) → part_of_slot D c ≡ p → In (shown c) (shown_of_part D shown p)
  shown-in c p e = in-map shown c (slots_of_part D.layout.k p) (subst (λ q. In c (slots_of_part D.layout.k q)) e (part-slots D.layout.k c))

  pub shown-from : (p : ℕ) (x : Shown) → In x (shown_of_part D shown p) → (c : ℕ) × (part_of_slot D c ≡ p) × (shown c ≡ x)
  shown-from p x i = let r = in-map-from shown x (slots_of_part D.layout.k p) i in (r.0, slots-part D.layout.k p r.0 r.1, r.2)

  -- What is chosen for a partition: the log of a disk that shows nothing less than this.
  pub record Chosen (p m n : ℕ) : Type 0 where
    pub slot : ℕ
    pub part_is : part_of_slot D slot ≡ p
    pub content : Content
    pub shows : shown slot ≡ Some content
    pub log_is : chosen D shown p ≡ content.log
    pub good : AtLeast m n (Some content)

  -- where one of its disks does
  pub best-chosen : (c p m n : ℕ) → part_of_slot D c ≡ p → AtLeast m n (shown c) → Chosen p m n
  best-chosen c p m n e h = from (best_of (shown_of_part D shown p)) refl (best-at_least (shown_of_part D shown p) (shown c) m n (shown-in c p e) h)
    where
      from : (b : Shown) → best_of (shown_of_part D shown p) ≡ b → AtLeast m n b → Chosen p m n
      from None q k = absurd k
      from (Some x) q k =
          let r = shown-from p (Some x) (best-in (shown_of_part D shown p) x q) in
          record { slot = r.0; part_is = r.1; content = x; shows = r.2; log_is = rw q refl; good = k }

-- so it is where each disk shows what it may
pub top-chosen : (S : LogState) (shown : ℕ → Shown) → ((c : ℕ) → IsSlot S c → In (shown c) (shown_at S c))
    → (p m n : ℕ) → Top S p m n → Chosen S.words.deployment shown p m n
top-chosen S shown f p m n t =
    best-chosen S.words.deployment shown t.slot p m n t.part_is (all-at (AtLeast m n) (shown_at S t.slot) t.all (shown t.slot) (f t.slot t.is_slot))

-- A recovery goes on with the log that was chosen, and at most an entry more.
pub chosen-recovered : (E : Database) (D : Deployment) (shown : ℕ → Shown) (p : ℕ) → Prefix (chosen D shown p) (recovered E D shown p)
chosen-recovered E D shown p =
    prefix-closed (open_in (chosen D shown p)) (greatest_open (map (chosen D shown) (all_parts D)))
    (resolved E D (chosen D shown) (unwrap_or (greatest_open (map (chosen D shown) (all_parts D))) 0))
  where
    prefix-closed : (o greatest : Option ℕ) (a : Outcome) → Prefix (chosen D shown p) (closed (chosen D shown p) o greatest a)
    prefix-closed None greatest a = prefix-refl (chosen D shown p)
    prefix-closed (Some m) greatest a = (Done m (if m == unwrap_or greatest 0 then a else Dropped) ∷ [], refl)
