-- What the proofs need of lists, options, choices and functions that were changed at one place.
use Rattle.cluster_steps.proofs.Names.{◌≡◌, ◌<◌, ◌≤◌, Bool, true, false, List, [], ◌∷◌, ◌++◌, refl, sym, subst, ap, ◌∙◌, ◌⊎◌, inl, inr, ◌==◌, true≢false, arith, cond_both, or_cases, and_parts, and_from, or_left, or_right, eq-eqb, eqb-true, fun_ext, nat_tests, ℕ, ◌&&◌, ◌||◌, filter, map, if◌then◌else◌, Option, Some, None, is_none, AllByRecursion, list_any, list_all, rest, set_at, RiseFrom, In, OnSome, ◌+◌}

-- ---- choices

pub not-both : (b : Bool) → b ≡ true → b ≡ false → ⊥
not-both true p q = absurd (cc)
not-both false p q = absurd (cc)

pub if-true : {A : Type 0} (c : Bool) (x y : A) → c ≡ true → (if c then x else y) ≡ x
if-true true x y e = refl
if-true false x y e = absurd (cc)

pub if-false : {A : Type 0} (c : Bool) (x y : A) → c ≡ false → (if c then x else y) ≡ y
if-false false x y e = refl
if-false true x y e = absurd (cc)

pub and-false : (c : Bool) → (c && false) ≡ false
and-false true = refl
and-false false = refl

pub or-false : (c : Bool) → (c || false) ≡ c
or-false true = refl
or-false false = refl

pub eqb-same : (n : ℕ) → (n == n) ≡ true
eqb-same n = eq-eqb n n refl

-- ---- options

pub same-some : {A : Type 0} {x y : A} → Some x ≡ Some y → x ≡ y
same-some e = cc

pub is_none-none : {A : Type 0} (o : Option A) → is_none o ≡ true → o ≡ None
is_none-none None e = refl
is_none-none (Some x) e = absurd (cc)

pub none-and-some : {A : Type 0} {o : Option A} {x : A} → o ≡ None → o ≡ Some x → ⊥
none-and-some p q = let r = sym p ∙ q in absurd (cc)

-- it holds of the value that is there
pub some-here : {A : Type 0} (P : A → Type 0) (o : Option A) (x : A) → o ≡ Some x → OnSome P o → P x
some-here P o x e h = subst (λ y. OnSome P y) e h

pub some-mono : {A : Type 0} (P Q : A → Type 0) → ((x : A) → P x → Q x) → (o : Option A) → OnSome P o → OnSome Q o
some-mono P Q f None h = tt
some-mono P Q f (Some x) h = f x h

-- ---- what is in a list

pub in-left : {A : Type 0} (x : A) (xs ys : List A) → In x xs → In x (xs ++ ys)
in-left x [] ys i = absurd i
in-left x (y ∷ xs) ys (inl e) = inl e
in-left x (y ∷ xs) ys (inr i) = inr (in-left x xs ys i)

pub in-right : {A : Type 0} (x : A) (xs ys : List A) → In x ys → In x (xs ++ ys)
in-right x [] ys i = i
in-right x (y ∷ xs) ys i = inr (in-right x xs ys i)

pub in-cases : {A : Type 0} (x : A) (xs ys : List A) → In x (xs ++ ys) → In x xs ⊎ In x ys
in-cases x [] ys i = inr i
in-cases x (y ∷ xs) ys (inl e) = inl (inl e)
in-cases x (y ∷ xs) ys (inr i) = elim (in-cases x xs ys i) [ inl k ↦ inl (inr k) | inr k ↦ inr k ]

pub in-map : {A B : Type 0} (f : A → B) (x : A) (xs : List A) → In x xs → In (f x) (map f xs)
in-map f x [] i = absurd i
in-map f x (y ∷ xs) (inl e) = inl (ap f e)
in-map f x (y ∷ xs) (inr i) = inr (in-map f x xs i)

-- what is in the image comes from something in the list
pub in-map-from : {A B : Type 0} (f : A → B) (y : B) (xs : List A) → In y (map f xs) → (x : A) × In x xs × (f x ≡ y)
in-map-from f y [] i = absurd i
in-map-from f y (x ∷ xs) (inl e) = (x, inl refl, e)
in-map-from f y (x ∷ xs) (inr i) = let r = in-map-from f y xs i in (r.0, inr r.1, r.2)

pub in-filter : {A : Type 0} (p : A → Bool) (x : A) (xs : List A) → In x (filter p xs) → In x xs × (p x ≡ true)
in-filter p x [] i = absurd i
in-filter p x (y ∷ ys) i = cond_both (p y) (y ∷ filter p ys) (filter p ys) (λ l. In x l → In x (y ∷ ys) × (p x ≡ true))
    (λ e j. elim j [ inl k ↦ (inl k, ap p (sym k) ∙ e) | inr k ↦ let r = in-filter p x ys k in (inr r.0, r.1) ])
    (λ _ k. let r = in-filter p x ys k in (inr r.0, r.1)) i

pub filter-in : {A : Type 0} (p : A → Bool) (x : A) (xs : List A) → In x xs → p x ≡ true → In x (filter p xs)
filter-in p x [] i e = absurd i
filter-in p x (y ∷ ys) i e = cond_both (p y) (y ∷ filter p ys) (filter p ys) (λ l. In x l)
    (λ _. elim i [ inl k ↦ inl k | inr k ↦ inr (filter-in p x ys k e) ])
    (λ n. elim i [ inl k ↦ absurd (true≢false (sym e ∙ ap p (sym k) ∙ n)) | inr k ↦ filter-in p x ys k e ])

pub in-none : {A : Type 0} (xs : List A) → ((x : A) → In x xs → ⊥) → xs ≡ []
in-none [] f = refl
in-none (x ∷ xs) f = absurd (f x (inl refl))

-- ---- lists of one or none

pub in-one : {A : Type 0} (c : Bool) (x : A) → c ≡ true → In x (if c then x ∷ [] else [])
in-one true x e = inl refl
in-one false x e = absurd (cc)

pub only-one : {A : Type 0} (c : Bool) (x v : A) → In v (if c then x ∷ [] else []) → (c ≡ true) × (x ≡ v)
only-one true x v (inl e) = (refl, e)
only-one true x v (inr i) = absurd i
only-one false x v i = absurd i

pub all-one : {A : Type 0} (P : A → Type 0) (c : Bool) (x : A) → (c ≡ true → P x) → AllByRecursion P (if c then x ∷ [] else [])
all-one P true x f = (f refl, tt)
all-one P false x f = tt

pub of-only : {A : Type 0} (P : A → Type 0) (x : A) → P x → (v : A) → In v (x ∷ []) → P v
of-only P x h v (inl e) = subst P e h
of-only P x h v (inr i) = absurd i

-- ---- what holds of all in a list

-- of each that is in it, and conversely
pub all-at : {A : Type 0} (P : A → Type 0) (xs : List A) → AllByRecursion P xs → (x : A) → In x xs → P x
all-at P [] h x i = absurd i
all-at P (y ∷ ys) h x (inl e) = subst P e h.0
all-at P (y ∷ ys) h x (inr i) = all-at P ys h.1 x i

pub all-from : {A : Type 0} (P : A → Type 0) (xs : List A) → ((x : A) → In x xs → P x) → AllByRecursion P xs
all-from P [] f = tt
all-from P (y ∷ ys) f = (f y (inl refl), all-from P ys (λ x i. f x (inr i)))

pub all-append : {A : Type 0} (P : A → Type 0) (xs ys : List A) → AllByRecursion P xs → AllByRecursion P ys → AllByRecursion P (xs ++ ys)
all-append P [] ys h k = k
all-append P (x ∷ xs) ys h k = (h.0, all-append P xs ys h.1 k)

pub all-mono : {A : Type 0} (P Q : A → Type 0) → ((x : A) → P x → Q x) → (xs : List A) → AllByRecursion P xs → AllByRecursion Q xs
all-mono P Q f [] h = tt
all-mono P Q f (x ∷ xs) h = (f x h.0, all-mono P Q f xs h.1)

pub all-both : {A : Type 0} (P Q R : A → Type 0) → ((x : A) → P x → Q x → R x) → (xs : List A) → AllByRecursion P xs → AllByRecursion Q xs → AllByRecursion R xs
all-both P Q R f [] p q = tt
all-both P Q R f (x ∷ xs) p q = (f x p.0 q.0, all-both P Q R f xs p.1 q.1)

pub all-if : {A : Type 0} (P : A → Type 0) (c : Bool) (xs ys : List A) → AllByRecursion P xs → AllByRecursion P ys → AllByRecursion P (if c then xs else ys)
all-if P true xs ys h k = h
all-if P false xs ys h k = k

pub all-filter : {A : Type 0} (P : A → Type 0) (test : A → Bool) (xs : List A) → AllByRecursion P xs → AllByRecursion P (filter test xs)
all-filter P test [] h = tt
all-filter P test (x ∷ xs) h = all-if P (test x) (x ∷ filter test xs) (filter test xs) (h.0, all-filter P test xs h.1) (all-filter P test xs h.1)

pub all-map : {A B : Type 0} (P : B → Type 0) (f : A → B) → ((x : A) → P (f x)) → (xs : List A) → AllByRecursion P (map f xs)
all-map P f g [] = tt
all-map P f g (x ∷ xs) = (g x, all-map P f g xs)

pub all-first : {A : Type 0} (P : A → Type 0) (xs ys : List A) → AllByRecursion P (xs ++ ys) → AllByRecursion P xs
all-first P [] ys h = tt
all-first P (x ∷ xs) ys h = (h.0, all-first P xs ys h.1)

pub all-behind : {A : Type 0} (P : A → Type 0) (xs ys : List A) → AllByRecursion P (xs ++ ys) → AllByRecursion P ys
all-behind P [] ys h = h
all-behind P (x ∷ xs) ys h = all-behind P xs ys h.1

pub all-rest : {A : Type 0} (P : A → Type 0) (xs : List A) → AllByRecursion P xs → AllByRecursion P (rest xs)
all-rest P [] h = tt
all-rest P (x ∷ xs) h = h.1

-- ---- numbers that rise

pub rise-lower : (low high : ℕ) (xs : List ℕ) → low ≤ high → RiseFrom high xs → RiseFrom low xs
rise-lower low high [] b h = tt
rise-lower low high (x ∷ xs) b h = (omega (arith, b, h.0), h.1)

pub rise-behind : (low : ℕ) (xs ys : List ℕ) → RiseFrom low (xs ++ ys) → RiseFrom low ys
rise-behind low [] ys h = h
rise-behind low (x ∷ xs) ys h = rise-lower low (x + 1) ys (omega (arith, h.0)) (rise-behind (x + 1) xs ys h.1)

pub rise-above : (low : ℕ) (xs : List ℕ) → RiseFrom low xs → AllByRecursion (λ x. low ≤ x) xs
rise-above low [] r = tt
rise-above low (x ∷ xs) r = (r.0, all-mono (λ y. x + 1 ≤ y) (λ y. low ≤ y) (λ y l. omega (arith, r.0, l)) xs (rise-above (x + 1) xs r.1))

-- with numbers behind them that rise from one that is greater than all
pub rise-append : (low middle : ℕ) (xs ys : List ℕ) → low ≤ middle → AllByRecursion (λ x. x < middle) xs → RiseFrom low xs → RiseFrom middle ys → RiseFrom low (xs ++ ys)
rise-append low middle [] ys l b r s = rise-lower low middle ys l s
rise-append low middle (x ∷ xs) ys l b r s = (r.0, rise-append (x + 1) middle xs ys (omega (arith, b.0)) b.1 r.1 s)

-- ---- tests of lists

-- one that is in a list of which all pass
pub list_all-at : {A : Type 0} (p : A → Bool) (xs : List A) (x : A) → list_all p xs ≡ true → In x xs → p x ≡ true
list_all-at p [] x h i = absurd i
list_all-at p (y ∷ ys) x h (inl e) = ap p (sym e) ∙ (and_parts (p y) (list_all p ys) h).0
list_all-at p (y ∷ ys) x h (inr i) = list_all-at p ys x (and_parts (p y) (list_all p ys) h).1 i

pub list_all-from : {A : Type 0} (p : A → Bool) (xs : List A) → ((x : A) → In x xs → p x ≡ true) → list_all p xs ≡ true
list_all-from p [] f = refl
list_all-from p (x ∷ xs) f = and_from (p x) (list_all p xs) (f x (inl refl)) (list_all-from p xs (λ y i. f y (inr i)))

pub list_all-all : {A : Type 0} (p : A → Bool) (xs : List A) → AllByRecursion (λ x. p x ≡ true) xs → list_all p xs ≡ true
list_all-all p xs h = list_all-from p xs (λ x i. all-at (λ y. p y ≡ true) xs h x i)

pub filter-all : {A : Type 0} (p : A → Bool) (xs : List A) → AllByRecursion (λ x. p x ≡ true) xs → filter p xs ≡ xs
filter-all p [] h = refl
filter-all p (x ∷ xs) h = rw h.0 (ap (λ ys. x ∷ ys) (filter-all p xs h.1))

-- a list in which one passes
pub list_any-in : {A : Type 0} (p : A → Bool) (xs : List A) (x : A) → In x xs → p x ≡ true → list_any p xs ≡ true
list_any-in p [] x i e = absurd i
list_any-in p (y ∷ ys) x (inl k) e = or_left (p y) (list_any p ys) (ap p k ∙ e)
list_any-in p (y ∷ ys) x (inr k) e = or_right (p y) (list_any p ys) (list_any-in p ys x k e)

-- one that passes
pub list_any-from : {A : Type 0} (p : A → Bool) (xs : List A) → list_any p xs ≡ true → (x : A) × In x xs × (p x ≡ true)
list_any-from p [] e = absurd (true≢false (sym e))
list_any-from p (x ∷ xs) e = elim (or_cases (p x) (list_any p xs) e) [ inl k ↦ (x, inl refl, k) | inr k ↦ let r = list_any-from p xs k in (r.0, inr r.1, r.2) ]

-- of a list whose elements pass the first test, and one of them the second: one that passes both
pub list_all-any : {A : Type 0} (p q : A → Bool) (xs : List A) → list_all p xs ≡ true → list_any q xs ≡ true → (x : A) × (p x ≡ true) × (q x ≡ true)
list_all-any p q xs h e = let r = list_any-from q xs e in (r.0, list_all-at p xs r.0 h r.1, r.2)

-- ---- functions that were changed at one place

-- the new value, and the old ones elsewhere
pub set-here : {A : Type 0} (f : ℕ → A) (n : ℕ) (v : A) → set_at f n v n ≡ v
set-here f n v = let e : (n == n) ≡ true = grind (arith, nat_tests) in rw e

pub set-there : {A : Type 0} (f : ℕ → A) (n : ℕ) (v : A) (g : ℕ) → (g ≡ n → ⊥) → set_at f n v g ≡ f g
set-there f n v g d = let e : (g == n) ≡ false = grind (arith, nat_tests, d) in rw e

-- of the new value at that place, and of the old ones elsewhere
pub set-both : {A : Type 0} (P : ℕ → A → Type 0) (f : ℕ → A) (n : ℕ) (v : A) → P n v → ((h : ℕ) → (h ≡ n → ⊥) → P h (f h)) → (h : ℕ) → P h (set_at f n v h)
set-both P f n v p q h = cond_both (h == n) _ _ (P h) (λ e. subst (λ z. P z v) (sym (eqb-true h n e)) p) (λ e. q h (λ d. grind (arith, nat_tests, e, d)))

-- changed once more there, and changed to what it is there
pub set-twice : {A : Type 0} (f : ℕ → A) (n : ℕ) (v w : A) → set_at (set_at f n v) n w ≡ set_at f n w
set-twice f n v w = fun_ext (set-both (λ k x. x ≡ set_at f n w k) (set_at f n v) n w (sym (set-here f n w)) (λ k d. set-there f n v k d ∙ sym (set-there f n w k d)))

pub set-same : {A : Type 0} (f : ℕ → A) (n : ℕ) → set_at f n (f n) ≡ f
set-same f n = fun_ext (set-both (λ k x. x ≡ f k) f n (f n) refl (λ k d. refl))
