-- Logs that are a prefix of others, and what is behind a position.
use Rattle.cluster_steps.proofs.Names.{◌≡◌, ◌≤◌, List, [], ◌∷◌, ◌++◌, append_assoc, append-nil, drop-drop, refl, sym, subst, ap, ◌∙◌, ◌⊎◌, inl, inr, arith, take, length-take, take_all, take-append-drop, cases_lt, drop-append-le, take-append-le, front_rest, front_fits, ℕ, Entry, Prefix, ◌+◌, ◌-◌, length, drop}

-- ---- prefixes

pub prefix-refl : (xs : List Entry) → Prefix xs xs
prefix-refl xs = ([], sym (append-nil xs))

pub prefix-none : (xs : List Entry) → Prefix [] xs
prefix-none xs = (xs, refl)

pub prefix-append : (xs ys : List Entry) → Prefix xs (xs ++ ys)
prefix-append xs ys = (ys, refl)

pub prefix-trans : (xs ys zs : List Entry) → Prefix xs ys → Prefix ys zs → Prefix xs zs
prefix-trans xs ys zs (more, e) (rest, f) = (more ++ rest, f ∙ ap (λ l. l ++ rest) e ∙ append_assoc xs more rest)

-- of a list that grows
pub prefix-grows : (xs ys more : List Entry) → Prefix xs ys → Prefix xs (ys ++ more)
prefix-grows xs ys more h = prefix-trans xs ys (ys ++ more) h (prefix-append ys more)

-- of lists that are one
pub prefix-same : (xs ys : List Entry) → xs ≡ ys → Prefix xs ys
prefix-same xs ys e = subst (Prefix xs) e (prefix-refl xs)

-- it isn't longer
pub prefix-length : (xs ys : List Entry) → Prefix xs ys → length xs ≤ length ys
prefix-length xs ys (more, e) = front_fits ys xs more e

-- ---- two lists of which each is a prefix of a third one

prefix-cons : (x : Entry) (xs ys : List Entry) → Prefix xs ys → Prefix (x ∷ xs) (x ∷ ys)
prefix-cons x xs ys (more, e) = (more, ap (λ l. x ∷ l) e)

prefix-tail : (x z : Entry) (xs zs : List Entry) → Prefix (x ∷ xs) (z ∷ zs) → (z ≡ x) × Prefix xs zs
prefix-tail x z xs zs (more, e) = (cc, (more, cc))

-- the shorter one is a prefix of the other
pub prefixes-order : (xs ys zs : List Entry) → Prefix xs zs → Prefix ys zs → length xs ≤ length ys → Prefix xs ys
prefixes-order [] ys zs h k l = prefix-none ys
prefixes-order (x ∷ xs) [] zs h k l = absurd (omega (arith, l))
prefixes-order (x ∷ xs) (y ∷ ys) [] (more, e) k l = absurd (cc)
prefixes-order (x ∷ xs) (y ∷ ys) (z ∷ zs) h k l =
    let p = prefix-tail x z xs zs h in
    let q = prefix-tail y z ys zs k in
    subst (λ w. Prefix (x ∷ xs) (w ∷ ys)) (sym p.0 ∙ q.0) (prefix-cons x xs ys (prefixes-order xs ys zs p.1 q.1 (omega (arith, l))))

pub prefixes-compare : (xs ys zs : List Entry) → Prefix xs zs → Prefix ys zs → Prefix xs ys ⊎ Prefix ys xs
prefixes-compare xs ys zs h k = elim (cases_lt (length xs) (length ys)) [
  | inl l ↦ inl (prefixes-order xs ys zs h k (omega (arith, l)))
  | inr l ↦ inr (prefixes-order ys xs zs k h l)
]

-- ---- behind a position

-- what is behind a prefix
pub prefix-rest : (xs ys : List Entry) → Prefix xs ys → ys ≡ xs ++ drop (length xs) ys
prefix-rest xs ys (more, e) = e ∙ ap (λ z. xs ++ z) (sym (front_rest ys xs more e))

pub prefix-drop : (xs ys : List Entry) (n : ℕ) → Prefix xs ys → n ≤ length xs → Prefix (drop n xs) (drop n ys)
prefix-drop xs ys n (more, e) l = (more, ap (drop n) e ∙ drop-append-le n xs more l)

-- what is behind a position, of what is behind an earlier one
pub drop-behind : (n f : ℕ) (xs : List Entry) → f ≤ n → drop (n - f) (drop f xs) ≡ drop n xs
drop-behind n f xs l = let e : f + (n - f) ≡ n = omega (arith, l) in drop-drop (n - f) f xs ∙ ap (λ k. drop k xs) e

-- ---- the first entries of a log

-- they are at its beginning
pub prefix-take : (n : ℕ) (xs : List Entry) → Prefix (take n xs) xs
prefix-take n xs = (drop n xs, sym (take-append-drop n xs))

pub take-short : (n : ℕ) (xs : List Entry) → length (take n xs) ≤ n
take-short n xs = let e = length-take n xs in omega (arith, e)

-- up to a position that isn't later they are at the beginning
pub take-prefix : (n m : ℕ) (xs : List Entry) → n ≤ m → Prefix (take n xs) (take m xs)
take-prefix n m xs l = prefixes-order (take n xs) (take m xs) xs (prefix-take n xs) (prefix-take m xs) (omega (arith, l, length-take n xs, length-take m xs))

-- a log that grows keeps them
pub take-grown : (n : ℕ) (xs ys : List Entry) → Prefix xs ys → n ≤ length xs → take n ys ≡ take n xs
take-grown n xs ys (more, e) l = ap (take n) e ∙ take-append-le n xs more l

-- what has them at its beginning begins with them
pub take-of-prefix : (n : ℕ) (xs ys : List Entry) → Prefix (take n xs) ys → n ≤ length xs → take n ys ≡ take n xs
take-of-prefix n xs ys h l =
    let k : length (take n xs) ≡ n = omega (arith, l, length-take n xs) in
    take-grown n (take n xs) ys h (omega (arith, k)) ∙ take_all n (take n xs) (omega (arith, k))
