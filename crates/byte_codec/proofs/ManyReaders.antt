-- So many things, read one behind another.
use Rattle.std.proofs.Common.{◌≡◌, ℕ, zero, suc, ◌-◌, ◌<◌, List, [], ◌∷◌, ◌++◌, append_assoc, append-nil, Option, Some, None, refl, sym, ap, ◌∙◌, arith}
use Rattle.volt_base.specs.Reading.{◌>>=◌}
use Rattle.byte_codec.specs.Readers.{Reader, many_at}

-- what was read, and what is read behind it
abbrev pub put_before : {A : Type 0} → List A → Option (List A × List ℕ) → Option (List A × List ℕ)
put_before xs rest = rest >>= λ r. Some (xs ++ r.0, r.1)

before_more : {A : Type 0} (xs : List A) (x : A) (rest : Option (List A × List ℕ))
    → put_before xs (rest >>= λ r. Some (x ∷ r.0, r.1)) ≡ put_before (xs ++ x ∷ []) rest
before_more xs x None = refl
before_more {A} xs x (Some r) = ap (λ (ys : List A). Some (ys, r.1)) (sym (append_assoc xs (x ∷ []) r.0))

-- one more was read
pub many_more : {A : Type 0} (one_at : Reader A) (left : ℕ) (rest behind : List ℕ) (x : A) (xs ys : List A) (whole : Option (List A × List ℕ)) → 0 < left
    → one_at rest ≡ Some (x, behind) → ys ≡ xs ++ x ∷ [] → whole ≡ put_before xs (many_at one_at left rest)
    → whole ≡ put_before ys (many_at one_at (left - 1) behind)
many_more one_at zero rest behind x xs ys whole some one pushed is = absurd (omega (arith, some))
many_more {A} one_at (suc n) rest behind x xs ys whole some one pushed is =
    let same : suc n - 1 ≡ n = omega arith in
    rw (same, pushed)
    (is
    ∙ ap (λ (o : Option (A × List ℕ)). put_before xs (o >>= λ first. many_at one_at n first.1 >>= λ r. Some (first.0 ∷ r.0, r.1))) one
    ∙ before_more xs x (many_at one_at n behind))

-- no further one can be read
pub many_none : {A : Type 0} (one_at : Reader A) (left : ℕ) (rest : List ℕ) (xs : List A) (whole : Option (List A × List ℕ)) → 0 < left
    → one_at rest ≡ None → whole ≡ put_before xs (many_at one_at left rest) → whole ≡ None
many_none one_at zero rest xs whole some none is = absurd (omega (arith, some))
many_none {A} one_at (suc n) rest xs whole some none is =
    is ∙ ap (λ (o : Option (A × List ℕ)). put_before xs (o >>= λ first. many_at one_at n first.1 >>= λ r. Some (first.0 ∷ r.0, r.1))) none

-- all were read
pub many_all : {A : Type 0} (one_at : Reader A) (left : ℕ) (rest : List ℕ) (xs : List A) (whole : Option (List A × List ℕ)) → left ≡ 0
    → whole ≡ put_before xs (many_at one_at left rest) → whole ≡ Some (xs, rest)
many_all {A} one_at zero rest xs whole end is = is ∙ ap (λ (ys : List A). Some (ys, rest)) (append-nil xs)
many_all one_at (suc n) rest xs whole end is = absurd (omega (arith, end))
