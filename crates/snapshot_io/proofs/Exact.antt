-- Readers that are exact: what is read is spelled so, and what is spelled so is read again.
use Rattle.std.proofs.Common.{◌≡◌, ℕ, zero, suc, ◌+◌, ◌^◌, ◌<◌, List, [], ◌∷◌, ◌++◌, append_assoc, flat_map, length, Option, Some, refl, sym, ap, subst, ◌∙◌, arith}
use Rattle.std.proofs.lemmas.List.{get_or-append-add}
use Rattle.std.specs.List.{AllByRecursion}
use Rattle.std.specs.Int.{Width, to_be_bytes}
use Rattle.volt_base.specs.Spelling.{body_bytes}
use Rattle.volt_base.specs.Reading.{◌>>=◌, number_at, body_at}
use Rattle.volt_base.proofs.Fields.{IsBytes, IsBytes-rest, bind_some, some_is, Takes, Takes-then, IsWide, number_takes, number_again, body_takes, body_again}
use Rattle.snapshot_io.specs.Reading.{Reader, byte_at, both_at, as_at, many_at, counted_at}

-- what was read is spelled ahead of the rest, and fits
abbrev pub Taken : {A : Type 0} → (A → List ℕ) → (A → Type 0) → List ℕ → A × List ℕ → Type 0
Taken spell Fit bytes x = Takes bytes (spell x.0) x.1 × Fit x.0

pub record Exact {A : Type 0} (one_at : Reader A) (spell : A → List ℕ) (Fit : A → Type 0) : Type 0 where
  pub takes : (bytes : List ℕ) (x : A × List ℕ) → IsBytes bytes → one_at bytes ≡ Some x → Taken spell Fit bytes x
  pub again : (a : A) (rest : List ℕ) → Fit a → one_at (spell a ++ rest) ≡ Some (a, rest)

pub IsBytes-behind : (front rest bytes : List ℕ) → bytes ≡ front ++ rest → IsBytes bytes → IsBytes rest
IsBytes-behind front rest bytes parts fits i =
    rw (← get_or-append-add front rest i 0) (rw parts at fits (length front + i))

-- ---- a byte, a number, a text of bytes

abbrev pub one_byte : ℕ → List ℕ
one_byte b = b ∷ []

byte_takes : (bytes : List ℕ) (x : ℕ × List ℕ) → IsBytes bytes → byte_at bytes ≡ Some x → Taken one_byte (λ b. b < 2 ^ 8) bytes x
byte_takes [] x fits e = absurd cc
byte_takes (b ∷ bytes) x fits e =
    subst (λ y. Taken one_byte (λ b. b < 2 ^ 8) (b ∷ bytes) y) {x = (b, bytes)} (some_is (b, bytes) x e)
    (record { parts = refl; rest_fits = IsBytes-rest b bytes fits }, omega (arith, fits 0))

pub byte_exact : Exact byte_at one_byte (λ b. b < 2 ^ 8)
byte_exact = record { takes = byte_takes; again = λ b rest fits. refl }

pub number_exact : (w : Width) (limit : ℕ) → IsWide w limit → Exact (number_at w) (to_be_bytes w) (λ n. n < limit)
number_exact w limit wide = record {
  takes = λ bytes x fits e. number_takes w limit wide bytes x.0 x.1 fits e;
  again = λ n rest fits. number_again w limit wide n rest fits;
}

pub body_exact : Exact body_at body_bytes (λ body. length body < 2 ^ 32)
body_exact = record { takes = λ bytes x fits e. body_takes bytes x.0 x.1 fits e; again = λ body rest fits. body_again body rest fits }

-- ---- one thing and another

pub both_exact : {A B : Type 0} (a_at : Reader A) (b_at : Reader B) (a_bytes : A → List ℕ) (b_bytes : B → List ℕ) (FitA : A → Type 0) (FitB : B → Type 0)
    → Exact a_at a_bytes FitA → Exact b_at b_bytes FitB → Exact (both_at a_at b_at) (λ p. a_bytes p.0 ++ b_bytes p.1) (λ p. FitA p.0 × FitB p.1)
both_exact {A} {B} a_at b_at a_bytes b_bytes FitA FitB first second = record {
  takes = λ bytes x fits e.
      let a = bind_some (a_at bytes) (λ p. b_at p.1 >>= λ q. Some ((p.0, q.0), q.1)) x e in
      let b = bind_some (b_at a.0.1) (λ q. Some ((a.0.0, q.0), q.1)) x a.2 in
      let t0 = first.takes bytes a.0 fits a.1 in
      let t1 = second.takes a.0.1 b.0 t0.0.rest_fits b.1 in
      let made : (A × B) × List ℕ = ((a.0.0, b.0.0), b.0.1) in
      subst (λ y. Taken (λ (p : A × B). a_bytes p.0 ++ b_bytes p.1) (λ p. FitA p.0 × FitB p.1) bytes y) {x = made} (some_is made x b.2)
      (Takes-then bytes (a_bytes a.0.0) a.0.1 (b_bytes b.0.0) b.0.1 t0.0 t1.0, (t0.1, t1.1));
  again = λ p rest fits.
      ap (both_at a_at b_at) (append_assoc (a_bytes p.0) (b_bytes p.1) rest)
      ∙ rw (first.again p.0 (b_bytes p.1 ++ rest) fits.0, second.again p.1 rest fits.1) refl;
}

-- ---- what a thing stands for

-- each thing that stands for something is spelled as what stands for that
pub record Stands {A B : Type 0} (meaning : A → Option B) (sign : B → A) (spell : A → List ℕ) (FitA : A → Type 0) (FitB : B → Type 0) : Type 0 where
  pub signs : (a : A) (b : B) → FitA a → IsBytes (spell a) → meaning a ≡ Some b → (a ≡ sign b) × FitB b
  pub means : (b : B) → FitB b → (meaning (sign b) ≡ Some b) × FitA (sign b)

IsBytes-front : (front rest bytes : List ℕ) → bytes ≡ front ++ rest → IsBytes bytes → IsBytes front
IsBytes-front [] rest bytes parts fits i = omega arith
IsBytes-front (b ∷ front) rest bytes parts fits zero = rw parts at fits 0
IsBytes-front (b ∷ front) rest bytes parts fits (suc i) = IsBytes-front front rest (front ++ rest) refl (λ j. rw parts at fits (suc j)) i

pub as_exact : {A B : Type 0} (meaning : A → Option B) (sign : B → A) (a_at : Reader A) (spell : A → List ℕ) (FitA : A → Type 0) (FitB : B → Type 0)
    → Exact a_at spell FitA → Stands meaning sign spell FitA FitB → Exact (as_at meaning a_at) (λ b. spell (sign b)) FitB
as_exact {A} {B} meaning sign a_at spell FitA FitB exact stands = record {
  takes = λ bytes x fits e.
      let a = bind_some (a_at bytes) (λ p. meaning p.0 >>= λ b. Some (b, p.1)) x e in
      let b = bind_some (meaning a.0.0) (λ b. Some (b, a.0.1)) x a.2 in
      let t = exact.takes bytes a.0 fits a.1 in
      let s = stands.signs a.0.0 b.0 t.1 (IsBytes-front (spell a.0.0) a.0.1 bytes t.0.parts fits) b.1 in
      let made : B × List ℕ = (b.0, a.0.1) in
      subst (λ y. Taken (λ c. spell (sign c)) FitB bytes y) {x = made} (some_is made x b.2)
      (subst (λ d. Takes bytes (spell d) a.0.1) s.0 t.0, s.1);
  again = λ b rest fits.
      let m = stands.means b fits in
      rw (exact.again (sign b) rest m.1, m.0) refl;
}

-- ---- so many

many_takes : {A : Type 0} (one_at : Reader A) (spell : A → List ℕ) (Fit : A → Type 0) → Exact one_at spell Fit → (n : ℕ) (bytes : List ℕ) (x : List A × List ℕ) → IsBytes bytes → many_at one_at n bytes ≡ Some x
    → (Takes bytes (flat_map spell x.0) x.1 × AllByRecursion Fit x.0) × (length x.0 ≡ n)
many_takes {A} one_at spell Fit exact zero bytes x fits e =
    subst (λ (y : List A × List ℕ). (Takes bytes (flat_map spell y.0) y.1 × AllByRecursion Fit y.0) × (length y.0 ≡ 0)) {x = ([], bytes)} (some_is ([], bytes) x e)
    ((record { parts = refl; rest_fits = fits }, tt), refl)
many_takes {A} one_at spell Fit exact (suc n) bytes x fits e =
    let a = bind_some (one_at bytes) (λ first. many_at one_at n first.1 >>= λ rest. Some (first.0 ∷ rest.0, rest.1)) x e in
    let b = bind_some (many_at one_at n a.0.1) (λ rest. Some (a.0.0 ∷ rest.0, rest.1)) x a.2 in
    let t0 = exact.takes bytes a.0 fits a.1 in
    let t1 = many_takes one_at spell Fit exact n a.0.1 b.0 t0.0.rest_fits b.1 in
    let made : List A × List ℕ = (a.0.0 ∷ b.0.0, b.0.1) in
    subst (λ (y : List A × List ℕ). (Takes bytes (flat_map spell y.0) y.1 × AllByRecursion Fit y.0) × (length y.0 ≡ suc n)) {x = made} (some_is made x b.2)
    ((Takes-then bytes (spell a.0.0) a.0.1 (flat_map spell b.0.0) b.0.1 t0.0 t1.0.0, (t0.1, t1.0.1)), ap (λ (m : ℕ). suc m) t1.1)

many_again : {A : Type 0} (one_at : Reader A) (spell : A → List ℕ) (Fit : A → Type 0) → Exact one_at spell Fit → (xs : List A) (rest : List ℕ) → AllByRecursion Fit xs
    → many_at one_at (length xs) (flat_map spell xs ++ rest) ≡ Some (xs, rest)
many_again one_at spell Fit exact [] rest fits = refl
many_again one_at spell Fit exact (x ∷ xs) rest fits =
    ap (many_at one_at (suc (length xs))) (append_assoc (spell x) (flat_map spell xs) rest)
    ∙ rw (exact.again x (flat_map spell xs ++ rest) fits.0, many_again one_at spell Fit exact xs rest fits.1) refl

pub counted_exact : {A : Type 0} (count_at : Reader ℕ) (count_bytes : ℕ → List ℕ) (limit : ℕ) (one_at : Reader A) (spell : A → List ℕ) (Fit : A → Type 0)
    → Exact count_at count_bytes (λ n. n < limit) → Exact one_at spell Fit
    → Exact (counted_at count_at one_at) (λ xs. count_bytes (length xs) ++ flat_map spell xs) (λ xs. (length xs < limit) × AllByRecursion Fit xs)
counted_exact {A} count_at count_bytes limit one_at spell Fit counts exact = record {
  takes = λ bytes x fits e.
      let a = bind_some (count_at bytes) (λ count. many_at one_at count.0 count.1) x e in
      let t0 = counts.takes bytes a.0 fits a.1 in
      let t1 = many_takes one_at spell Fit exact a.0.0 a.0.1 x t0.0.rest_fits a.2 in
      let front : Takes bytes (count_bytes (length x.0)) a.0.1 = subst (λ n. Takes bytes (count_bytes n) a.0.1) (sym t1.1) t0.0 in
      (Takes-then bytes (count_bytes (length x.0)) a.0.1 (flat_map spell x.0) x.1 front t1.0.0, (omega (arith, t1.1, t0.1), t1.0.1));
  again = λ xs rest fits.
      ap (counted_at count_at one_at) (append_assoc (count_bytes (length xs)) (flat_map spell xs) rest)
      ∙ rw (counts.again (length xs) (flat_map spell xs ++ rest) fits.0, many_again one_at spell Fit exact xs rest fits.1) refl;
}
