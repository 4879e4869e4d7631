-- Readers that are exact, put together from exact readers.
use Rattle.std.proofs.Common.{◌≡◌, ◌≢◌, ℕ, zero, suc, ◌+◌, ◌^◌, ◌<◌, List, [], ◌∷◌, ◌++◌, append_assoc, append-nil, flat_map, length, Option, Some, None, refl, sym, ap, subst, ◌∙◌, arith}
use Rattle.std.proofs.lemmas.List.{get_or-append-add}
use Rattle.std.proofs.lemmas.Option.{none-some}
use Rattle.std.specs.List.{AllByRecursion}
use Rattle.std.specs.Int.{Width, w16, w32, w64, to_be_bytes}
use Rattle.volt_base.specs.Spelling.{body_bytes}
use Rattle.volt_base.specs.Reading.{◌>>=◌, number_at, body_at}
use Rattle.volt_base.proofs.Fields.{bind_some, some_is, IsWide, wide16, wide32, wide64, number_takes, number_again, body_takes, body_again}
use Rattle.byte_codec.specs.Readers.{Reader, byte_at, both_at, as_at, mapped_at, many_at, counted_at, list_bytes, list_at, short_list_bytes, short_list_at}
use Rattle.byte_codec.specs.Exactness.{AreBytes, Taken, Exact, FitsIn}

pub AreBytes-behind : (front rest bytes : List ℕ) → bytes ≡ front ++ rest → AreBytes bytes → AreBytes rest
AreBytes-behind front rest bytes parts fits i =
    rw (← get_or-append-add front rest i 0) (rw parts at fits (length front + i))

pub AreBytes-front : (front rest bytes : List ℕ) → bytes ≡ front ++ rest → AreBytes bytes → AreBytes front
AreBytes-front [] rest bytes parts fits i = omega arith
AreBytes-front (b ∷ front) rest bytes parts fits zero = rw parts at fits 0
AreBytes-front (b ∷ front) rest bytes parts fits (suc i) = AreBytes-front front rest (front ++ rest) refl (λ j. rw parts at fits (suc j)) i

-- what stands behind what was taken are bytes too
pub rest_of : {A : Type 0} (spell : A → List ℕ) (Fit : A → Type 0) (bytes : List ℕ) (x : A × List ℕ) → AreBytes bytes → Taken spell Fit bytes x → AreBytes x.1
rest_of spell Fit bytes x fits t = AreBytes-behind (spell x.0) x.1 bytes t.parts fits

-- two pieces, one behind another
joined : (a x b y c : List ℕ) → a ≡ x ++ b → b ≡ y ++ c → a ≡ (x ++ y) ++ c
joined a x b y c p q = p ∙ ap (λ (t : List ℕ). x ++ t) q ∙ sym (append_assoc x y c)

abbrev just : {A : Type 0} → A → Option A
just x = Some x

-- ---- a byte, a number, a text of bytes

abbrev pub IsBelow : ℕ → ℕ → Type 0
IsBelow limit n = n < limit

abbrev pub IsShort : List ℕ → Type 0
IsShort body = length body < 2 ^ 32

abbrev pub one_byte : ℕ → List ℕ
one_byte b = b ∷ []

byte_takes : (bytes : List ℕ) (x : ℕ × List ℕ) → AreBytes bytes → byte_at bytes ≡ Some x → Taken one_byte (IsBelow (2 ^ 8)) bytes x
byte_takes [] x fits e = absurd cc
byte_takes (b ∷ bytes) x fits e =
    subst (λ y. Taken one_byte (IsBelow (2 ^ 8)) (b ∷ bytes) y) {x = (b, bytes)} (some_is (b, bytes) x e)
    (record { parts = refl; fits = omega (arith, fits 0) })

pub byte_exact : Exact byte_at one_byte (IsBelow (2 ^ 8))
byte_exact = record { takes = byte_takes; again = λ b rest fits. refl }

pub number_exact : (w : Width) (limit : ℕ) → IsWide w limit → Exact (number_at w) (to_be_bytes w) (IsBelow limit)
number_exact w limit wide = record {
  takes = λ bytes x fits e. let t = number_takes w limit wide bytes x.0 x.1 fits e in record { parts = t.0.parts; fits = t.1 };
  again = λ n rest fits. number_again w limit wide n rest fits;
}

pub exact16 : Exact (number_at w16) (to_be_bytes w16) (IsBelow (2 ^ 16))
exact16 = number_exact w16 (2 ^ 16) wide16

pub exact32 : Exact (number_at w32) (to_be_bytes w32) (IsBelow (2 ^ 32))
exact32 = number_exact w32 (2 ^ 32) wide32

pub exact64 : Exact (number_at w64) (to_be_bytes w64) (IsBelow (2 ^ 64))
exact64 = number_exact w64 (2 ^ 64) wide64

pub body_exact : Exact body_at body_bytes IsShort
body_exact = record {
  takes = λ bytes x fits e. let t = body_takes bytes x.0 x.1 fits e in record { parts = t.0.parts; fits = t.1 };
  again = λ body rest fits. body_again body rest fits;
}

-- ---- one thing and another

pub both_exact : {A B : Type 0} (a_at : Reader A) (b_at : Reader B) (a_bytes : A → List ℕ) (b_bytes : B → List ℕ) (FitA : A → Type 0) (FitB : B → Type 0)
    → Exact a_at a_bytes FitA → Exact b_at b_bytes FitB → Exact (both_at a_at b_at) (λ p. a_bytes p.0 ++ b_bytes p.1) (λ p. FitA p.0 × FitB p.1)
both_exact {A} {B} a_at b_at a_bytes b_bytes FitA FitB first second = record {
  takes = λ bytes x fits e.
      let a = bind_some (a_at bytes) (λ p. b_at p.1 >>= λ q. Some ((p.0, q.0), q.1)) x e in
      let b = bind_some (b_at a.0.1) (λ q. Some ((a.0.0, q.0), q.1)) x a.2 in
      let t0 = first.takes bytes a.0 fits a.1 in
      let t1 = second.takes a.0.1 b.0 (rest_of a_bytes FitA bytes a.0 fits t0) b.1 in
      let made : (A × B) × List ℕ = ((a.0.0, b.0.0), b.0.1) in
      subst (λ y. Taken (λ (p : A × B). a_bytes p.0 ++ b_bytes p.1) (λ p. FitA p.0 × FitB p.1) bytes y) {x = made} (some_is made x b.2)
      (record { parts = joined bytes (a_bytes a.0.0) a.0.1 (b_bytes b.0.0) b.0.1 t0.parts t1.parts; fits = (t0.fits, t1.fits) });
  again = λ p rest fits.
      ap (both_at a_at b_at) (append_assoc (a_bytes p.0) (b_bytes p.1) rest)
      ∙ rw (first.again p.0 (b_bytes p.1 ++ rest) fits.0, second.again p.1 rest fits.1) refl;
}

-- ---- what a thing stands for

-- each thing that stands for something is spelled as what stands for that
pub record Stands {A B : Type 0} (meaning : A → Option B) (sign : B → A) (spell : A → List ℕ) (FitA : A → Type 0) (FitB : B → Type 0) : Type 0 where
  pub signs : (a : A) (b : B) → FitA a → AreBytes (spell a) → meaning a ≡ Some b → (a ≡ sign b) × FitB b
  pub means : (b : B) → FitB b → (meaning (sign b) ≡ Some b) × FitA (sign b)

pub as_exact : {A B : Type 0} (meaning : A → Option B) (sign : B → A) (a_at : Reader A) (spell : A → List ℕ) (FitA : A → Type 0) (FitB : B → Type 0)
    → Exact a_at spell FitA → Stands meaning sign spell FitA FitB → Exact (as_at meaning a_at) (λ b. spell (sign b)) FitB
as_exact {A} {B} meaning sign a_at spell FitA FitB exact stands = record {
  takes = λ bytes x fits e.
      let a = bind_some (a_at bytes) (λ p. meaning p.0 >>= λ b. Some (b, p.1)) x e in
      let b = bind_some (meaning a.0.0) (λ b. Some (b, a.0.1)) x a.2 in
      let t = exact.takes bytes a.0 fits a.1 in
      let s = stands.signs a.0.0 b.0 t.fits (AreBytes-front (spell a.0.0) a.0.1 bytes t.parts fits) b.1 in
      let made : B × List ℕ = (b.0, a.0.1) in
      subst (λ y. Taken (λ c. spell (sign c)) FitB bytes y) {x = made} (some_is made x b.2)
      (record { parts = subst (λ d. bytes ≡ spell d ++ a.0.1) s.0 t.parts; fits = s.1 });
  again = λ b rest fits.
      let m = stands.means b fits in
      rw (exact.again (sign b) rest m.1, m.0) refl;
}

-- where each thing stands for one, and each is stood for by one
pub record Mapped {A B : Type 0} (make : A → B) (sign : B → A) (FitA : A → Type 0) (FitB : B → Type 0) : Type 0 where
  pub signs : (a : A) → FitA a → (sign (make a) ≡ a) × FitB (make a)
  pub makes : (b : B) → FitB b → (make (sign b) ≡ b) × FitA (sign b)

pub mapped_exact : {A B : Type 0} (make : A → B) (sign : B → A) (a_at : Reader A) (spell : A → List ℕ) (FitA : A → Type 0) (FitB : B → Type 0)
    → Mapped make sign FitA FitB → Exact a_at spell FitA → Exact (mapped_at make a_at) (λ b. spell (sign b)) FitB
mapped_exact {A} {B} make sign a_at spell FitA FitB mapped exact = record {
  takes = λ bytes x fits e.
      let a = bind_some (a_at bytes) (λ p. Some (make p.0, p.1)) x e in
      let t = exact.takes bytes a.0 fits a.1 in
      let s = mapped.signs a.0.0 t.fits in
      let made : B × List ℕ = (make a.0.0, a.0.1) in
      subst (λ y. Taken (λ c. spell (sign c)) FitB bytes y) {x = made} (some_is made x a.2)
      (record { parts = subst (λ d. bytes ≡ spell d ++ a.0.1) (sym s.0) t.parts; fits = s.1 });
  again = λ b rest fits.
      let m = mapped.makes b fits in
      rw (exact.again (sign b) rest m.1, m.0) refl;
}

-- ---- so many

many_takes : {A : Type 0} (one_at : Reader A) (spell : A → List ℕ) (Fit : A → Type 0) → Exact one_at spell Fit → (n : ℕ) (bytes : List ℕ) (x : List A × List ℕ) → AreBytes bytes → many_at one_at n bytes ≡ Some x
    → Taken (flat_map spell) (AllByRecursion Fit) bytes x × (length x.0 ≡ n)
many_takes {A} one_at spell Fit exact zero bytes x fits e =
    subst (λ (y : List A × List ℕ). Taken (flat_map spell) (AllByRecursion Fit) bytes y × (length y.0 ≡ 0)) {x = ([], bytes)} (some_is ([], bytes) x e)
    (record { parts = refl; fits = tt }, refl)
many_takes {A} one_at spell Fit exact (suc n) bytes x fits e =
    let a = bind_some (one_at bytes) (λ first. many_at one_at n first.1 >>= λ rest. Some (first.0 ∷ rest.0, rest.1)) x e in
    let b = bind_some (many_at one_at n a.0.1) (λ rest. Some (a.0.0 ∷ rest.0, rest.1)) x a.2 in
    let t0 = exact.takes bytes a.0 fits a.1 in
    let t1 = many_takes one_at spell Fit exact n a.0.1 b.0 (rest_of spell Fit bytes a.0 fits t0) b.1 in
    let made : List A × List ℕ = (a.0.0 ∷ b.0.0, b.0.1) in
    subst (λ (y : List A × List ℕ). Taken (flat_map spell) (AllByRecursion Fit) bytes y × (length y.0 ≡ suc n)) {x = made} (some_is made x b.2) (
      record { parts = joined bytes (spell a.0.0) a.0.1 (flat_map spell b.0.0) b.0.1 t0.parts t1.0.parts; fits = (t0.fits, t1.0.fits) },
      ap (λ (m : ℕ). suc m) t1.1,
    )

many_again : {A : Type 0} (one_at : Reader A) (spell : A → List ℕ) (Fit : A → Type 0) → Exact one_at spell Fit → (xs : List A) (rest : List ℕ) → AllByRecursion Fit xs
    → many_at one_at (length xs) (flat_map spell xs ++ rest) ≡ Some (xs, rest)
many_again one_at spell Fit exact [] rest fits = refl
many_again one_at spell Fit exact (x ∷ xs) rest fits =
    ap (many_at one_at (suc (length xs))) (append_assoc (spell x) (flat_map spell xs) rest)
    ∙ rw (exact.again x (flat_map spell xs ++ rest) fits.0, many_again one_at spell Fit exact xs rest fits.1) refl

pub counted_exact : {A : Type 0} (count_at : Reader ℕ) (count_bytes : ℕ → List ℕ) (limit : ℕ) (one_at : Reader A) (spell : A → List ℕ) (Fit : A → Type 0)
    → Exact count_at count_bytes (IsBelow limit) → Exact one_at spell Fit
    → Exact (counted_at count_at one_at) (λ xs. count_bytes (length xs) ++ flat_map spell xs) (FitsIn limit Fit)
counted_exact {A} count_at count_bytes limit one_at spell Fit counts exact = record {
  takes = λ bytes x fits e.
      let a = bind_some (count_at bytes) (λ count. many_at one_at count.0 count.1) x e in
      let t0 = counts.takes bytes a.0 fits a.1 in
      let t1 = many_takes one_at spell Fit exact a.0.0 a.0.1 x (rest_of count_bytes (IsBelow limit) bytes a.0 fits t0) a.2 in
      let front : bytes ≡ count_bytes (length x.0) ++ a.0.1 = subst (λ n. bytes ≡ count_bytes n ++ a.0.1) (sym t1.1) t0.parts in
      record {
        parts = joined bytes (count_bytes (length x.0)) a.0.1 (flat_map spell x.0) x.1 front t1.0.parts;
        fits = (omega (arith, t1.1, t0.fits), t1.0.fits);
      };
  again = λ xs rest fits.
      ap (counted_at count_at one_at) (append_assoc (count_bytes (length xs)) (flat_map spell xs) rest)
      ∙ rw (counts.again (length xs) (flat_map spell xs ++ rest) fits.0, many_again one_at spell Fit exact xs rest fits.1) refl;
}

pub list_exact : {A : Type 0} (one_at : Reader A) (spell : A → List ℕ) (Fit : A → Type 0)
    → Exact one_at spell Fit → Exact (list_at one_at) (list_bytes spell) (FitsIn (2 ^ 32) Fit)
list_exact one_at spell Fit exact = counted_exact (number_at w32) (to_be_bytes w32) (2 ^ 32) one_at spell Fit exact32 exact

pub short_list_exact : {A : Type 0} (one_at : Reader A) (spell : A → List ℕ) (Fit : A → Type 0)
    → Exact one_at spell Fit → Exact (short_list_at one_at) (short_list_bytes spell) (FitsIn (2 ^ 8) Fit)
short_list_exact one_at spell Fit exact = counted_exact byte_at one_byte (2 ^ 8) one_at spell Fit byte_exact exact

-- ---- one of several kinds, behind the number of its kind

-- what was taken behind the number of a kind, of which it makes something
pub record OfKind {A B : Type 0} (spell : A → List ℕ) (Fit : A → Type 0) (make : A → B) (bytes : List ℕ) (x : B × List ℕ) : Type 0 where
  pub one : A
  pub is : make one ≡ x.0
  pub parts : bytes ≡ spell one ++ x.1
  pub fits : Fit one

pub kind_takes : {A B : Type 0} (one_at : Reader A) (spell : A → List ℕ) (Fit : A → Type 0) (make : A → B) → Exact one_at spell Fit
    → (kind : ℕ) (bytes : List ℕ) (x : B × List ℕ) → AreBytes (kind ∷ bytes) → mapped_at make one_at bytes ≡ Some x → OfKind spell Fit make bytes x
kind_takes {A} {B} one_at spell Fit make exact kind bytes x fits e =
    let a = bind_some (one_at bytes) (λ p. Some (make p.0, p.1)) x e in
    let t = exact.takes bytes a.0 (λ i. fits (suc i)) a.1 in
    let made : B × List ℕ = (make a.0.0, a.0.1) in
    let same = some_is made x a.2 in
    record {
      one = a.0.0;
      is = ap (λ (y : B × List ℕ). y.0) same;
      parts = subst (λ (y : B × List ℕ). bytes ≡ spell a.0.0 ++ y.1) same t.parts;
      fits = t.fits;
    }

-- so it was taken with the number of its kind ahead
pub of_kind : {A B : Type 0} (spell : A → List ℕ) (Fit : A → Type 0) (make : A → B) (whole : B → List ℕ) (FitB : B → Type 0) (kind : ℕ) (bytes : List ℕ) (x : B × List ℕ)
    → ((a : A) → whole (make a) ≡ kind ∷ spell a) → ((a : A) → Fit a → FitB (make a)) → OfKind spell Fit make bytes x → Taken whole FitB (kind ∷ bytes) x
of_kind {A} {B} spell Fit make whole FitB kind bytes x spelled fit k = record {
  parts = ap (λ (t : List ℕ). kind ∷ t) k.parts ∙ ap (λ (t : List ℕ). t ++ x.1) (sym (spelled k.one)) ∙ ap (λ (b : B). whole b ++ x.1) k.is;
  fits = subst (λ (b : B). FitB b) k.is (fit k.one k.fits);
}

-- ---- one spelling

pub one_spelling_of : {A : Type 0} (one_at : Reader A) (spell : A → List ℕ) (Fit : A → Type 0) → Exact one_at spell Fit
    → (a b : A) (x y : List ℕ) → Fit a → Fit b → spell a ++ x ≡ spell b ++ y → (a ≡ b) × (x ≡ y)
one_spelling_of {A} one_at spell Fit exact a b x y fit_a fit_b e =
    let same = some_is (a, x) (b, y) (sym (exact.again a x fit_a) ∙ ap one_at e ∙ exact.again b y fit_b) in
    (ap (λ (p : A × List ℕ). p.0) same, ap (λ (p : A × List ℕ). p.1) same)

-- ---- what is read of all the bytes

pub whole_is : {A : Type 0} (one_at : Reader A) (spell : A → List ℕ) (Fit : A → Type 0) → Exact one_at spell Fit
    → (bytes : List ℕ) (x : A) (rest : List ℕ) → AreBytes bytes → one_at bytes ≡ Some (x, rest) → length rest ≡ 0 → (bytes ≡ spell x) × Fit x
whole_is one_at spell Fit exact bytes x [] fits e none =
    let t = exact.takes bytes (x, []) fits e in (t.parts ∙ append-nil (spell x), t.fits)
whole_is one_at spell Fit exact bytes x (b ∷ rest) fits e none = absurd (omega (arith, none))

-- so are the spellings of things
read_again : {A : Type 0} (one_at : Reader A) (spell : A → List ℕ) (Fit : A → Type 0) → Exact one_at spell Fit
    → (bytes : List ℕ) (x : A) → Fit x → bytes ≡ spell x → one_at bytes ≡ Some (x, [])
read_again one_at spell Fit exact bytes x fit is = ap one_at (is ∙ sym (append-nil (spell x))) ∙ exact.again x [] fit

pub not_whole : {A : Type 0} (one_at : Reader A) (spell : A → List ℕ) (Fit : A → Type 0) → Exact one_at spell Fit
    → (bytes : List ℕ) (y : A) (rest : List ℕ) → one_at bytes ≡ Some (y, rest) → 0 < length rest → (x : A) → Fit x → bytes ≢ spell x
not_whole {A} one_at spell Fit exact bytes y rest e some x fit is =
    let same = some_is (y, rest) (x, []) (sym e ∙ read_again one_at spell Fit exact bytes x fit is) in
    let empty : length rest ≡ 0 = ap (λ (p : A × List ℕ). length p.1) same in
    absurd (omega (arith, some, empty))

pub none_whole : {A : Type 0} (one_at : Reader A) (spell : A → List ℕ) (Fit : A → Type 0) → Exact one_at spell Fit
    → (bytes : List ℕ) → one_at bytes ≡ None → (x : A) → Fit x → bytes ≢ spell x
none_whole one_at spell Fit exact bytes e x fit is = none-some (x, []) (sym e ∙ read_again one_at spell Fit exact bytes x fit is)

-- ---- what was written behind the number of a kind is read again

pub mapped_again : {A B : Type 0} (one_at : Reader A) (spell : A → List ℕ) (Fit : A → Type 0) (make : A → B) → Exact one_at spell Fit
    → (a : A) (rest : List ℕ) → Fit a → mapped_at make one_at (spell a ++ rest) ≡ Some (make a, rest)
mapped_again one_at spell Fit make exact a rest fit = rw (exact.again a rest fit) refl

-- a kind without anything behind it
pub bare_kind : {B : Type 0} (whole : B → List ℕ) (FitB : B → Type 0) (b : B) (kind : ℕ) (bytes : List ℕ) (x : B × List ℕ)
    → whole b ≡ kind ∷ [] → FitB b → just (b, bytes) ≡ Some x → Taken whole FitB (kind ∷ bytes) x
bare_kind {B} whole FitB b kind bytes x spelled fit e =
    subst (λ (y : B × List ℕ). Taken whole FitB (kind ∷ bytes) y) {x = (b, bytes)} (some_is (b, bytes) x e)
    (record { parts = ap (λ (t : List ℕ). t ++ bytes) (sym spelled); fits = fit })
