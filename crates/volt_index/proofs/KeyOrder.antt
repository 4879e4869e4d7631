-- The byte order of the spellings of lists is the order of the lists.
use Rattle.std.proofs.Common.{◌≡◌, ℕ, zero, suc, ◌+◌, ◌*◌, ◌/◌, ◌%◌, ◌^◌, ◌<◌, ◌≤◌, List, [], ◌∷◌, ◌++◌, length, take, drop, map, ℤ, pos, negsuc, inl, inr, refl, sym, ap, ap₂, ◌∙◌, arith, append_assoc, add_comm, FitsSigned}
use Rattle.std.proofs.Math.Nat.{pow-suc, mul-suc, mul-le-mul_right}
use Rattle.std.proofs.lemmas.Bool.{cases_lt}
use Rattle.std.proofs.lemmas.Bool.Decides.{nat_tests}
use Rattle.std.proofs.lemmas.Int.{ints}
use Rattle.std.proofs.lemmas.List.{take-append-drop}
use Rattle.std.proofs.lemmas.Nat.{pow-add, pow_pos, mod-pow-add, mod_below}
use Rattle.std.specs.Int.{w64, to_be_bytes, bytes_high_first, byte_at}
use Rattle.std.specs.Cmp.Lexicographic.{slice_cmp}
use Rattle.std.specs.Ordering.{nat_cmp, int_cmp, ordering_then}
use Rattle.std.specs.declared.cmp.Ordering.{Ordering}
use Rattle.std.specs.declared.cmp.Ordering.TheVariants.{Less, Equal, Greater}
use Rattle.volt_value.specs.declared.value.Value.{Value}
use Rattle.volt_value.specs.declared.value.Value.TheVariants.{Null, Int, Text}
use Rattle.volt_value.specs.Order.{value_cmp}
use Rattle.volt_index.specs.Keys.{raised, value_key, key_bytes, end_bytes, IsHeld, AreHeld, before_end}

then_assoc : (a b c : Ordering) → ordering_then (ordering_then a b) c ≡ ordering_then a (ordering_then b c)
then_assoc Less b c = refl
then_assoc Equal b c = refl
then_assoc Greater b c = refl

-- ---- integers

less : (m n : ℕ) → m < n → nat_cmp m n ≡ Less
less m n h = grind (arith, nat_tests)

greater : (m n : ℕ) → n < m → nat_cmp m n ≡ Greater
greater m n h = grind (arith, nat_tests)

same : (n : ℕ) → nat_cmp n n ≡ Equal
same n = grind (arith, nat_tests)

scaled_below : (a b q r s : ℕ) → a < b → r < q → a * q + r < b * q + s
scaled_below a b q r s lt below = omega (arith, mul-le-mul_right q (let h : suc a ≤ b = omega arith in h))

-- the high part decides, and then the low one
scaled : (a b q r s : ℕ) → r < q → s < q → nat_cmp (a * q + r) (b * q + s) ≡ ordering_then (nat_cmp a b) (nat_cmp r s)
scaled a b q r s r-below s-below = elim (cases_lt a b) [
  | inl lt ↦ rw (less a b lt) (less _ _ (scaled_below a b q r s lt r-below))
  | inr le ↦ elim (cases_lt b a) [
    | inl gt ↦ rw (greater a b gt) (greater _ _ (scaled_below b a q s r gt s-below))
    | inr ge ↦
        let e : a ≡ b = omega arith in
        rw (e, same b) (grind (arith, nat_tests))
  ]
]

pow_256 : (i : ℕ) → 256 ^ i ≡ 2 ^ (8 * i)
pow_256 zero = refl
pow_256 (suc i) = pow-suc 256 i ∙ ap (λ n. n * 256) (pow_256 i) ∙ sym (pow-add 2 (8 * i) 8) ∙ ap (λ n. 2 ^ n) (sym (mul-suc 8 i))

byte_is : (i n : ℕ) → byte_at i n ≡ n / 2 ^ (8 * i) % 2 ^ 8
byte_is zero n = omega arith
byte_is (suc i) n = ap (λ m. n / m % 256) (pow_256 (suc i))

-- the bytes of which there are k, of the rest of a number
rest_of : ℕ → ℕ → ℕ
rest_of k n = n % 2 ^ (8 * k)

rest_more : (k n : ℕ) → rest_of (suc k) n ≡ (n / 2 ^ (8 * k) % 2 ^ 8) * 2 ^ (8 * k) + rest_of k n
unfolding rest_of
rest_more k n = ap (λ e. n % 2 ^ e) (mul-suc 8 k ∙ add_comm (8 * k) 8) ∙ mod-pow-add n 8 (8 * k)

rest_below : (k n : ℕ) → rest_of k n < 2 ^ (8 * k)
unfolding rest_of
rest_below k n = mod_below n (2 ^ (8 * k)) (pow_pos (8 * k))

rest_step : (k m n : ℕ) → nat_cmp (rest_of (suc k) m) (rest_of (suc k) n) ≡ ordering_then (nat_cmp (byte_at k m) (byte_at k n)) (nat_cmp (rest_of k m) (rest_of k n))
rest_step k m n =
    ap₂ nat_cmp (rest_more k m) (rest_more k n)
    ∙ scaled _ _ (2 ^ (8 * k)) (rest_of k m) (rest_of k n) (rest_below k m) (rest_below k n)
    ∙ ap₂ (λ (a b : ℕ). ordering_then (nat_cmp a b) (nat_cmp (rest_of k m) (rest_of k n))) (sym (byte_is k m)) (sym (byte_is k n))

rest_none : (n : ℕ) → rest_of 0 n ≡ 0
unfolding rest_of
rest_none n = omega arith

bytes_step : (k m n : ℕ) (x y : List ℕ) → slice_cmp nat_cmp (bytes_high_first k m ++ x) (bytes_high_first k n ++ y)
    ≡ ordering_then (nat_cmp (rest_of k m) (rest_of k n)) (slice_cmp nat_cmp x y)
bytes_step zero m n x y = rw (rest_none m, rest_none n) refl
bytes_step (suc k) m n x y =
    ap (ordering_then (nat_cmp (byte_at k m) (byte_at k n))) (bytes_step k m n x y)
    ∙ sym (then_assoc (nat_cmp (byte_at k m) (byte_at k n)) (nat_cmp (rest_of k m) (rest_of k n)) (slice_cmp nat_cmp x y))
    ∙ ap (λ o. ordering_then o (slice_cmp nat_cmp x y)) (sym (rest_step k m n))

rest_all : (n : ℕ) → n < 2 ^ 64 → rest_of 8 n ≡ n
unfolding rest_of
rest_all n fits = omega arith

-- eight bytes decide as the number that they spell, and then the rest
pub words_first : (a b : List ℕ) (m n : ℕ) → to_be_bytes w64 m ≡ take 8 a → to_be_bytes w64 n ≡ take 8 b → m < 2 ^ 64 → n < 2 ^ 64
    → slice_cmp nat_cmp a b ≡ ordering_then (nat_cmp m n) (slice_cmp nat_cmp (drop 8 a) (drop 8 b))
words_first a b m n a-is b-is m-fits n-fits =
    ap₂ (slice_cmp nat_cmp) (sym (take-append-drop 8 a) ∙ ap (λ front. front ++ drop 8 a) (sym a-is)) (sym (take-append-drop 8 b) ∙ ap (λ front. front ++ drop 8 b) (sym b-is))
    ∙ bytes_step 8 m n (drop 8 a) (drop 8 b)
    ∙ ap₂ (λ (x y : ℕ). ordering_then (nat_cmp x y) (slice_cmp nat_cmp (drop 8 a) (drop 8 b))) (rest_all m m-fits) (rest_all n n-fits)

raised_below : (z : ℤ) → FitsSigned w64 z → raised z < 2 ^ 64
raised_below (pos n) fits = omega (arith, ints)
raised_below (negsuc n) fits = omega (arith, ints)

raised_cmp : (a b : ℤ) → FitsSigned w64 a → FitsSigned w64 b → nat_cmp (raised a) (raised b) ≡ int_cmp a b
raised_cmp (pos a) (pos b) f g = grind (arith, ints, nat_tests)
raised_cmp (pos a) (negsuc b) f g = grind (arith, ints, nat_tests)
raised_cmp (negsuc a) (pos b) f g = grind (arith, ints, nat_tests)
raised_cmp (negsuc a) (negsuc b) f g = grind (arith, ints, nat_tests)

integer_step : (a b : ℤ) (x y : List ℕ) → FitsSigned w64 a → FitsSigned w64 b → slice_cmp nat_cmp (to_be_bytes w64 (raised a) ++ x) (to_be_bytes w64 (raised b) ++ y)
    ≡ ordering_then (int_cmp a b) (slice_cmp nat_cmp x y)
integer_step a b x y f g =
    bytes_step 8 (raised a) (raised b) x y
    ∙ ap₂ (λ (m n : ℕ). ordering_then (nat_cmp m n) (slice_cmp nat_cmp x y)) (rest_all (raised a) (raised_below a f)) (rest_all (raised b) (raised_below b g))
    ∙ ap (λ o. ordering_then o (slice_cmp nat_cmp x y)) (raised_cmp a b f g)

-- ---- texts

next_cmp : (m n : ℕ) → nat_cmp (m + 1) (n + 1) ≡ nat_cmp m n
next_cmp m n = grind (arith, nat_tests)

text_step : (t u x y : List ℕ) → slice_cmp nat_cmp ((map (λ byte. byte + 1) t ++ 0 ∷ []) ++ x) ((map (λ byte. byte + 1) u ++ 0 ∷ []) ++ y)
    ≡ ordering_then (slice_cmp nat_cmp t u) (slice_cmp nat_cmp x y)
text_step [] [] x y = refl
text_step [] (c ∷ u) x y = rw (less 0 (c + 1) (omega arith)) refl
text_step (b ∷ t) [] x y = rw (greater (b + 1) 0 (omega arith)) refl
text_step (b ∷ t) (c ∷ u) x y =
    ap₂ ordering_then (next_cmp b c) (text_step t u x y) ∙ sym (then_assoc (nat_cmp b c) (slice_cmp nat_cmp t u) (slice_cmp nat_cmp x y))

-- ---- values

value_step : (a b : Value) (x y : List ℕ) → IsHeld a → IsHeld b → slice_cmp nat_cmp (value_key a ++ x) (value_key b ++ y) ≡ ordering_then (value_cmp a b) (slice_cmp nat_cmp x y)
value_step Null Null x y f g = refl
value_step Null (Int b) x y f g = refl
value_step Null (Text u) x y f g = refl
value_step (Int a) Null x y f g = refl
value_step (Int a) (Int b) x y f g = integer_step a b x y f g
value_step (Int a) (Text u) x y f g = refl
value_step (Text t) Null x y f g = refl
value_step (Text t) (Int b) x y f g = refl
value_step (Text t) (Text u) x y f g = text_step t u x y

-- ---- lists of values

-- the first byte of a list that isn't empty is there, and below the end's
begins : (value : Value) (x : List ℕ) → (byte : ℕ) × (rest : List ℕ) × (value_key value ++ x ≡ byte ∷ rest) × (byte < 3)
begins Null x = (0, x, refl, omega arith)
begins (Int z) x = (1, to_be_bytes w64 (raised z) ++ x, refl, omega arith)
begins (Text t) x = (2, (map (λ byte. byte + 1) t ++ 0 ∷ []) ++ x, refl, omega arith)

pub key_order : (xs ys : List Value) → AreHeld xs → AreHeld ys → slice_cmp nat_cmp (key_bytes xs) (key_bytes ys) ≡ slice_cmp value_cmp xs ys
key_order [] [] f g = refl
key_order [] (y ∷ ys) f g = let h = begins y (key_bytes ys) in rw h.2 refl
key_order (x ∷ xs) [] f g = let h = begins x (key_bytes xs) in rw h.2 refl
key_order (x ∷ xs) (y ∷ ys) f g =
    value_step x y (key_bytes xs) (key_bytes ys) f.0 g.0 ∙ ap (ordering_then (value_cmp x y)) (key_order xs ys f.1 g.1)

then_before_end : (o p : Ordering) → ordering_then o (before_end p) ≡ before_end (ordering_then o p)
then_before_end Less p = refl
then_before_end Equal p = refl
then_before_end Greater p = refl

-- a list ys against the end of xs
pub end_order : (xs ys : List Value) → AreHeld xs → AreHeld ys → slice_cmp nat_cmp (key_bytes ys) (end_bytes xs) ≡ before_end (slice_cmp value_cmp (take (length xs) ys) xs)
end_order [] [] f g = refl
end_order [] (y ∷ ys) f g = let h = begins y (key_bytes ys) in rw (h.2, less h.0 3 h.3) refl
end_order (x ∷ xs) [] f g = let h = begins x (key_bytes xs ++ 3 ∷ []) in rw (append_assoc, h.2) refl
end_order (x ∷ xs) (y ∷ ys) f g =
    ap (slice_cmp nat_cmp (key_bytes (y ∷ ys))) (append_assoc (value_key x) (key_bytes xs) (3 ∷ []))
    ∙ value_step y x (key_bytes ys) (end_bytes xs) g.0 f.0
    ∙ ap (ordering_then (value_cmp y x)) (end_order xs ys f.1 g.1)
    ∙ then_before_end (value_cmp y x) (slice_cmp value_cmp (take (length xs) ys) xs)

then_equal : (o p : Ordering) → ordering_then o p ≡ Equal → (o ≡ Equal) × (p ≡ Equal)
then_equal Less p e = absurd cc
then_equal Equal p e = (refl, e)
then_equal Greater p e = absurd cc

same_lists : ((a b : Value) → value_cmp a b ≡ Equal → a ≡ b) → (xs ys : List Value) → slice_cmp value_cmp xs ys ≡ Equal → xs ≡ ys
same_lists exact [] [] e = refl
same_lists exact [] (y ∷ ys) e = absurd cc
same_lists exact (x ∷ xs) [] e = absurd cc
same_lists exact (x ∷ xs) (y ∷ ys) e = let parts = then_equal (value_cmp x y) (slice_cmp value_cmp xs ys) e in ap₂ (λ a b. a ∷ b) (exact x y parts.0) (same_lists exact xs ys parts.1)

equal_itself : (bytes : List ℕ) → slice_cmp nat_cmp bytes bytes ≡ Equal
equal_itself [] = refl
equal_itself (b ∷ bytes) = rw (same b) (equal_itself bytes)

-- a spelling is of one list
pub same_keys : ((a b : Value) → value_cmp a b ≡ Equal → a ≡ b) → (xs ys : List Value) → AreHeld xs → AreHeld ys → key_bytes xs ≡ key_bytes ys → xs ≡ ys
same_keys exact xs ys f g e =
    same_lists exact xs ys (sym (key_order xs ys f g) ∙ ap (slice_cmp nat_cmp (key_bytes xs)) (sym e) ∙ equal_itself (key_bytes xs))
