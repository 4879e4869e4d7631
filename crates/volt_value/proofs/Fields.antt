-- Integers and texts: what is read is what was written, and what was written is read again.
use Rattle.std.proofs.Common.{◌≡◌, ℕ, suc, ◌+◌, ◌^◌, ◌<◌, ◌≤◌, Bool, cond, true, false, List, ◌∷◌, ◌++◌, length, get_or, take, drop, ℤ, pos, negsuc, Option, Some, None, nat_lt, arith, refl, sym, ap, ◌∙◌, inl, inr, IsTrue}
use Rattle.std.specs.Int.{w32, w64, from_be_bytes, to_be_bytes, cast_signed, cast_unsigned}
use Rattle.std.specs.Str.{IsUtf8, is_utf8}
use Rattle.std.proofs.lemmas.Int.{fits_signed_from_abs}
use Rattle.std.proofs.lemmas.Bool.{cases_lt, ltb-false, le-ltb}
use Rattle.std.proofs.lemmas.Bool.Decides.{nat_tests}
use Rattle.std.proofs.lemmas.Int.{of_z-to_z, to_z-of_z}
use Rattle.std.proofs.lemmas.List.{take_at, drop_at, drop-drop, take-append-drop, length-append, length-take, length-drop, get_or-take, get_or_past}
use Rattle.std.proofs.lemmas.Nat.{be_bytes_4, be_bytes_8, from_be_bytes-to_be_bytes_4, from_be_bytes-to_be_bytes_8}
use Rattle.std.proofs.lemmas.Option.{cond_some}
use Rattle.std.proofs.lemmas.Str.{IsUtf8-from_is_utf8, is_utf8-from_IsUtf8}
use Rattle.volt_value.specs.Values.{is_bigint}
use Rattle.volt_value.specs.Reading.{if_bigint, integer_at, if_utf8, text_of_length, text_at}

abbrev pub IsBytes : List ℕ → Type 0
IsBytes bytes = (i : ℕ) → get_or bytes i 0 < 256

pub IsBytes-rest : (b : ℕ) (bytes : List ℕ) → IsBytes (b ∷ bytes) → IsBytes bytes
IsBytes-rest b bytes h i = h (suc i)

IsBytes-take : (n : ℕ) (bytes : List ℕ) → IsBytes bytes → IsBytes (take n bytes)
IsBytes-take n bytes h i =
    elim (cases_lt i n) [
      | inl lt ↦ rw (get_or-take n bytes i 0 lt) (h i)
      | inr le ↦ rw (get_or_past (take n bytes) i 0 (omega (arith, length-take n bytes))) (omega arith)
    ]

-- a test that did not fail, before a value that is there
guard_some : {A : Type 0} (b : Bool) (r : Option A) (y : A) → cond b None r ≡ Some y → (b ≡ false) × (r ≡ Some y)
guard_some true r y e = absurd cc
guard_some false r y e = (refl, e)

-- ---- integers

-- what was read from eight bytes
pub record IsInteger (bytes : List ℕ) (z : ℤ) : Type 0 where
  pub spelled : bytes ≡ to_be_bytes w64 (cast_unsigned w64 z) ++ drop 8 bytes
  pub within : 8 ≤ length bytes
  pub is_value : IsTrue (is_bigint z)

pub integer_is : (bytes : List ℕ) (z : ℤ) → IsBytes bytes → integer_at bytes ≡ Some z → IsInteger bytes z
unfolding integer_at
integer_is bytes z fits e =
    let prefix = take 8 bytes in
    let number = from_be_bytes w64 prefix in
    let g = guard_some (nat_lt (length bytes) 8) (if_bigint (cast_signed w64 number)) z e in
    let long : 8 ≤ length bytes = ltb-false _ _ g.0 in
    let read = cond_some (is_bigint (cast_signed w64 number)) (cast_signed w64 number) z g.1 in
    let bytes_fit = IsBytes-take 8 bytes fits in
    let below : number < 2 ^ 64 = omega (arith, bytes_fit 0, bytes_fit 1, bytes_fit 2, bytes_fit 3, bytes_fit 4, bytes_fit 5, bytes_fit 6, bytes_fit 7) in
    let same : cast_unsigned w64 z ≡ number = rw (← read.1) (of_z-to_z w64 number below) in
    let back : to_be_bytes w64 number ≡ prefix = be_bytes_8 prefix number (omega (arith, length-take 8 bytes)) bytes_fit refl in
    record {
      spelled = sym (ap (λ n. to_be_bytes w64 n ++ drop 8 bytes) same ∙ ap (λ (f : List ℕ). f ++ drop 8 bytes) back ∙ take-append-drop 8 bytes);
      within = long;
      is_value = rw (← read.1) read.0;
    }

integer_at-prefix : (prefix rest : List ℕ) → length prefix ≡ 8 → integer_at (prefix ++ rest) ≡ if_bigint (cast_signed w64 (from_be_bytes w64 prefix))
unfolding integer_at
integer_at-prefix prefix rest len =
    let long : nat_lt (length (prefix ++ rest)) 8 ≡ false = le-ltb _ _ (omega (arith, length-append prefix rest)) in
    rw (long, take_at prefix rest 8 len) refl

unsigned_below : (z : ℤ) → IsTrue (is_bigint z) → cast_unsigned w64 z < 2 ^ 64
unsigned_below (pos n) fits = grind (arith, nat_tests)
unsigned_below (negsuc n) fits = grind (arith, nat_tests)

pub integer_again : (z : ℤ) (rest : List ℕ) → IsTrue (is_bigint z) → integer_at (to_be_bytes w64 (cast_unsigned w64 z) ++ rest) ≡ Some z
integer_again z rest fits =
    let number = cast_unsigned w64 z in
    let in_width = fits_signed_from_abs w64 z (grind (arith, nat_tests)) in
    let back = from_be_bytes-to_be_bytes_8 number (unsigned_below z fits) in
    integer_at-prefix (to_be_bytes w64 number) rest refl ∙ ap (λ n. if_bigint (cast_signed w64 n)) back ∙ ap if_bigint (to_z-of_z w64 z in_width) ∙ rw fits refl

-- ---- texts

-- what was read behind a length
pub record IsText (bytes t : List ℕ) : Type 0 where
  pub spelled : bytes ≡ to_be_bytes w32 (length t) ++ (t ++ drop (4 + length t) bytes)
  pub within : 4 + length t ≤ length bytes
  pub is_utf8 : IsUtf8 t
  pub short : length t < 2 ^ 32

pub text_is : (bytes t : List ℕ) → IsBytes bytes → text_at bytes ≡ Some t → IsText bytes t
unfolding text_at
text_is bytes t fits e =
    let prefix = take 4 bytes in
    let rest = drop 4 bytes in
    let len = from_be_bytes w32 prefix in
    let g = guard_some (nat_lt (length bytes) 4) (text_of_length len rest) t e in
    let long : 4 ≤ length bytes = ltb-false _ _ g.0 in
    let h = guard_some (nat_lt (length rest) len) (if_utf8 (take len rest)) t g.1 in
    let enough : len ≤ length rest = ltb-false _ _ h.0 in
    let read = cond_some (is_utf8 (take len rest)) (take len rest) t h.1 in
    let size : length t ≡ len = rw (← read.1) (omega (arith, length-take len rest)) in
    let bytes_fit = IsBytes-take 4 bytes fits in
    let back : to_be_bytes w32 len ≡ prefix = be_bytes_4 prefix len (omega (arith, length-take 4 bytes)) bytes_fit refl in
    record {
      spelled = sym (ap (λ n. to_be_bytes w32 n ++ (t ++ drop (4 + n) bytes)) size ∙ ap (λ (f : List ℕ). f ++ (t ++ drop (4 + len) bytes)) back
          ∙ ap (λ (r : List ℕ). prefix ++ (t ++ r)) (sym (drop-drop len 4 bytes)) ∙ ap (λ (s : List ℕ). prefix ++ (s ++ drop len rest)) (sym read.1)
          ∙ ap (λ (r : List ℕ). prefix ++ r) (take-append-drop len rest) ∙ take-append-drop 4 bytes);
      within = omega (arith, length-drop 4 bytes);
      is_utf8 = rw (← read.1) (IsUtf8-from_is_utf8 (take len rest) read.0);
      short = omega (arith, bytes_fit 0, bytes_fit 1, bytes_fit 2, bytes_fit 3);
    }

text_at-prefix : (prefix rest : List ℕ) → length prefix ≡ 4 → text_at (prefix ++ rest) ≡ text_of_length (from_be_bytes w32 prefix) rest
unfolding text_at
text_at-prefix prefix rest len =
    let long : nat_lt (length (prefix ++ rest)) 4 ≡ false = le-ltb _ _ (omega (arith, length-append prefix rest)) in
    rw (long, take_at prefix rest 4 len, drop_at prefix rest 4 len) refl

text_of_length-prefix : (t rest : List ℕ) → IsUtf8 t → text_of_length (length t) (t ++ rest) ≡ Some t
text_of_length-prefix t rest utf8 =
    let long : nat_lt (length (t ++ rest)) (length t) ≡ false = le-ltb _ _ (omega (arith, length-append t rest)) in
    rw (long, take_at t rest (length t) refl, is_utf8-from_IsUtf8 t utf8) refl

pub text_again : (t rest : List ℕ) → IsUtf8 t → length t < 2 ^ 32 → text_at (to_be_bytes w32 (length t) ++ (t ++ rest)) ≡ Some t
text_again t rest utf8 lt =
    text_at-prefix (to_be_bytes w32 (length t)) (t ++ rest) refl
    ∙ ap (λ n. text_of_length n (t ++ rest)) (from_be_bytes-to_be_bytes_4 (length t) lt) ∙ text_of_length-prefix t rest utf8

-- what the test of UTF-8 tells
pub ruleset utf8_tests = (IsUtf8-from_is_utf8, is_utf8-from_IsUtf8)
