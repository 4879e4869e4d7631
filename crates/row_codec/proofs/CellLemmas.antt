-- A value is read from the bytes that it was packed into.
use Rattle.std.proofs.Common.{◌≡◌, ℕ, ◌-◌, ◌^◌, ◌<◌, ◌≤◌, true, false, cond, List, ◌++◌, length, take, replicate, ℤ, pos, negsuc, nat_abs, None, Result, Ok, Err, refl, ap, ap₂, ◌∙◌, arith, length-append, FitsSigned}
use Rattle.std.proofs.lemmas.Bool.{le-ltb, lt-ltb}
use Rattle.std.proofs.lemmas.Bool.Decides.{nat_tests}
use Rattle.std.proofs.lemmas.Int.{ints, to_z-of_z}
use Rattle.std.proofs.lemmas.List.{length-replicate, take_at, drop_at}
use Rattle.std.proofs.lemmas.Nat.{from_be_bytes-to_be_bytes_2, from_be_bytes-to_be_bytes_4, from_be_bytes-to_be_bytes_8}
use Rattle.std.specs.Int.{w8, w16, w32, w64, to_be_bytes, from_be_bytes, cast_unsigned, cast_signed}
use Rattle.std.specs.Ordering.{int_eq}
use Rattle.volt_value.specs.declared.value.Value.{Value}
use Rattle.volt_value.specs.declared.value.Value.TheVariants.{Null, Int, Text}
use Rattle.volt_value.specs.declared.column.ColType.{ColType}
use Rattle.volt_value.specs.declared.column.ColType.TheVariants.{Tiny, Small, Integer, Big, Varchar}
use Rattle.volt_value.specs.declared.column.Misfit.{Misfit}
use Rattle.volt_value.specs.Columns.{value_fits}
use Rattle.row_codec.specs.declared.field.Field.{Field}
use Rattle.row_codec.specs.Cells.{cell_width, cell_bytes, value_of, text_of, cell_value}
use Rattle.row_codec.specs.Faults.{misfit_fault, value_fault}

-- a value without a fault fits
misfit_none : (r : Result (Unit {0}) Misfit) → misfit_fault r ≡ None → r ≡ Ok tt
misfit_none (Ok u) h = refl
misfit_none (Err Misfit.OutOfRange) h = absurd cc
misfit_none (Err Misfit.TooLong) h = absurd cc
misfit_none (Err Misfit.WrongClass) h = absurd cc

pub fits_from_fault : (field : Field) (value : Value) → value_fault field value ≡ None → value_fits value field.kind ≡ Ok tt
fits_from_fault field Null h = refl
fits_from_fault field (Int z) h = misfit_none (value_fits (Int z) field.kind) h
fits_from_fault field (Text t) h = misfit_none (value_fits (Text t) field.kind) h

-- ---- integers

fits_tiny : (z : ℤ) → value_fits (Int z) Tiny ≡ Ok tt → nat_abs z ≤ 127
fits_tiny z h = grind (arith, nat_tests)

fits_small : (z : ℤ) → value_fits (Int z) Small ≡ Ok tt → nat_abs z ≤ 32767
fits_small z h = grind (arith, nat_tests)

fits_integer : (z : ℤ) → value_fits (Int z) Integer ≡ Ok tt → nat_abs z ≤ 2147483647
fits_integer z h = grind (arith, nat_tests)

fits_big : (z : ℤ) → value_fits (Int z) Big ≡ Ok tt → nat_abs z ≤ 9223372036854775807
fits_big z h = grind (arith, nat_tests)

not_null : (z : ℤ) (n : ℕ) → nat_abs z ≤ n → int_eq z (negsuc n) ≡ false
not_null (pos m) n h = refl
not_null (negsuc m) n h = grind (arith, ints, nat_tests)

null_itself : (n : ℕ) → int_eq (negsuc n) (negsuc n) ≡ true
null_itself n = grind (arith, ints, nat_tests)

-- the value is the one of its integer
integer_back : (n : ℕ) (z : ℤ) → nat_abs z ≤ n → value_of (negsuc n) z ≡ Int z
integer_back n z h = ap (λ b. cond b Null (Int z)) (not_null z n h)

null_back : (n : ℕ) → value_of (negsuc n) (negsuc n) ≡ Null
null_back n = ap (λ b. cond b Null (Int (negsuc n))) (null_itself n)

byte_back : (n : ℕ) → n < 2 ^ 8 → from_be_bytes w8 (to_be_bytes w8 n) ≡ n
byte_back n h = omega arith

tiny_back : (z : ℤ) → FitsSigned w8 z → cast_signed w8 (from_be_bytes w8 (to_be_bytes w8 (cast_unsigned w8 z))) ≡ z
tiny_back z h = ap (cast_signed w8) (byte_back (cast_unsigned w8 z) (unsigned_below z h)) ∙ to_z-of_z w8 z h
  where
    unsigned_below : (z : ℤ) → FitsSigned w8 z → cast_unsigned w8 z < 2 ^ 8
    unsigned_below (pos n) h = omega (arith, ints)
    unsigned_below (negsuc n) h = omega (arith, ints)

small_back : (z : ℤ) → FitsSigned w16 z → cast_signed w16 (from_be_bytes w16 (to_be_bytes w16 (cast_unsigned w16 z))) ≡ z
small_back z h = ap (cast_signed w16) (from_be_bytes-to_be_bytes_2 (cast_unsigned w16 z) (unsigned_below z h)) ∙ to_z-of_z w16 z h
  where
    unsigned_below : (z : ℤ) → FitsSigned w16 z → cast_unsigned w16 z < 2 ^ 16
    unsigned_below (pos n) h = omega (arith, ints)
    unsigned_below (negsuc n) h = omega (arith, ints)

word_back : (z : ℤ) → FitsSigned w32 z → cast_signed w32 (from_be_bytes w32 (to_be_bytes w32 (cast_unsigned w32 z))) ≡ z
word_back z h = ap (cast_signed w32) (from_be_bytes-to_be_bytes_4 (cast_unsigned w32 z) (unsigned_below z h)) ∙ to_z-of_z w32 z h
  where
    unsigned_below : (z : ℤ) → FitsSigned w32 z → cast_unsigned w32 z < 2 ^ 32
    unsigned_below (pos n) h = omega (arith, ints)
    unsigned_below (negsuc n) h = omega (arith, ints)

big_back : (z : ℤ) → FitsSigned w64 z → cast_signed w64 (from_be_bytes w64 (to_be_bytes w64 (cast_unsigned w64 z))) ≡ z
big_back z h = ap (cast_signed w64) (from_be_bytes-to_be_bytes_8 (cast_unsigned w64 z) (unsigned_below z h)) ∙ to_z-of_z w64 z h
  where
    unsigned_below : (z : ℤ) → FitsSigned w64 z → cast_unsigned w64 z < 2 ^ 64
    unsigned_below (pos n) h = omega (arith, ints)
    unsigned_below (negsuc n) h = omega (arith, ints)

-- ---- texts

text_back : (most : ℕ) (t : List ℕ) → length t ≤ most → most < 65535 → cell_value (Varchar most) (cell_bytes (Varchar most) (Text t)) ≡ Text t
text_back most t short limit =
    let head = to_be_bytes w16 (length t) in
    let tail = t ++ replicate (most - length t) 0 in
    ap₂ (λ (a b : List ℕ). text_of most (from_be_bytes w16 a) b) (take_at head tail 2 refl) (drop_at head tail 2 refl)
    ∙ ap (λ n. text_of most n tail) (from_be_bytes-to_be_bytes_2 (length t) (omega arith))
    ∙ ap (λ b. cond b Null (Text (take (length t) tail))) (le-ltb most (length t) short)
    ∙ ap Text (take_at t (replicate (most - length t) 0) (length t) refl)

no_text_back : (most : ℕ) → most < 65535 → cell_value (Varchar most) (cell_bytes (Varchar most) Null) ≡ Null
no_text_back most limit =
    let head = to_be_bytes w16 65535 in
    let tail = replicate most 0 in
    ap₂ (λ (a b : List ℕ). text_of most (from_be_bytes w16 a) b) (take_at head tail 2 refl) (drop_at head tail 2 refl)
    ∙ ap (λ b. cond b Null (Text (take 65535 tail))) (lt-ltb most 65535 limit)

fits_text : (most : ℕ) (t : List ℕ) → value_fits (Text t) (Varchar most) ≡ Ok tt → length t ≤ most
fits_text most t h = grind (arith, nat_tests)

no_integer : (most : ℕ) (z : ℤ) → value_fits (Int z) (Varchar most) ≡ Ok tt → ⊥
no_integer most z h = grind (arith, nat_tests)

-- ---- values

pub value_back : (kind : ColType) (value : Value) → value_fits value kind ≡ Ok tt → cell_width kind ≤ 8192 → cell_value kind (cell_bytes kind value) ≡ value
value_back Tiny Null h limit = ap (value_of (negsuc 127)) (tiny_back (negsuc 127) (omega (arith, ints))) ∙ null_back 127
value_back Tiny (Int z) h limit = let b = fits_tiny z h in ap (value_of (negsuc 127)) (tiny_back z (omega (arith, ints))) ∙ integer_back 127 z b
value_back Tiny (Text t) h limit = absurd cc
value_back Small Null h limit = ap (value_of (negsuc 32767)) (small_back (negsuc 32767) (omega (arith, ints))) ∙ null_back 32767
value_back Small (Int z) h limit = let b = fits_small z h in ap (value_of (negsuc 32767)) (small_back z (omega (arith, ints))) ∙ integer_back 32767 z b
value_back Small (Text t) h limit = absurd cc
value_back Integer Null h limit = ap (value_of (negsuc 2147483647)) (word_back (negsuc 2147483647) (omega (arith, ints))) ∙ null_back 2147483647
value_back Integer (Int z) h limit = let b = fits_integer z h in ap (value_of (negsuc 2147483647)) (word_back z (omega (arith, ints))) ∙ integer_back 2147483647 z b
value_back Integer (Text t) h limit = absurd cc
value_back Big Null h limit = ap (value_of (negsuc 9223372036854775807)) (big_back (negsuc 9223372036854775807) (omega (arith, ints))) ∙ null_back 9223372036854775807
value_back Big (Int z) h limit = let b = fits_big z h in ap (value_of (negsuc 9223372036854775807)) (big_back z (omega (arith, ints))) ∙ integer_back 9223372036854775807 z b
value_back Big (Text t) h limit = absurd cc
value_back (Varchar most) Null h limit = no_text_back most (omega arith)
value_back (Varchar most) (Int z) h limit = absurd (no_integer most z h)
value_back (Varchar most) (Text t) h limit = text_back most t (fits_text most t h) (omega arith)

pub width_is : (kind : ColType) (value : Value) → value_fits value kind ≡ Ok tt → length (cell_bytes kind value) ≡ cell_width kind
width_is Tiny value h = refl
width_is Small value h = refl
width_is Integer value h = refl
width_is Big value h = refl
width_is (Varchar most) Null h = omega (arith, length-replicate {A = ℕ} most 0)
width_is (Varchar most) (Int z) h = omega (arith, length-replicate {A = ℕ} most 0)
width_is (Varchar most) (Text t) h = let b = fits_text most t h in omega (arith, length-append t (replicate (most - length t) 0), length-replicate {A = ℕ} (most - length t) 0)
