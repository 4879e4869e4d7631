-- A valid call is the one that its body spells.
use Rattle.std.specs.Prelude.{◌≡◌, ℕ, suc, ℤ, pos, negsuc, Bool, true, List, [], Option, Some, None, FitsSigned, if◌then◌else◌}
use Rattle.std.specs.Int.{w64, from_be_bytes, to_be_bytes, cast_signed, cast_unsigned}
use Rattle.std.proofs.Common.{ap, ◌∙◌, lit<}
use Rattle.std.proofs.Math.Nat.{lt_of_le_of_lt, le_of_suc-le}
use Rattle.std.proofs.Math.Facts.{Fits-of_z}
use Rattle.std.proofs.lemmas.Bool.{leb-true, and_parts}
use Rattle.std.proofs.lemmas.Int.{to_z-of_z}
use Rattle.std.proofs.lemmas.Nat.{from_be_bytes-to_be_bytes_8}
use Rattle.volt_value.specs.declared.value.Value.TheVariants.{Int}
use Rattle.account_engine.specs.declared.call.AccountCall.{AccountCall}
use Rattle.account_engine.specs.declared.call.AccountCall.TheVariants.{Put, Get}
use Rattle.volt_value.specs.Values.{greatest, is_bigint}
use Rattle.account_engine.specs.Calls.{is_valid}
use Rattle.volt_value.specs.Spelling.{value_bytes}
use Rattle.account_engine.specs.Spelling.{body_of}
use Rattle.volt_base.specs.Reading.{◌>>=◌}
use Rattle.account_engine.specs.Reading.{if_value, if_ended, value_then_rest, call_of_body}

-- a value has 64 bits
fits_value : (z : ℤ) → is_bigint z ≡ true → FitsSigned w64 z
fits_value (pos n) held = record { sfits = lt_of_le_of_lt (leb-true n greatest held) (lit< tt) }
fits_value (negsuc n) held = record { sfits = lt_of_le_of_lt (le_of_suc-le (leb-true (suc n) greatest held)) (lit< tt) }

-- its bytes stand for it
integer_again : (z : ℤ) → is_bigint z ≡ true → cast_signed w64 (from_be_bytes w64 (to_be_bytes w64 (cast_unsigned w64 z))) ≡ z
integer_again z held =
    let fits : FitsSigned w64 z = fits_value z held in
    ap (cast_signed w64) (from_be_bytes-to_be_bytes_8 (cast_unsigned w64 z) (Fits-of_z fits).fits) ∙ to_z-of_z w64 z fits

-- so an integer that was read goes on as that value
goes_on : {A : Type 0} (f : ℤ × List ℕ → Option A) (z : ℤ) (rest : List ℕ) → is_bigint z ≡ true → if_value (cast_signed w64 (from_be_bytes w64 (to_be_bytes w64 (cast_unsigned w64 z)))) rest >>= f ≡ f (z, rest)
goes_on f z rest held =
    ap (λ (y : ℤ). if_value y rest >>= f) (integer_again z held) ∙ ap (λ (b : Bool). (if b then Some (z, rest) else None) >>= f) held

-- a value is read from its bytes
pub value_again : (z : ℤ) → is_bigint z ≡ true → value_then_rest (value_bytes (Int z)) ≡ Some (z, [])
value_again z held = ap (λ (y : ℤ). if_value y []) (integer_again z held) ∙ ap (λ (b : Bool). if b then Some (z, []) else None) held

-- and a call from its body
pub call_again : (c : AccountCall) → is_valid c ≡ true → call_of_body (body_of c) ≡ Some c
call_again (Put id balance) valid =
    let parts = and_parts (is_bigint id) (is_bigint balance) valid in
    goes_on (λ i. value_then_rest i.1 >>= λ b. if_ended b.1 (Put i.0 b.0)) id (value_bytes (Int balance)) parts.0
    ∙ goes_on (λ b. if_ended b.1 (Put id b.0)) balance [] parts.1
call_again (Get id) valid = goes_on (λ i. if_ended i.1 (Get i.0)) id [] valid
