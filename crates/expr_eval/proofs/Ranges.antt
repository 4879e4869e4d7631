-- Exact results, and the range of BIGINT.
use Rattle.std.proofs.Common.{◌≡◌, ℤ, false, Option, Some, None, Err, SomeIff, FitsSigned, ap, sym, arith}
use Rattle.std.specs.Int.{w64}
use Rattle.std.proofs.lemmas.Int.{ints}
use Rattle.std.proofs.lemmas.Bool.Decides.{nat_tests}
use Rattle.volt_value.specs.Values.{is_bigint}
use Rattle.sql_plan.specs.declared.fault.Fault.TheVariants.{Overflow}
use Rattle.sql_meaning.specs.Values.{in_range}
use Rattle.expr_eval.specs.Shown.{exactly}

-- what i64 doesn't hold is beyond the range
beyond : (z : ℤ) → (FitsSigned w64 z → ⊥) → is_bigint z ≡ false
beyond z h = grind (arith, ints, nat_tests)

overflows : (z : ℤ) → (FitsSigned w64 z → ⊥) → in_range z ≡ Err Overflow
overflows z h = rw (beyond z h)

pub is_exactly : (z : ℤ) (exact : Option ℤ) → SomeIff exact (FitsSigned w64 z) z → exactly exact ≡ in_range z
is_exactly z None h = sym (overflows z h)
is_exactly z (Some x) h = ap in_range h.1
