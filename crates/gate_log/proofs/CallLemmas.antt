-- Calls of a disk, one after another.
use Rattle.std.proofs.Common.{◌≡◌, ℕ, zero, suc, ◌+◌, ◌≤◌, Result, refl, sym, ap, ◌∙◌, inl, inr, arith}
use Rattle.std.proofs.lemmas.Bool.{cases_lt}
use Rattle.std.proofs.lemmas.Result.{on_ok_weaker, on_err_weaker}
use Rattle.volt_base.specs.Faults.{Increased}
use Rattle.volt_disk.specs.declared.power.Power.{Power}
use Rattle.volt_disk.specs.Power.{after_call}
use Rattle.gate_log.specs.Calls.{after_calls, AtMostCalls, MakesCalls}

pub after_calls-add : (a b n : ℕ) (p : Power) → n ≡ a + b → after_calls n p ≡ after_calls b (after_calls a p)
after_calls-add zero b n p is = let same : n ≡ b = omega arith in rw same refl
after_calls-add (suc a) b zero p is = absurd (omega arith)
after_calls-add (suc a) b (suc n) p is = after_calls-add a b n (after_call p) (omega arith)

pub AtMostCalls-chain : (a b most : ℕ) (p q r : Power) → AtMostCalls a p q → AtMostCalls b q r → a + b ≤ most → AtMostCalls most p r
AtMostCalls-chain a b most p q r first second fits = record {
  calls = first.calls + second.calls;
  within = let low = first.within in let high = second.within in omega arith;
  made = second.made
      ∙ (ap (after_calls second.calls) first.made ∙ sym (after_calls-add first.calls second.calls (first.calls + second.calls) p refl));
}

-- exactly so many
pub AtMostCalls-all : (n most : ℕ) (p q : Power) → q ≡ after_calls n p → n ≤ most → AtMostCalls most p q
AtMostCalls-all n most p q made fits = record { calls = n; within = fits; made = made }

pub Increased-after : (a b c : ℕ) → a ≤ b → b ≤ c → Increased b c → Increased a c
Increased-after a b c low high (inl more) = inl (omega arith)
Increased-after a b c low high (inr full) =
    elim (cases_lt a b) [ inl less ↦ inl (omega arith) | inr same ↦ inr (omega arith) ]

pub MakesCalls-then : {T E : Type 0} (a b n : ℕ) (result : Result T E) (p q r : Power) (e f g : ℕ) → q ≡ after_calls a p → e ≤ f → MakesCalls b result q r f g → n ≡ a + b → MakesCalls n result p r e g
MakesCalls-then a b n result p q r e f g first low second sum = record {
  all = on_ok_weaker result (λ is. is ∙ (ap (after_calls b) first ∙ sym (after_calls-add a b n p sum))) second.all;
  some = on_err_weaker result (λ some. AtMostCalls-chain a b n p q r (AtMostCalls-all a a p q first (omega arith)) some (omega arith)) second.some;
  increases = on_err_weaker result (Increased-after e f g low second.never_falls) second.increases;
  never_falls = let high = second.never_falls in omega arith;
}
