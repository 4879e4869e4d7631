-- The least of faults, in any order and over any parts.
use Rattle.std.proofs.Common.{◌≡◌, nat_le, Option, Some, None, sym, refl, ap, ◌∙◌, inl, inr, arith}
use Rattle.std.proofs.lemmas.Bool.{cases_Bool, leb-true, leb-false}
use Rattle.std.proofs.lemmas.Bool.Decides.{nat_tests}
use Rattle.sql_plan.specs.declared.fault.Fault.{Fault}
use Rattle.sql_plan.specs.declared.fault.Fault.TheVariants.{Overflow, DivideByZero, NullInColumn, OutOfRange, TooLong, WrongPartition, Duplicate, TooManyRows}
use Rattle.sql_plan.specs.Faults.{code_of, fault_of}
use Rattle.sql_meaning.specs.Judged.{lesser, least}

code_back : (f : Fault) → fault_of (code_of f) ≡ Some f
code_back Overflow = refl
code_back DivideByZero = refl
code_back NullInColumn = refl
code_back OutOfRange = refl
code_back TooLong = refl
code_back WrongPartition = refl
code_back Duplicate = refl
code_back TooManyRows = refl

inside : (f g : Fault) → Some f ≡ Some g → f ≡ g
inside f g e = cc

pub code-one : (f g : Fault) → code_of f ≡ code_of g → f ≡ g
code-one f g e = inside f g (sym (code_back f) ∙ ap fault_of e ∙ code_back g)

lesser-comm : (f g : Fault) → lesser f g ≡ lesser g f
lesser-comm f g =
    elim (cases_Bool (nat_le (code_of f) (code_of g))) [
      | inl le ↦ elim (cases_Bool (nat_le (code_of g) (code_of f))) [
        | inl ge ↦ rw (le, ge) (code-one f g (let a = leb-true (code_of f) (code_of g) le in let b = leb-true (code_of g) (code_of f) ge in omega arith))
        | inr lt ↦ rw (le, lt)
      ]
      | inr gt ↦ elim (cases_Bool (nat_le (code_of g) (code_of f))) [
        | inl ge ↦ rw (gt, ge)
        | inr lt ↦ absurd (let a = leb-false (code_of f) (code_of g) gt in let b = leb-false (code_of g) (code_of f) lt in omega arith)
      ]
    ]

lesser-assoc : (f g h : Fault) → lesser (lesser f g) h ≡ lesser f (lesser g h)
lesser-assoc f g h = grind (arith, nat_tests)

pub least-comm : (a b : Option Fault) → least a b ≡ least b a
least-comm None None = refl
least-comm None (Some g) = refl
least-comm (Some f) None = refl
least-comm (Some f) (Some g) = ap (λ x. Some x) (lesser-comm f g)

pub least-assoc : (a b c : Option Fault) → least (least a b) c ≡ least a (least b c)
least-assoc None b c = refl
least-assoc (Some f) None c = refl
least-assoc (Some f) (Some g) None = refl
least-assoc (Some f) (Some g) (Some h) = ap (λ x. Some x) (lesser-assoc f g h)

pub least-none : (a : Option Fault) → least a None ≡ a
least-none None = refl
least-none (Some f) = refl

pub least-same : (a : Option Fault) → least a a ≡ a
least-same None = refl
least-same (Some f) = grind (arith, nat_tests)
