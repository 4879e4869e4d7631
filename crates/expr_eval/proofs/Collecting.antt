-- Values and faults that are collected one after another.
use Rattle.std.proofs.Common.{◌≡◌, List, [], ◌∷◌, ◌++◌, filter_map, Option, Some, None, Result, refl, ap, sym, ◌∙◌, append_assoc, arith}
use Rattle.std.proofs.lemmas.Bool.Decides.{nat_tests}
use Rattle.sql_plan.specs.declared.fault.Fault.{Fault}
use Rattle.sql_meaning.specs.Judged.{lesser, least, least_fault, value_in, unless}

-- the least of three
lesser_assoc : (f g h : Fault) → lesser (lesser f g) h ≡ lesser f (lesser g h)
lesser_assoc f g h = grind (arith, nat_tests)

pub least_assoc : (a b c : Option Fault) → least (least a b) c ≡ least a (least b c)
least_assoc None b c = refl
least_assoc (Some f) None c = refl
least_assoc (Some f) (Some g) None = refl
least_assoc (Some f) (Some g) (Some h) = ap Some (lesser_assoc f g h)

-- what a value and what a fault adds to what was collected
pub one_value_more : {A : Type 0} → (xs : List A) (x : A) (rs : List (Result A Fault))
    → unless (least_fault rs) ((xs ++ x ∷ []) ++ filter_map value_in rs) ≡ unless (least_fault rs) (xs ++ x ∷ filter_map value_in rs)
one_value_more xs x rs = ap (unless (least_fault rs)) (append_assoc xs (x ∷ []) (filter_map value_in rs))

-- with a fault the values don't matter
pub faulty : {A : Type 0} → (f : Fault) (other : Option Fault) (xs ys : List A) → unless (least (Some f) other) xs ≡ unless (least (Some f) other) ys
faulty f None xs ys = refl
faulty f (Some g) xs ys = refl

pub one_fault_more : {A : Type 0} → (before : Option Fault) (f g : Fault) (xs ys : List A) (rs : List (Result A Fault))
    → least before (Some f) ≡ Some g → unless (least (Some g) (least_fault rs)) xs ≡ unless (least before (least (Some f) (least_fault rs))) ys
one_fault_more before f g xs ys rs e =
    faulty g (least_fault rs) xs ys ∙ ap (λ o. unless (least o (least_fault rs)) ys) (sym e) ∙ ap (λ o. unless o ys) (least_assoc before (Some f) (least_fault rs))
