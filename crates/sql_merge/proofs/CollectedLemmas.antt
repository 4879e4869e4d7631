-- What is judged one by one. Of groups each fault is that of a sum, so that the first one is the least.
use Rattle.std.proofs.Common.{◌≡◌, ℕ, ◌+◌, ◌<◌, drop, length, nat_le, if◌then◌else◌, true, false, Bool, List, [], ◌∷◌, ◌++◌, map, ℤ, Option, Some, None, Result, Ok, Err, sym, refl, ap, ◌∙◌, append_assoc}
use Rattle.std.specs.List.{filter_map}
use Rattle.std.proofs.Math.ListN.{get_or}
use Rattle.std.proofs.lemmas.List.{at_drop_more}
use Rattle.volt_value.specs.declared.value.Value.{Value}
use Rattle.volt_value.specs.Values.{is_bigint}
use Rattle.sql_plan.specs.declared.fault.Fault.{Fault}
use Rattle.sql_plan.specs.declared.fault.Fault.TheVariants.{Overflow}
use Rattle.sql_plan.specs.declared.fault.Fault.TheVariants as fault
use Rattle.sql_plan.specs.declared.fault.RunFault.{RunFault}
use Rattle.sql_plan.specs.declared.fault.RunFault.TheVariants as run
use Rattle.sql_plan.specs.Faults.{code_of}
use Rattle.sql_plan.specs.declared.partial.Gathered.{Gathered}
use Rattle.sql_plan.specs.declared.partial.Gathered.TheVariants as gathered
use Rattle.sql_plan.specs.declared.select.GroupOutput.{GroupOutput}
use Rattle.sql_plan.specs.declared.select.Order.{Order}
use Rattle.sql_plan.specs.declared.row_key.Directed.{Directed}
use Rattle.sql_plan.specs.Rows.{Cells}
use Rattle.sql_meaning.specs.Judged.{with, least, fault_in, value_in, least_fault, unless, collected, Means}
use Rattle.sql_meaning.specs.Values.{in_range}
use Rattle.sql_meaning.specs.Groups.{value_of}
use Rattle.sql_meaning.specs.Selects.{group_row}
use Rattle.sql_merge.specs.Joined.{collected_behind}

behind-by : {A : Type 0} (done : List A) (x : A) (rest : List A) (f : Option Fault)
    → with (unless f (x ∷ rest)) (λ r. Ok (done ++ r)) ≡ with (unless f rest) (λ r. Ok ((done ++ x ∷ []) ++ r))
behind-by done x rest None = ap (λ (r : List _). Ok r) (sym (append_assoc done (x ∷ []) rest))
behind-by done x rest (Some f) = refl

-- a value more
behind-Ok : {A : Type 0} (done : List A) (x : A) (rs : List (Result A Fault)) → collected_behind done (Ok x ∷ rs) ≡ collected_behind (done ++ x ∷ []) rs
behind-Ok done x rs = behind-by done x (filter_map value_in rs) (least_fault rs)

overflow-least : (g : Option Fault) → least (Some Overflow) g ≡ Some Overflow
overflow-least None = refl
overflow-least (Some fault.Overflow) = refl
overflow-least (Some fault.DivideByZero) = refl
overflow-least (Some fault.NullInColumn) = refl
overflow-least (Some fault.OutOfRange) = refl
overflow-least (Some fault.TooLong) = refl
overflow-least (Some fault.WrongPartition) = refl
overflow-least (Some fault.Duplicate) = refl
overflow-least (Some fault.TooManyRows) = refl

-- the first overflow is the least fault
behind-overflow : {A : Type 0} (done : List A) (rs : List (Result A Fault)) → collected_behind done (Err Overflow ∷ rs) ≡ Err Overflow
behind-overflow done rs =
    ap (λ f. with (unless f (filter_map value_in rs)) (λ r. Ok (done ++ r))) (overflow-least (least_fault rs))

-- ---- each fault of a group is that of a sum

range-by : (b : Bool) (x : Value) (f : Fault) → (if b then Ok x else Err Overflow) ≡ Err f → f ≡ Overflow
range-by true x f e = absurd (cc)
range-by false x f e = cc

value-fault : (g : Gathered) (f : Fault) → value_of g ≡ Err f → f ≡ Overflow
value-fault (gathered.Count n) f e = absurd (cc)
value-fault (gathered.Sum None) f e = absurd (cc)
value-fault (gathered.Sum (Some z)) f e = range-by (is_bigint z) _ f e
value-fault (gathered.Min x) f e = absurd (cc)
value-fault (gathered.Max x) f e = absurd (cc)

some-same : (f g : Fault) → Some f ≡ Some g → g ≡ f
some-same f g e = cc

lesser-of : (b : Bool) (h g f : Fault) → h ≡ Overflow → g ≡ Overflow → Some (if b then h else g) ≡ Some f → f ≡ Overflow
lesser-of true h g f one other e = some-same h f e ∙ one
lesser-of false h g f one other e = some-same g f e ∙ other

least-of : (g : Option Fault) (r : Result Value Fault) (f : Fault) → ((f : Fault) → r ≡ Err f → f ≡ Overflow) → ((f : Fault) → g ≡ Some f → f ≡ Overflow)
    → least (fault_in r) g ≡ Some f → f ≡ Overflow
least-of g (Ok x) f one other e = other f e
least-of None (Err h) f one other e = some-same h f e ∙ one h refl
least-of (Some g) (Err h) f one other e = lesser-of (nat_le (code_of h) (code_of g)) h g f (one h refl) (other g refl) e

values-fault : (gs : List Gathered) (f : Fault) → least_fault (map value_of gs) ≡ Some f → f ≡ Overflow
values-fault [] f e = absurd (cc)
values-fault (g ∷ gs) f e = least-of (least_fault (map value_of gs)) (value_of g) f (value-fault g) (values-fault gs) e

err-same : {A : Type 0} (f g : Fault) → ◌≡◌ {A = Result A Fault} (Err f) (Err g) → g ≡ f
err-same f g e = cc

row-by : (o : Option Fault) (xs : Cells) {A : Type 0} (go : Cells → A) (f : Fault) → ((f : Fault) → o ≡ Some f → f ≡ Overflow)
    → with (unless o xs) (λ ys. Ok (go ys)) ≡ Err f → f ≡ Overflow
row-by None xs go f only e = absurd (cc)
row-by (Some g) xs go f only e = err-same g f e ∙ only g refl

row-fault : (outputs : List GroupOutput) (order : List Order) (group : Cells × List Gathered) (f : Fault) → group_row outputs order group ≡ Err f → f ≡ Overflow
row-fault outputs order group f e = row-by (least_fault (map value_of group.1)) (filter_map value_in (map value_of group.1)) _ f (values-fault group.1) e

-- ---- the rows of groups, one by one

-- the row of the next group: those behind it are judged as before, or its fault is the least
module _ (outputs : List GroupOutput) (order : List Order) (groups : List (Cells × List Gathered)) (i : ℕ) (group : Cells × List Gathered) (within : i < length groups) (is : group ≡ get_or groups i group)
    (done : List (List Directed × Cells)) where
  next : collected_behind done (map (group_row outputs order) (drop i groups)) ≡ collected_behind done (group_row outputs order group ∷ map (group_row outputs order) (drop (i + 1) groups))
  next =
      at_drop_more (λ (rest : List (Cells × List Gathered)). collected_behind done (map (group_row outputs order) rest)) groups i group within
      ∙ ap (λ g. collected_behind done (group_row outputs order g ∷ map (group_row outputs order) (drop (i + 1) groups))) (sym is)

  pub row-added : (row : List Directed × Cells) → group_row outputs order group ≡ Ok row
      → collected_behind (done ++ row ∷ []) (map (group_row outputs order) (drop (i + 1) groups)) ≡ collected_behind done (map (group_row outputs order) (drop i groups))
  row-added row e =
      let rest = map (group_row outputs order) (drop (i + 1) groups) in
      sym (next ∙ ap (λ r. collected_behind done (r ∷ rest)) e ∙ behind-Ok done row rest)

  pub row-faulted : (f : Fault) → group_row outputs order group ≡ Err f → collected_behind done (map (group_row outputs order) (drop i groups)) ≡ Err f
  row-faulted f e =
      let rest = map (group_row outputs order) (drop (i + 1) groups) in
      let over : f ≡ Overflow = row-fault outputs order group f e in
      next
      ∙ ap (λ r. collected_behind done (r ∷ rest)) e
      ∙ ap (λ g. collected_behind done (Err g ∷ rest)) over
      ∙ behind-overflow done rest
      ∙ ap (λ g. Err g) (sym over)

-- what ends in want of memory, or in a fault that is the fault of the whole
pub faulted : {A B C D : Type 0} (e : RunFault) (view : A → B) (seen : C → D) (one : Result B Fault) (all : Result D Fault)
    → Means {A = A} (Err e) view one → ((f : Fault) → one ≡ Err f → all ≡ Err f) → Means {A = C} (Err e) seen all
faulted (run.Fault f) view seen one all given go = go f given
faulted run.NoMemory view seen one all given go = tt
