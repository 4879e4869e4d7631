-- What is judged: a value, or a fault. Of several faults the least counts.
use Rattle.std.specs.Prelude.{◌≡◌, nat_le, if◌then◌else◌, List, [], ◌∷◌, filter_map, Option, Some, None, Result, Ok, Err, ⊤}
use Rattle.sql_plan.specs.declared.fault.Fault.{Fault}
use Rattle.sql_plan.specs.declared.fault.RunFault.{RunFault}
use Rattle.sql_plan.specs.declared.fault.RunFault.TheVariants as run
use Rattle.sql_plan.specs.Faults.{code_of}

-- what is made of the value, or the fault
abbrev pub with : {A B : Type 0} → Result A Fault → (A → Result B Fault) → Result B Fault
with (Ok x) go = go x
with (Err fault) go = Err fault

-- of two faults the one with the lesser number
abbrev pub lesser : Fault → Fault → Fault
lesser f g = if nat_le (code_of f) (code_of g) then f else g

abbrev pub least : Option Fault → Option Fault → Option Fault
least None g = g
least (Some f) None = Some f
least (Some f) (Some g) = Some (lesser f g)

abbrev pub fault_in : {A : Type 0} → Result A Fault → Option Fault
fault_in (Ok x) = None
fault_in (Err fault) = Some fault

abbrev pub value_in : {A : Type 0} → Result A Fault → Option A
value_in (Ok x) = Some x
value_in (Err fault) = None

-- the least of all faults
abbrev pub least_fault : {A : Type 0} → List (Result A Fault) → Option Fault
least_fault [] = None
least_fault (r ∷ rs) = least (fault_in r) (least_fault rs)

-- the value, where there is no fault
abbrev pub unless : {A : Type 0} → Option Fault → A → Result A Fault
unless None x = Ok x
unless (Some fault) x = Err fault

-- all values, or the least of all faults
abbrev pub collected : {A : Type 0} → List (Result A Fault) → Result (List A) Fault
collected rs = unless (least_fault rs) (filter_map value_in rs)

-- both values, or the lesser fault
abbrev pub both : {A B : Type 0} → Result A Fault → Result B Fault → Result (A × B) Fault
both (Ok x) (Ok y) = Ok (x, y)
both (Ok x) (Err g) = Err g
both (Err f) (Ok y) = Err f
both (Err f) (Err g) = Err (lesser f g)

-- what code that takes memory gives of something judged: the same, or memory was wanting
abbrev pub Means : {A B : Type 0} → Result A RunFault → (A → B) → Result B Fault → Type 0
Means (Ok x) view meaning = meaning ≡ Ok (view x)
Means (Err (run.Fault fault)) view meaning = meaning ≡ Err fault
Means (Err run.NoMemory) view meaning = ⊤
