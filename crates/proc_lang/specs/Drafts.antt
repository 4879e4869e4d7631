-- What is known of a program in front of a place of its text.
use Rattle.std.specs.Prelude.{ℕ, nat_lt, Bool, true, false, not, ◌&&◌, ◌==◌, if◌then◌else◌, List, [], ◌∷◌, ◌++◌, length, slice_get, is_some, Option, Some, None}
use denote.Ref.{Bor}
use Rattle.volt_value.specs.declared.column.Class.{Class}
use Rattle.volt_value.specs.declared.column.Class.TheVariants as class
use Rattle.volt_catalog.specs.declared.table.Table.{Table}
use Rattle.volt_catalog.specs.Names.{same_name}
use Rattle.volt_catalog.specs.Rules.{Contents}
use Rattle.sql_plan.specs.declared.prepared.Prepared.{Prepared}
use Rattle.sql_plan.specs.Prepared.{written_by}
use Rattle.sql_resolve.specs.declared.fault.CheckFault.{CheckFault}
use Rattle.sql_resolve.specs.declared.sort.Sort.{Sort}
use Rattle.sql_resolve.specs.declared.sort.Sort.TheVariants.{Value}
use Rattle.sql_resolve.specs.Expressions.{own_class}
use Rattle.sql_resolve.specs.Bound.{Heads, head_named, heads_of, result_named}
use Rattle.sql_check.specs.declared.examined.Examined.{Examined}
use Rattle.proc_lang.specs.declared.draft.Draft.{Draft}
use Rattle.proc_lang.specs.declared.fault.ProcFault.{ProcFault}
use Rattle.proc_lang.specs.declared.fault.ProcFault.TheVariants.{BadType, UnboundName, WritesReplicated}
use Rattle.proc_lang.specs.Faults.{worse, worse_if, with_check}

-- in front of the first step the parameters are bound
abbrev pub started : Heads → Option ProcFault → Draft
started parameters fault = record {
  bound = record { variables = parameters; results = []; rows = [] };
  statements = [];
  rows = 0;
  fault = fault;
}

-- ---- faults

abbrev pub blamed : ProcFault → Draft → Draft
blamed fault draft = record draft { fault = worse draft.fault fault }

abbrev pub blamed_if : Bool → ProcFault → Draft → Draft
blamed_if holds fault draft = record draft { fault = worse_if holds fault draft.fault }

-- the fault of an expression or a statement, where it has one
abbrev pub noted : Option CheckFault → Draft → Draft
noted fault draft = record draft { fault = with_check fault draft.fault }

-- ---- variables

abbrev pub same_class : Class → Class → Bool
same_class class.Int class.Int = true
same_class class.Text class.Text = true
same_class _ _ = false

-- whether a value fits a variable of a class: NULL fits each, and so does what is a fault already
abbrev pub fits_class : Sort → Class → Bool
fits_class (Value class) wanted = same_class class wanted
fits_class _ wanted = true

-- a variable that is set has the class with which it was set first in the text, where NULL is an integer
abbrev pub variable_set : List ℕ → Sort → Option (ℕ × Class) → Draft → Draft × ℕ
variable_set name sort (Some known) draft = (blamed_if (not (fits_class sort known.1)) BadType draft, known.0)
variable_set name sort None draft =
    (record draft { bound = record draft.bound { variables = draft.bound.variables ++ (name, own_class sort) ∷ [] } }, length draft.bound.variables)

abbrev pub with_variable : List ℕ → Sort → Draft → Draft × ℕ
with_variable name sort draft = variable_set name sort (head_named draft.bound.variables name) draft

-- ---- results

-- columns with the same names and classes
abbrev pub same_head : List ℕ × Class → List ℕ × Class → Bool
same_head x y = same_name x.0 y.0 && same_class x.1 y.1

abbrev pub same_each : Heads → Heads → Bool
same_each (x ∷ xs) (y ∷ ys) = same_head x y && same_each xs ys
same_each _ _ = true

abbrev pub same_heads : Heads → Heads → Bool
same_heads xs ys = (length xs == length ys) && same_each xs ys

-- the columns of the result of a number
abbrev pub heads_made : Draft → ℕ → Heads
heads_made draft n = heads_of draft.bound n

-- a result that is made has the columns with which it was made first in the text
abbrev pub result_set : List ℕ → Heads → Option ℕ → Draft → Draft × ℕ
result_set name heads (Some n) draft = (blamed_if (not (same_heads (heads_of draft.bound n) heads)) BadType draft, n)
result_set name heads None draft =
    (record draft { bound = record draft.bound { results = draft.bound.results ++ (name, heads) ∷ [] } }, length draft.bound.results)

abbrev pub with_result : List ℕ → Heads → Draft → Draft × ℕ
with_result name heads draft = result_set name heads (result_named draft.bound name) draft

-- ---- rows of FORs

abbrev pub greater : ℕ → ℕ → ℕ
greater a b = if nat_lt a b then b else a

-- inside of a FOR over a result, where there is such a result, its row is bound
abbrev pub entered : List ℕ → Option ℕ → Draft → Draft
entered row result draft = record draft {
  bound = record draft.bound { rows = draft.bound.rows ++ (row, result) ∷ [] };
  rows = greater draft.rows (length (draft.bound.rows ++ (row, result) ∷ []));
  fault = worse_if (not (is_some result)) UnboundName draft.fault;
}

abbrev pub without_last : {A : Type 0} → List A → List A
without_last [] = []
without_last (x ∷ []) = []
without_last (x ∷ y ∷ rest) = x ∷ without_last (y ∷ rest)

-- behind it, it isn't
abbrev pub left : Draft → Draft
left draft = record draft { bound = record draft.bound { rows = without_last draft.bound.rows } }

-- ---- statements

-- what a table that may be there is
abbrev pub now_of : Option (Bor Table) → Option Table
now_of None = None
now_of (Some table) = Some table.now

abbrev pub is_part : Option Table → Bool
is_part None = false
is_part (Some table) = is_some table.part

-- whether a statement changes a table that all partitions have
abbrev pub writes_replicated : Contents → Option ℕ → Bool
writes_replicated catalog None = false
writes_replicated catalog (Some table) = not (is_part (slice_get catalog.tables table))

-- whether a procedure that runs on one partition, as `single` tells, holds a write that it may not hold
abbrev pub may_not_write : Contents → Bool → Prepared → Bool
may_not_write catalog single statement = single && writes_replicated catalog (written_by statement.action)

-- A statement more. Where the procedure runs on one partition it may not change a table that all partitions have.
abbrev pub with_one : Contents → Bool → Option CheckFault → Prepared → Draft → Draft
with_one catalog single fault statement draft = record draft {
  statements = draft.statements ++ statement ∷ [];
  fault = worse_if (may_not_write catalog single statement) WritesReplicated (with_check fault draft.fault);
}

abbrev pub with_statement : Contents → Bool → Examined → Draft → Draft
with_statement catalog single found = with_one catalog single found.fault found.prepared
