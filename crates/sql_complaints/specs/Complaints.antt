-- What is wrong in a statement, and the first of it that is a fault.
use Rattle.std.specs.Prelude.{Bool, true, false, ◌==◌, if◌then◌else◌, List, [], ◌∷◌, find, Option, Some, None}
use Rattle.volt_value.specs.declared.column.Class.TheVariants as class
use Rattle.sql_resolve.specs.declared.fault.CheckFault.{CheckFault}
use Rattle.sql_resolve.specs.declared.fault.CheckFault.TheVariants.{NoSuchName, TooMany, TypeMismatch, NotDistributable, ChangesKey, UnboundName}
use Rattle.sql_resolve.specs.declared.sort.Sort.{Sort}
use Rattle.sql_resolve.specs.declared.sort.Sort.TheVariants.{Value, Null, Open, Truth}
use Rattle.sql_resolve.specs.Faults.{code_of}
use Rattle.sql_complaints.specs.declared.complaints.About.{About}
use Rattle.sql_complaints.specs.declared.complaints.About.TheVariants as about
use Rattle.sql_complaints.specs.declared.complaints.Complaint.{Complaint}
use Rattle.sql_complaints.specs.declared.complaints.Part.{Part}
use Rattle.sql_complaints.specs.declared.complaints.Search.{Search}
use Rattle.sql_complaints.specs.declared.complaints.Wanted.{Wanted}
use Rattle.sql_complaints.specs.declared.complaints.Wanted.TheVariants as wanted

abbrev pub complaint : Part → About → Complaint
complaint part about = record { part = part; about = about }

-- the fault that a complaint is
abbrev pub fault_of : About → CheckFault
fault_of (about.Counts columns values) = TypeMismatch
fault_of (about.Misfit wanted found) = TypeMismatch
fault_of about.NoAggregate = TypeMismatch
fault_of (about.KeyColumn name) = ChangesKey
fault_of (about.Unbound name) = UnboundName
fault_of about.Question = UnboundName
fault_of (about.Many params columns) = TooMany
fault_of (about.Join first second) = NotDistributable
fault_of _ = NoSuchName

abbrev pub is_of : CheckFault → Complaint → Bool
is_of fault complaint = code_of (fault_of complaint.about) == code_of fault

-- the first complaint of a fault
abbrev pub first_of : CheckFault → List Complaint → Option Complaint
first_of fault complaints = find (is_of fault) complaints

-- ---- one after another

abbrev pub search_of : CheckFault → Search
search_of fault = record { fault = fault; found = None }

abbrev pub or_this : CheckFault → Complaint → Option Complaint → Option Complaint
or_this fault complaint (Some found) = Some found
or_this fault complaint None = if is_of fault complaint then Some complaint else None

abbrev pub noted : Search → Complaint → Search
noted search complaint = record search { found = or_this search.fault complaint search.found }

abbrev pub all_noted : Search → List Complaint → Search
all_noted search [] = search
all_noted search (complaint ∷ complaints) = all_noted (noted search complaint) complaints

-- ---- what may stand where

-- whether what an expression gives may stand where this is wanted
abbrev pub may_stand : Wanted → Sort → Bool
may_stand wanted Null = true
may_stand (wanted.Value class.Int) (Value class.Int) = true
may_stand (wanted.Value class.Text) (Value class.Text) = true
may_stand (wanted.Value class) Open = true
may_stand wanted.Truth Truth = true
may_stand wanted.Alone (Value class) = true
may_stand _ _ = false

abbrev pub misfit : Part → Wanted → Sort → List Complaint
misfit part wanted found = if may_stand wanted found then [] else complaint part (about.Misfit wanted found) ∷ []
