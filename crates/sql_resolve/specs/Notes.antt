-- What is found out about a statement on the way through it, from the left: the class of each parameter,
-- and the fault of the least number. In a program the parameters are the places that take a value of it.
use Rattle.std.specs.Prelude.{ℕ, ◌+◌, [], ◌∷◌, ◌++◌, length, nat_lt, if◌then◌else◌, Some, None}
use Rattle.volt_value.specs.declared.column.Class.{Class}
use Rattle.sql_plan.specs.declared.program.ProgramValue.{ProgramValue}
use Rattle.volt_value.specs.declared.column.Class.TheVariants as class
use Rattle.sql_resolve.specs.declared.fault.CheckFault.{CheckFault}
use Rattle.sql_resolve.specs.declared.fault.CheckFault.TheVariants.{TypeMismatch, TooMany, UnboundName}
use Rattle.sql_resolve.specs.declared.notes.Notes.{Notes}
use Rattle.sql_resolve.specs.Faults.{least}

abbrev pub nothing : Notes
nothing = record { params = []; args = []; strays = 0; fault = None }

abbrev pub blamed : CheckFault → Notes → Notes
blamed fault notes = record notes { fault = Some (least notes.fault fault) }

-- a value of a class, where one of another class is wanted
abbrev pub fitted : Class → Class → Notes → Notes
fitted class.Int class.Int notes = notes
fitted class.Text class.Text notes = notes
fitted _ _ notes = blamed TypeMismatch notes

-- a number of things of which there may be so many
abbrev pub limited : ℕ → ℕ → Notes → Notes
limited most n notes = if nat_lt most n then blamed TooMany notes else notes

-- one more parameter, and its number
abbrev pub with_param : Class → Notes → Notes × ℕ
with_param class notes = (record notes { params = notes.params ++ class ∷ [] }, length notes.params)

-- one more place that takes a value of the program, and its number
abbrev pub with_place : ProgramValue → Class → Notes → Notes × ℕ
with_place x class notes = (record notes { params = notes.params ++ class ∷ []; args = notes.args ++ x ∷ [] }, length notes.params)

-- how many `?` there may be
abbrev pub most_questions : ℕ
most_questions = 32

-- a `?` in a program, which stands for nothing there. One more than there may be is too many too.
abbrev pub strayed : Notes → Notes
strayed notes = if nat_lt notes.strays most_questions then blamed UnboundName (record notes { strays = notes.strays + 1 }) else blamed TooMany notes
