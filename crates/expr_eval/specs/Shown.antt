-- What stands for a borrowed value.
use Rattle.std.specs.Prelude.{ℤ, Option, Some, None, Result, Ok, Err}
use Rattle.volt_value.specs.declared.value.Value.{Value}
use Rattle.volt_value.specs.declared.value.Value.TheVariants as value
use Rattle.expr_parse.specs.declared.expression.Arithmetic.{Arithmetic}
use Rattle.sql_plan.specs.declared.expression.Scalar.{Scalar}
use Rattle.sql_plan.specs.declared.fault.Fault.{Fault}
use Rattle.sql_plan.specs.declared.fault.Fault.TheVariants.{Overflow}
use Rattle.sql_meaning.specs.Values.{in_range}
use Rattle.sql_meaning.specs.Expressions.{Reads, scalar_of}
use Rattle.expr_eval.specs.declared.seen.Seen.{Seen}
use Rattle.expr_eval.specs.declared.seen.Seen.TheVariants as seen

-- the value that is seen
abbrev pub shown : Seen → Value
shown seen.Null = value.Null
shown (seen.Int n) = value.Int n
shown (seen.Text text) = value.Text text.now

abbrev pub shown_in : Result Seen Fault → Result Value Fault
shown_in (Ok x) = Ok (shown x)
shown_in (Err fault) = Err fault

-- an exact result: without one it is beyond every range
abbrev pub exactly : Option ℤ → Result Value Fault
exactly None = Err Overflow
exactly (Some z) = in_range z

-- an operation with the meaning of its operand
abbrev pub meant : Arithmetic × Scalar → Arithmetic × Reads Value
meant next = (next.0, scalar_of next.1)
