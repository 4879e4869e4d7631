-- Readers of what has a spelling.
use Rattle.std.specs.Prelude.{ℕ, zero, suc, ℤ, List, [], ◌∷◌, drop, Option, Some, None, Result, Ok, Err}
use Rattle.std.specs.Int.{w16, w64}
use Rattle.volt_base.specs.Reading.{◌>>=◌, number_at}
use Rattle.byte_codec.specs.Readers.{Reader, byte_at, both_at, as_at, mapped_at, short_list_at, list_at, wide_at}
use Rattle.volt_value.specs.declared.value.Value.{Value}
use Rattle.volt_value.specs.declared.value.Value.TheVariants.{Text}
use Rattle.volt_value.specs.Reading.{value_at}
use Rattle.sql_plan.specs.Faults.{fault_of}
use Rattle.sql_plan.specs.Rows.{Cells}
use Rattle.sql_plan.specs.declared.fault.Fault.{Fault}
use Rattle.sql_plan.specs.declared.partial.Gathered.{Gathered}
use Rattle.sql_plan.specs.declared.partial.Gathered.TheVariants as gathered
use Rattle.sql_plan.specs.declared.partial.Group.{Group}
use Rattle.sql_plan.specs.declared.partial.KeyedRow.{KeyedRow}
use Rattle.sql_plan.specs.declared.partial.Partial.{Partial}
use Rattle.sql_plan.specs.declared.partial.Partial.TheVariants as partial
use Rattle.sql_plan.specs.declared.reply.Cause.TheVariants as cause
use Rattle.sql_plan.specs.declared.reply.ProcReply.{ProcReply}
use Rattle.sql_plan.specs.declared.reply.ProcReply.TheVariants as reply
use Rattle.sql_plan.specs.declared.row_key.Directed.{Directed}
use Rattle.sql_plan.specs.declared.row_key.Directed.TheVariants as directed
use Rattle.sql_wire.specs.declared.bodies.CallBody.{CallBody}
use Rattle.sql_wire.specs.declared.bodies.StatementBody.{StatementBody}

-- ---- values, and rows of replies

unfoldable pub one_value_at : Reader Value
one_value_at bytes = do
  found ← value_at bytes
  Some (found.0, drop found.1 bytes)

unfoldable pub row_at : Reader Cells
row_at = short_list_at one_value_at

-- ---- calls and rounds

abbrev pub call_with : ℕ × Cells → CallBody
call_with p = record { procedure = p.0; args = p.1 }

unfoldable pub call_at : Reader CallBody
call_at = mapped_at call_with (both_at (number_at w16) row_at)

abbrev pub statement_with : ℕ × (ℕ × Cells) → StatementBody
statement_with p = record { procedure = p.0; statement = p.1.0; args = p.1.1 }

unfoldable pub statement_at : Reader StatementBody
statement_at = mapped_at statement_with (both_at (number_at w16) (both_at (number_at w16) row_at))

-- ---- replies

abbrev pub text_of : Value → Option (List ℕ)
text_of (Text t) = Some t
text_of _ = None

unfoldable pub text_at : Reader (List ℕ)
text_at = as_at text_of one_value_at

unfoldable pub fault_at : Reader Fault
fault_at = as_at fault_of byte_at

abbrev pub returned : List Cells → ProcReply
returned rows = reply.Ok (record { rows = rows })

abbrev pub aborted_by_user : List ℕ → ProcReply
aborted_by_user text = reply.Abort (cause.User text)

abbrev pub aborted_by_fault : Fault → ProcReply
aborted_by_fault fault = reply.Abort (cause.Fault fault)

unfoldable pub reply_at : Reader ProcReply
reply_at [] = None
reply_at (zero ∷ bytes) = mapped_at returned (list_at row_at) bytes
reply_at (suc zero ∷ bytes) = mapped_at aborted_by_user text_at bytes
reply_at (suc (suc zero) ∷ bytes) = mapped_at aborted_by_fault fault_at bytes
reply_at (suc (suc (suc zero)) ∷ bytes) = Some (reply.Abort cause.Statements, bytes)
reply_at (suc (suc (suc (suc zero))) ∷ bytes) = Some (reply.Abort cause.Steps, bytes)
reply_at (suc (suc (suc (suc (suc zero)))) ∷ bytes) = Some (reply.Abort cause.Size, bytes)
reply_at (suc (suc (suc (suc (suc (suc kind))))) ∷ bytes) = None

-- ---- parts

unfoldable pub directed_at : Reader Directed
directed_at [] = None
directed_at (zero ∷ bytes) = mapped_at directed.Ascending one_value_at bytes
directed_at (suc zero ∷ bytes) = mapped_at directed.Descending one_value_at bytes
directed_at (suc (suc kind) ∷ bytes) = None

abbrev pub keyed_with : List Directed × Cells → KeyedRow
keyed_with p = record { key = p.0; row = p.1 }

unfoldable pub keyed_at : Reader KeyedRow
keyed_at = mapped_at keyed_with (both_at (list_at directed_at) (list_at one_value_at))

abbrev pub limit_with : ℕ → Option ℕ
limit_with n = Some n

unfoldable pub limit_at : Reader (Option ℕ)
limit_at [] = None
limit_at (zero ∷ bytes) = Some (None, bytes)
limit_at (suc zero ∷ bytes) = mapped_at limit_with (number_at w64) bytes
limit_at (suc (suc kind) ∷ bytes) = None

abbrev pub sum_with : ℤ → Gathered
sum_with z = gathered.Sum (Some z)

unfoldable pub gathered_at : Reader Gathered
gathered_at [] = None
gathered_at (zero ∷ bytes) = mapped_at gathered.Count (number_at w64) bytes
gathered_at (suc zero ∷ bytes) = Some (gathered.Sum None, bytes)
gathered_at (suc (suc zero) ∷ bytes) = mapped_at sum_with wide_at bytes
gathered_at (suc (suc (suc zero)) ∷ bytes) = mapped_at gathered.Min one_value_at bytes
gathered_at (suc (suc (suc (suc zero))) ∷ bytes) = mapped_at gathered.Max one_value_at bytes
gathered_at (suc (suc (suc (suc (suc kind)))) ∷ bytes) = None

abbrev pub group_with : Cells × List Gathered → Group
group_with p = record { key = p.0; gathered = p.1 }

unfoldable pub group_at : Reader Group
group_at = mapped_at group_with (both_at (list_at one_value_at) (list_at gathered_at))

abbrev pub rows_with : Option ℕ × List KeyedRow → Partial
rows_with p = partial.Rows p.1 p.0

abbrev pub groups_with : Option ℕ × List Group → Partial
groups_with p = partial.Groups p.1 p.0

unfoldable pub part_at : Reader Partial
part_at [] = None
part_at (zero ∷ bytes) = mapped_at partial.Count (number_at w64) bytes
part_at (suc zero ∷ bytes) = mapped_at rows_with (both_at limit_at (list_at keyed_at)) bytes
part_at (suc (suc zero) ∷ bytes) = mapped_at groups_with (both_at limit_at (list_at group_at)) bytes
part_at (suc (suc (suc kind)) ∷ bytes) = None

abbrev pub with_part : Partial → Result Partial Fault
with_part part = Ok part

abbrev pub with_fault : Fault → Result Partial Fault
with_fault fault = Err fault

unfoldable pub outcome_at : Reader (Result Partial Fault)
outcome_at [] = None
outcome_at (zero ∷ bytes) = mapped_at with_part part_at bytes
outcome_at (suc zero ∷ bytes) = mapped_at with_fault fault_at bytes
outcome_at (suc (suc kind) ∷ bytes) = None
