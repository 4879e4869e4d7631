-- What a call answers, and how many bytes that takes.
use Rattle.std.specs.Prelude.{ℕ, nat_le, if◌then◌else◌, List, [], ◌∷◌, ◌++◌, flat_map, length}
use Rattle.std.specs.Int.{w32, to_be_bytes}
use Rattle.volt_value.specs.declared.value.Value.TheVariants.{Text}
use Rattle.volt_value.specs.Spelling.{value_bytes}
use Rattle.sql_plan.specs.declared.reply.Cause.{Cause}
use Rattle.sql_plan.specs.declared.reply.Cause.TheVariants as cause
use Rattle.sql_plan.specs.declared.reply.ProcReply.{ProcReply}
use Rattle.sql_plan.specs.declared.reply.ProcReply.TheVariants as reply
use Rattle.sql_plan.specs.Faults.{code_of}
use Rattle.sql_plan.specs.Rows.{Cells}

-- ---- the one spelling of each reply, high bytes first

-- how many values it has, and these
abbrev pub row_bytes : Cells → List ℕ
row_bytes row = length row ∷ flat_map value_bytes row

abbrev pub rows_bytes : List Cells → List ℕ
rows_bytes rows = to_be_bytes w32 (length rows) ++ flat_map row_bytes rows

abbrev pub cause_bytes : Cause → List ℕ
cause_bytes (cause.User text) = 1 ∷ value_bytes (Text text)
cause_bytes (cause.Fault fault) = 2 ∷ code_of fault ∷ []
cause_bytes cause.Statements = 3 ∷ []
cause_bytes cause.Steps = 4 ∷ []
cause_bytes cause.Size = 5 ∷ []

abbrev pub reply_bytes : ProcReply → List ℕ
reply_bytes (reply.Ok rows) = 0 ∷ rows_bytes rows.rows
reply_bytes (reply.Abort why) = cause_bytes why

-- ---- size

abbrev pub most_bytes : ℕ
most_bytes = 262144

-- a reply that takes more is aborted for its size instead, an abort too
abbrev pub sized : ProcReply → ProcReply
sized answer = if nat_le (length (reply_bytes answer)) most_bytes then answer else reply.Abort cause.Size
