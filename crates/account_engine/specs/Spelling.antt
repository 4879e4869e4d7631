-- How calls and replies are spelled.
use Rattle.std.specs.Prelude.{ℕ, List, [], ◌∷◌, ◌++◌, length}
use Rattle.std.specs.Int.{w16, w32, w64, to_be_bytes, cast_unsigned}
use Rattle.std.specs.List.{flat_map}
use Rattle.volt_value.specs.declared.value.Value.{Value}
use Rattle.volt_value.specs.declared.value.Value.TheVariants as value
use Rattle.volt_value.specs.Spelling.{value_bytes}
use Rattle.volt_report.specs.Report.{ReportEnd, Kept, User, Fault, Statements, Steps, Size, Lost, Down}
use Rattle.account_engine.specs.declared.call.AccountCall.{AccountCall}
use Rattle.account_engine.specs.declared.call.AccountCall.TheVariants.{Put, Get}

-- the number of a procedure and of its values
abbrev pub body_head : ℕ → ℕ → List ℕ
body_head procedure count = to_be_bytes w16 procedure ++ count ∷ []

-- The body of a call. Procedures are numbered in their order in the catalog.
abbrev pub body_of : AccountCall → List ℕ
body_of (Put id balance) = body_head 0 2 ++ value_bytes (value.Int id) ++ value_bytes (value.Int balance)
body_of (Get id) = body_head 1 1 ++ value_bytes (value.Int id)

-- a row: how many values it has, and these
abbrev pub row_bytes : List Value → List ℕ
row_bytes row = length row ∷ flat_map value_bytes row

-- A reply. An end that is no answer has none.
abbrev pub reply_bytes : ReportEnd → List ℕ
reply_bytes (Kept rows) = 0 ∷ to_be_bytes w32 (length rows) ++ flat_map row_bytes rows
reply_bytes (User text) = 1 ∷ value_bytes (value.Text text)
reply_bytes (Fault code) = 2 ∷ code ∷ []
reply_bytes Statements = 3 ∷ []
reply_bytes Steps = 4 ∷ []
reply_bytes Size = 5 ∷ []
reply_bytes Lost = []
reply_bytes (Down part) = []
