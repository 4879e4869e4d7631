-- What the engine answers.
use Rattle.std.specs.Prelude.{ℕ, zero, suc, Bool, true, false, nat_lt, List, [], ◌∷◌, Option, Some, None}
use Rattle.std.specs.Option.{option_map}
use Rattle.volt_value.specs.declared.value.Value.TheVariants.{Int}
use Rattle.volt_report.specs.Report as report
use Rattle.volt_report.specs.Report.{ReportEnd}
use Rattle.account_engine.specs.declared.reply.Answer.{Answer}
use Rattle.account_engine.specs.declared.reply.Answer.TheVariants.{Nothing, Integer, Fault}
use Rattle.volt_value.specs.Values.{is_bigint}
use Rattle.account_engine.specs.Reading.{value_then_rest}
use Rattle.account_engine.specs.Accounts.{one_integer}

-- the end of a call with this answer
abbrev pub end_of_answer : Answer → ReportEnd
end_of_answer Nothing = report.Kept []
end_of_answer (Integer z) = one_integer z
end_of_answer (Fault code) = report.Fault code

-- the ends of calls: no row, one row of one integer, or a fault
abbrev pub is_given : ReportEnd → Bool
is_given (report.Kept []) = true
is_given (report.Kept ((Int z ∷ []) ∷ [])) = is_bigint z
is_given (report.Fault code) = nat_lt code 256
is_given _ = false

-- the answer of these rows, as a reply spells them
abbrev pub row_of : List ℕ → Option Answer
row_of (zero ∷ zero ∷ zero ∷ zero ∷ []) = Some Nothing
row_of (zero ∷ zero ∷ zero ∷ suc zero ∷ suc zero ∷ values) = option_map (λ v. Integer v.0) (value_then_rest values)
row_of _ = None

-- the answer that a reply spells
abbrev pub answer_of : List ℕ → Option Answer
answer_of (zero ∷ rows) = row_of rows
answer_of (suc (suc zero) ∷ code ∷ []) = Some (Fault code)
answer_of _ = None
