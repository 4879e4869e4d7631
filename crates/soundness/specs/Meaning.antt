-- What calls mean on one plain database.
use Rattle.std.specs.Prelude.{ℕ, Bool, List}
use Rattle.volt_report.specs.Report.{RowLine, ReportEnd}

-- A plain database and what the calls of a deployment do to it. It knows no copy, message, log or disk.
pub record Meaning : Type 1 where
  pub Database : Type 0
  pub Call : Type 0
  -- the database with these rows
  pub database : List RowLine → Database
  -- the database after a call, and what the call answers
  pub after : Database → Call → Database
  pub reply : Database → Call → ReportEnd
  -- how many partitions there are, whether a call is one of a partition's, and a partition's rows
  pub parts : ℕ
  pub is_call_of : ℕ → Call → Bool
  pub part : ℕ → Database → List RowLine

-- a call of the script: its client, and what it asks for
pub record Asked (M : Meaning) : Type 0 where
  pub client : ℕ
  pub call : M.Call

-- what a run is asked to do: its calls, numbered from 1 in their order, and how many copies a partition has
pub record Script (M : Meaning) : Type 0 where
  pub calls : List (Asked M)
  pub copies : ℕ
