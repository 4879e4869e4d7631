-- The accounts of the example, in databases with a few rows.
use Rattle.std.specs.Prelude.{◌≡◌, ℕ, List, [], ◌∷◌, map, codes, ℤ, pos, Some, None}
use Rattle.volt_value.specs.declared.value.Value.{Value}
use Rattle.volt_value.specs.declared.value.Value.TheVariants.{Int}
use Rattle.sql_plan.specs.declared.fault.Fault.{Fault}
use Rattle.sql_plan.specs.declared.reply.ProcReply.TheVariants as reply
use Rattle.sql_plan.specs.declared.reply.Cause.TheVariants as cause
use Rattle.expr_parse.specs.declared.expression.Arithmetic.TheVariants.{Add}
use Rattle.sql_plan.specs.declared.expression.Scalar.TheVariants.{Column as Col, Param, Chain}
use Rattle.sql_plan.specs.declared.expression.Cond.TheVariants.{And}
use Rattle.sql_plan.specs.declared.prepared.Action.TheVariants.{Insert, Update, Select}
use Rattle.sql_plan.specs.declared.prepared.Prepared.{Prepared}
use Rattle.sql_plan.specs.declared.prepared.Scope.TheVariants.{AllPartitions}
use Rattle.sql_plan.specs.declared.program.Program.{Program}
use Rattle.sql_plan.specs.declared.program.ProgramStep.TheVariants.{Let, Sql, For, Return}
use Rattle.sql_plan.specs.declared.program.ProgramValue.TheVariants.{Variable, First}
use Rattle.sql_plan.specs.declared.program.ProgramValue.TheVariants as place
use Rattle.sql_plan.specs.declared.program.Returned.TheVariants.{Values}
use Rattle.sql_plan.specs.declared.select.RowLimit.TheVariants.{Number}
use Rattle.sql_plan.specs.declared.select.Shape.TheVariants.{Rows}
use Rattle.sql_plan.specs.Rows.{Cells}
use Rattle.sql_meaning.specs.Calls.{Call, call}
use Rattle.sql_meaning.specs.Database.{Database}
use Rattle.sql_meaning.specs.WellFormed.{ascending}
use Rattle.sql_meaning.specs.Programs.{Known}
use Rattle.sql_meaning.specs.Starter.{integers, plan}
use Rattle.sql_scenarios.specs.Builders.{int, num, reading, changing}

-- ---- databases and statements

-- accounts of these ids with these balances
abbrev pub accounts : List (ℕ × ℤ) → Database
accounts rows = map (λ row. int row.0 ∷ Int row.1 ∷ []) rows ∷ []

-- two accounts; what is taken from the first of them; and when it has moved to the other one
abbrev pub two : Database
two = accounts ((1, pos 10) ∷ (2, pos 5) ∷ [])

abbrev pub taken : Database
taken = accounts ((1, pos 6) ∷ (2, pos 5) ∷ [])

abbrev pub moved : Database
moved = accounts ((1, pos 6) ∷ (2, pos 9) ∷ [])

-- SELECT id, bal FROM acct ORDER BY bal LIMIT 2
abbrev pub two_least : Prepared
two_least =
    reading (codes "id" ∷ codes "bal" ∷ [])
    (Select (record {
      left = 0;
      right = None;
      filter = And [];
      shape = Rows (Col 0 ∷ Col 1 ∷ []) (ascending 1 ∷ ascending 0 ∷ []);
      limit = Some (Number (pos 2));
    }))

-- UPDATE acct SET bal = bal + 1
abbrev pub one_more : Prepared
one_more = changing AllPartitions (Update (record { table = 0; values = Col 0 ∷ Chain (Col 1) ((Add, num 1) ∷ []) ∷ []; filter = And [] }))

-- INSERT INTO acct VALUES (id, bal), on all partitions
abbrev pub new_account : ℕ → ℕ → Prepared
new_account id bal = changing AllPartitions (Insert (record { table = 0; values = num id ∷ num bal ∷ [] }))

-- ---- programs

-- SQL r = SELECT id, bal FROM acct ORDER BY bal LIMIT 2;
-- LET s = 0;
-- FOR x IN r DO LET s = :s + :x.bal; END;
-- RETURN :s, ROWS(r), FIRST(r.id);
abbrev pub sum_in_program : Program
sum_in_program =
    record {
      variables = integers 1;
      results = integers 2 ∷ [];
      rows = 1;
      statements = two_least ∷ [];
      steps =
          Sql 0 [] (Some 0)
          ∷ Let 0 [] (num 0)
          ∷ For 0 0 (Let 0 (Variable 0 ∷ place.Column 0 1 ∷ []) (Chain (Param 0) ((Add, Param 1) ∷ [])) ∷ [])
          ∷ Return (Values (Variable 0 ∷ place.Rows 0 ∷ First 0 0 ∷ []) (Param 0 ∷ Param 1 ∷ Param 2 ∷ []))
          ∷ [];
    }

-- what is known behind so many steps and statements
abbrev pub behind : ℕ → ℕ → Known
behind steps statements = record { variables = []; results = []; rows = []; steps = steps; statements = statements }

-- ---- calls

abbrev pub called : ℕ → List Value → Call
called proc args = record { proc = proc; args = args }

abbrev pub put : ℕ → Value → Call
put id balance = called 0 (int id ∷ balance ∷ [])

abbrev pub get : ℕ → Call
get id = called 1 (int id ∷ [])

abbrev pub add : ℕ → ℤ → Call
add id n = called 2 (int id ∷ Int n ∷ [])

abbrev pub move : ℕ → ℕ → ℕ → Call
move src dst n = called 3 (int src ∷ int dst ∷ int n ∷ [])

abbrev pub total : Call
total = called 4 []

-- of so many partitions, a call makes of a database another one, and answers rows
abbrev pub Answers : ℕ → Database → Call → Database → List Cells → Type 0
Answers parts db c new rows = call (plan parts) db c ≡ (new, reply.Ok (record { rows = rows }))

-- or it is aborted, and the database stays
abbrev pub Faults : ℕ → Database → Call → Fault → Type 0
Faults parts db c fault = call (plan parts) db c ≡ (db, reply.Abort (cause.Fault fault))

abbrev pub Ends : ℕ → Database → Call → List ℕ → Type 0
Ends parts db c text = call (plan parts) db c ≡ (db, reply.Abort (cause.User text))
