-- A balance moves from one account to another one, or it doesn't.
use Rattle.std.proofs.Common.{◌≡◌, ℕ, true, false, List, [], ◌∷◌, map, length, drop, codes, pos, Some, None, Ok, refl, ap, ◌∙◌}
use Rattle.expr_parse.specs.declared.expression.Arithmetic.TheVariants.{Add, Subtract}
use Rattle.expr_parse.specs.declared.expression.Comparison.TheVariants as compare
use Rattle.volt_value.specs.declared.value.Value.TheVariants.{Int}
use Rattle.sql_plan.specs.declared.expression.Scalar.TheVariants.{Literal, Column as Col, Param, Chain}
use Rattle.sql_plan.specs.declared.expression.Cond.{Cond}
use Rattle.sql_plan.specs.declared.expression.Cond.TheVariants.{Compare, Or}
use Rattle.sql_plan.specs.declared.prepared.Scope.TheVariants.{AllPartitions}
use Rattle.sql_plan.specs.declared.program.ProgramStep.{ProgramStep}
use Rattle.sql_plan.specs.declared.program.ProgramStep.TheVariants.{Sql, If, Abort, Return}
use Rattle.sql_plan.specs.declared.program.ProgramValue.{ProgramValue}
use Rattle.sql_plan.specs.declared.program.ProgramValue.TheVariants.{Variable, Rows, First}
use Rattle.sql_plan.specs.declared.program.Returned.TheVariants.{Values}
use Rattle.sql_plan.specs.declared.reply.Cause.TheVariants as cause
use Rattle.sql_plan.specs.declared.reply.ProcReply.TheVariants as reply
use Rattle.sql_plan.specs.Rows.{Cells}
use Rattle.sql_meaning.specs.Values.{at}
use Rattle.sql_meaning.specs.Expressions.{holds}
use Rattle.sql_meaning.specs.Statements.{means}
use Rattle.sql_meaning.specs.Programs.{Known, Goes, Returns, cells_at, all_of, does, at_start}
use Rattle.sql_meaning.specs.Calls.{ran}
use Rattle.sql_meaning.specs.Starter.{catalog, balance_of, update_balance, move}
use Rattle.sql_meaning.proofs.Meanings.{meanings, does_Abort}
use Rattle.sql_scenarios.specs.Accounts.{two, taken, moved}
use Rattle.sql_scenarios.specs.Builders.{int, ids, counted}
use Rattle.sql_scenarios.proofs.Runs.{later, with_answer, end, sql-ends, if-ends, return-ends}

-- ---- the program's steps

abbrev read : ℕ → ℕ → ProgramStep
read variable result = Sql result (Variable variable ∷ []) (Some result)

abbrev asked : List ProgramValue
asked = Rows 0 ∷ Rows 1 ∷ First 0 0 ∷ Variable 2 ∷ []

abbrev refused : Cond
refused =
    Or (
    Compare compare.Equal (Param 0) (Literal (Int (pos 0)))
    ∷ Compare compare.Equal (Param 1) (Literal (Int (pos 0)))
    ∷ Compare compare.Less (Param 2) (Param 3)
    ∷ [])

abbrev rest : List ProgramStep
rest =
    Sql 2 (Variable 2 ∷ Variable 0 ∷ []) None
    ∷ Sql 3 (Variable 2 ∷ Variable 1 ∷ []) None
    ∷ Return (Values (First 0 0 ∷ Variable 2 ∷ []) (Chain (Param 0) ((Subtract, Param 1) ∷ []) ∷ []))
    ∷ []

abbrev last : Goes
last known = Returns []

-- ---- behind both reads: the reply depends on what they gave

module _ (src dst n : ℕ) where
  abbrev start : Known
  start = at_start move (int src ∷ int dst ∷ int n ∷ [])

  abbrev read_both : List Cells → List Cells → Known
  read_both xs ys = with_answer (with_answer start (Some 0) xs) (Some 1) ys

  reads : (xs ys : List Cells) → means 3 catalog None (balance_of AllPartitions) (int src ∷ []) two ≡ Ok (two, xs) → means 3 catalog None (balance_of AllPartitions) (int dst ∷ []) two ≡ Ok (two, ys)
      → ran 3 catalog None move (int src ∷ int dst ∷ int n ∷ []) two
      ≡ end 3 catalog move (does (If asked refused (Abort (codes "cannot move") ∷ []) []) (read_both xs ys) (λ known. all_of (map does rest) known last)) two
  reads xs ys first second =
      sql-ends 3 catalog move 0 (Variable 0 ∷ []) (Some 0) start (λ known. all_of (map does (read 1 1 ∷ If asked refused (Abort (codes "cannot move") ∷ []) [] ∷ rest)) known last) two (balance_of AllPartitions) (two, xs) refl refl refl first
      ∙ sql-ends 3 catalog move 1 (Variable 1 ∷ []) (Some 1) (with_answer start (Some 0) xs) (λ known. all_of (map does (If asked refused (Abort (codes "cannot move") ∷ []) [] ∷ rest)) known last) two (balance_of AllPartitions) (two, ys) refl refl refl second

  refuses : (xs ys : List Cells) → means 3 catalog None (balance_of AllPartitions) (int src ∷ []) two ≡ Ok (two, xs) → means 3 catalog None (balance_of AllPartitions) (int dst ∷ []) two ≡ Ok (two, ys)
      → holds refused [] (Int (pos (length xs)) ∷ Int (pos (length ys)) ∷ at (cells_at xs 0) 0 ∷ int n ∷ []) ≡ Ok true
      → ran 3 catalog None move (int src ∷ int dst ∷ int n ∷ []) two ≡ (two, reply.Abort (cause.User (codes "cannot move")))
  refuses xs ys first second judged =
      reads xs ys first second
      ∙ if-ends 3 catalog move asked refused (Abort (codes "cannot move") ∷ []) [] true (read_both xs ys) (λ known. all_of (map does rest) known last) two refl judged
      ∙ ap (λ t. end 3 catalog move t two) (does_Abort (later (read_both xs ys)) (λ known. all_of (map does rest) known last) (codes "cannot move"))

-- ---- what its statements give

source : means 3 catalog None (balance_of AllPartitions) (int 1 ∷ []) two ≡ Ok (two, ids (10 ∷ []))
source = simp meanings

destination : means 3 catalog None (balance_of AllPartitions) (int 2 ∷ []) two ≡ Ok (two, ids (5 ∷ []))
destination = simp meanings

nowhere : means 3 catalog None (balance_of AllPartitions) (int 3 ∷ []) two ≡ Ok (two, [])
nowhere = simp meanings

take : means 3 catalog None (update_balance AllPartitions (Chain (Col 1) ((Subtract, Param 0) ∷ []))) (int 4 ∷ int 1 ∷ []) two ≡ Ok (taken, counted 1)
take = simp meanings

give : means 3 catalog None (update_balance AllPartitions (Chain (Col 1) ((Add, Param 0) ∷ []))) (int 4 ∷ int 2 ∷ []) taken ≡ Ok (moved, counted 1)
give = simp meanings

-- ---- runs

pub moves : ran 3 catalog None move (int 1 ∷ int 2 ∷ int 4 ∷ []) two ≡ (moved, reply.Ok (record { rows = ids (6 ∷ []) }))
moves =
    let behind_if = later (read_both 1 2 4 (ids (10 ∷ [])) (ids (5 ∷ []))) in
    reads 1 2 4 (ids (10 ∷ [])) (ids (5 ∷ [])) source destination
    ∙ if-ends 3 catalog move asked refused (Abort (codes "cannot move") ∷ []) [] false (read_both 1 2 4 (ids (10 ∷ [])) (ids (5 ∷ []))) (λ known. all_of (map does rest) known last) two refl (simp meanings)
    ∙ sql-ends 3 catalog move 2 (Variable 2 ∷ Variable 0 ∷ []) None behind_if (λ known. all_of (map does (drop 1 rest)) known last) two (update_balance AllPartitions (Chain (Col 1) ((Subtract, Param 0) ∷ []))) (taken, counted 1) refl refl refl take
    ∙ sql-ends 3 catalog move 3 (Variable 2 ∷ Variable 1 ∷ []) None (with_answer behind_if None (counted 1)) (λ known. all_of (map does (drop 2 rest)) known last) taken (update_balance AllPartitions (Chain (Col 1) ((Add, Param 0) ∷ []))) (moved, counted 1) refl refl refl give
    ∙ return-ends 3 catalog move (First 0 0 ∷ Variable 2 ∷ []) (Chain (Param 0) ((Subtract, Param 1) ∷ []) ∷ []) (int 6 ∷ []) (with_answer (with_answer behind_if None (counted 1)) None (counted 1)) last moved refl (simp meanings)

pub too_much : ran 3 catalog None move (int 1 ∷ int 2 ∷ int 11 ∷ []) two ≡ (two, reply.Abort (cause.User (codes "cannot move")))
too_much = refuses 1 2 11 (ids (10 ∷ [])) (ids (5 ∷ [])) source destination (simp meanings)

pub no_account : ran 3 catalog None move (int 1 ∷ int 3 ∷ int 4 ∷ []) two ≡ (two, reply.Abort (cause.User (codes "cannot move")))
no_account = refuses 1 3 4 (ids (10 ∷ [])) [] source nowhere (simp meanings)
