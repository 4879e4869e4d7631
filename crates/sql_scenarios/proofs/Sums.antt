-- A program that sums the rows of a result.
use Rattle.std.proofs.Common.{◌≡◌, List, [], ◌∷◌, map, drop, Some, None, refl, ◌∙◌}
use Rattle.sql_plan.specs.declared.reply.ProcReply.TheVariants as reply
use Rattle.sql_plan.specs.Rows.{Cells}
use Rattle.sql_meaning.specs.Calls.{ran}
use Rattle.sql_meaning.specs.Programs.{Returns, all_of, does, at_start}
use Rattle.sql_meaning.specs.Starter.{catalog}
use Rattle.sql_meaning.proofs.Meanings.{meanings}
use Rattle.sql_scenarios.specs.Accounts.{sum_in_program, two, two_least}
use Rattle.sql_scenarios.specs.Builders.{int}
use Rattle.sql_scenarios.proofs.Runs.{sql-ends}

abbrev least : List Cells
least = (int 2 ∷ int 5 ∷ []) ∷ (int 1 ∷ int 10 ∷ []) ∷ []

pub sums : ran 3 catalog None sum_in_program [] two ≡ (two, reply.Ok (record { rows = (int 15 ∷ int 2 ∷ int 2 ∷ []) ∷ [] }))
sums =
    sql-ends 3 catalog sum_in_program 0 [] (Some 0) (at_start sum_in_program []) (λ known. all_of (map does (drop 1 sum_in_program.steps)) known (λ known. Returns []))
    two two_least (two, least) refl refl refl (simp meanings)
    ∙ simp meanings
