use Rattle.std.proofs.Common.{◌≡◌, ◌∙◌, refl, sym, ap, subst, ℕ, zero, suc, ◌<◌, ℤ, pos, List, [], ◌∷◌, Some, None, Result, Ok, lit<, lit≤, arith}
use Rattle.std.proofs.lemmas.Int.{fits_signed_from_abs}
use Rattle.std.specs.Int.{w128}
use Rattle.byte_codec.specs.Exactness.{IsWide}
use Rattle.sql_plan.specs.declared.fault.Fault.{Fault}
use Rattle.sql_plan.specs.declared.partial.Gathered.TheVariants as gathered
use Rattle.sql_plan.specs.declared.partial.Partial.TheVariants as partial
use Rattle.sql_plan.specs.declared.program.ProgramStep.TheOpen.{ProgramStep-F as s}
use Rattle.sql_plan.specs.declared.program.Returned.TheVariants as returned
use Rattle.sql_plan.specs.Rows.{Cells}
use Rattle.sql_meaning.proofs.Meanings.{meanings}
use Rattle.sql_meaning.specs.Programs.{Talk, Returns, at_start, keep_rows, or_abort, step_does}
use Rattle.sql_meaning.specs.Rounds.{round_answer}
use Rattle.sql_meaning.specs.Starter.{catalog, plan, plain, total_balance}
use Rattle.sql_scenarios.specs.Builders.{ids}
use Rattle.sql_instances.specs.Instances.{three}
use Rattle.sql_instances.proofs.Premises.{is_plan, database-three}
use Rattle.sql_wire.specs.declared.answers.Answer.{Answer}
use Rattle.sql_wire.specs.declared.answers.Answer.TheVariants as answer
use Rattle.sql_wire.specs.declared.bodies.RoundBody.TheVariants as round
use Rattle.sql_wire.specs.Spelled.{AnswerFits}
use Rattle.engine_meaning.specs.Entries.{answer_to_round}
use Rattle.engine_meaning.specs.Coordinator.{Wants, Ends, come_to, told, next}
use Rattle.engine_meaning.specs.Rounds.{Runs, ends, goes_on, AreSpelled, answers, entry_of}
use Rattle.engine_meaning.proofs.InRounds.{answered}
use Rattle.engine_instances.specs.Instances.{greatest, shared, summed, total, sum_of_all}
use Rattle.engine_instances.proofs.total_in_a_round.Goals as goal

-- the sum of one partition
abbrev part : ℤ → Answer
part z = answer.Outcome (Ok (partial.Groups (record { key = []; gathered = gathered.Sum (Some z) ∷ [] } ∷ []) None))

part_0 : answer_to_round (plan 3) (shared 0) (Some (round.Statement sum_of_all)) ≡ part (pos 1)
part_0 = simp meanings

part_1 : answer_to_round (plan 3) (shared 1) (Some (round.Statement sum_of_all)) ≡ part (pos 9223372036854775805)
part_1 = simp meanings

part_2 : answer_to_round (plan 3) (shared 2) (Some (round.Statement sum_of_all)) ≡ part (pos 1)
part_2 = simp meanings

spelled : AreSpelled (plan 3) sum_of_all shared
spelled = record { statement = (lit< tt, (lit< tt, (lit< tt, tt))); answers = each }
  where
    fits : {z : ℤ} → IsWide z → AnswerFits (part z)
    fits wide = (tt, (lit< tt, (((lit< tt, tt), (lit< tt, (wide, tt))), tt)))

    each : (p : ℕ) → p < 3 → AnswerFits (answer_to_round (plan 3) (shared p) (Some (round.Statement sum_of_all)))
    each zero below = subst AnswerFits (sym part_0) (fits (fits_signed_from_abs w128 (pos 1) (lit< tt)))
    each (suc zero) below = subst AnswerFits (sym part_1) (fits (fits_signed_from_abs w128 (pos 9223372036854775805) (lit< tt)))
    each (suc (suc zero)) below = subst AnswerFits (sym part_2) (fits (fits_signed_from_abs w128 (pos 1) (lit< tt)))
    each (suc (suc (suc p))) below = absurd (omega (arith, below))

asked : next (plan 3) total [] ≡ Wants sum_of_all
asked = simp meanings

-- how Total goes on behind its statement
abbrev goes : Result (List Cells) Fault → Talk
goes r =
    or_abort r (λ rows. step_does (s.Return (returned.Result 0))
    (keep_rows (record (at_start (plain 0 total_balance) []) { steps = 1; statements = 1 }) (Some 0) rows) (λ known. Returns []))

unfolds : (a : List (List ℕ)) → next (plan 3) total (a ∷ []) ≡ told 4 (plain 0 total_balance) (goes (come_to (Some total_balance) a)) []
unfolds a = simp meanings

sums : round_answer 3 catalog (Some total_balance) [] (λ p. (shared p).tables) ≡ Ok (ids (9223372036854775807 ∷ []))
sums = simp meanings

ended : next (plan 3) total (answers (plan 3) (entry_of 1 1 sum_of_all) shared ∷ []) ≡ Ends greatest
ended =
    unfolds (answers (plan 3) (entry_of 1 1 sum_of_all) shared)
    ∙ ap (λ r. told 4 (plain 0 total_balance) (goes r) [])
    (answered (plan 3) total 1 _ refl 0 [] sum_of_all refl 1 shared spelled (λ p. (shared p).tables) (λ p. (shared p).tables)
    (record { numbered = λ p below. refl; tables = λ p below. refl; saved = λ p below. refl }) ∙ sums)

pub returns : goal.returns
returns c =
    let runs : Runs (plan 3) total 1 [] shared summed greatest = goes_on {fed = []} sum_of_all asked spelled (ends ended) in
    record {
      reads = c.coordinators_read_their_call.ensures (plan 3) total [] (lit< tt, (lit< tt, tt));
      runs = runs;
      carried = c.calls_in_rounds_end_as_they_mean.ensures (plan 3) three total 1 shared summed greatest (is_plan 3 (lit≤ tt) (lit≤ tt)) database-three refl
          (record { numbered = λ part below. refl; tables = λ part below. refl; closed = λ part below. refl }) runs;
    }
