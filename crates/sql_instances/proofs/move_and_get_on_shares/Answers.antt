use Rattle.std.proofs.Common.{[], ◌∷◌, ap, ◌∙◌, lit≤}
use Rattle.sql_plan.specs.declared.reply.ProcReply.{ProcReply}
use Rattle.sql_plan.specs.declared.reply.ProcReply.TheVariants as reply
use Rattle.sql_meaning.specs.Calls.{call}
use Rattle.sql_meaning.specs.Database.{Database}
use Rattle.sql_meaning.specs.Starter.{plan}
use Rattle.sql_scenarios.specs.Accounts.{get, move, two}
use Rattle.sql_scenarios.specs.Builders.{ids}
use Rattle.sql_instances.proofs.Premises.{is_plan, database-two}
use Rattle.sql_instances.proofs.move_and_get_on_shares.Goals as goal

pub returns : goal.returns
returns c =
    let law = c.runs_on_shares_give_what_they_mean.ensures (plan 3) two (move 1 2 4 ∷ get 1 ∷ []) (is_plan 3 (lit≤ tt) (lit≤ tt)) database-two in
    let whole = c.balances_move.ensures in
    record {
      run = law;
      replies =
          law.replies
          ∙ ap (λ (first : Database × ProcReply). first.1 ∷ (call (plan 3) first.0 (get 1)).1 ∷ []) whole.enough
          ∙ ap (λ (second : Database × ProcReply). reply.Ok (record { rows = ids (6 ∷ []) }) ∷ second.1 ∷ []) whole.read_behind;
    }
