use Rattle.std.proofs.Common.{refl, ap, ◌∙◌, lit<, lit≤}
use Rattle.sql_plan.specs.declared.reply.ProcReply.{ProcReply}
use Rattle.sql_meaning.specs.Database.{Database, share}
use Rattle.sql_meaning.specs.Starter.{catalog, plan}
use Rattle.sql_scenarios.specs.Accounts.{move, two}
use Rattle.sql_instances.proofs.Premises.{is_plan, database-two}
use Rattle.sql_instances.proofs.move_in_rounds.Goals as goal

pub returns : goal.returns
returns c =
    let law = c.calls_in_rounds_give_what_they_mean.ensures (plan 3) two (move 1 2 4) (is_plan 3 (lit≤ tt) (lit≤ tt)) database-two refl in
    let whole = c.balances_move.ensures.enough in
    record {
      rounds = law;
      reply = law.reply ∙ ap (λ (end : Database × ProcReply). end.1) whole;
      source = law.shares 1 (lit< tt) ∙ ap (λ (end : Database × ProcReply). share 3 catalog 1 end.0) whole;
      destination = law.shares 2 (lit< tt) ∙ ap (λ (end : Database × ProcReply). share 3 catalog 2 end.0) whole;
    }
