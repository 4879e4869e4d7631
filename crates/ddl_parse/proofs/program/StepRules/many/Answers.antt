use Rattle.std.proofs.Common.{◌≡◌, true, rules}
use Rattle.sql_grammar.specs.Grammar.{parse, at, joined}
use Rattle.ddl_parse.specs.Procedures.{step, steps}
use Rattle.expr_parse.proofs.Loops.{turned}
use Rattle.ddl_parse.proofs.program.StepRules.many.Goals as goal

pub loop-turn-preserved : goal.loop-turn-preserved
loop-turn-preserved g c =
    let h = step c.args.self.now.depth (steps c.args.self.now.depth) in
    let begun : at h c.loop-turn.tokens ≡ true = search rules in
    turned joined (at h) (parse h) _ _ c.loop-turn._turn c.loop-turn.found c.loop-turn.tokens c.in_ok-step.field-0 _ _
    c.loop-turn-test.true c.loop-turn.invariant begun c.in_ok-step.ensures c.in_ok-push.ensures.ok
