use Rattle.std.proofs.Common.{◌≡◌, ◌-◌}
use Rattle.sql_grammar.specs.Grammar.{parse, loop, at, joined}
use Rattle.ddl_parse.specs.Procedures.{many, step, steps}
use Rattle.ddl_parse.proofs.program.StepRules.many.Given as goal

abbrev pub invariant-loop-turn : goal.invariant-loop-turn
invariant-loop-turn g l = parse (many (step l.self.depth (steps l.self.depth))) l.fn.tokens ≡ loop joined (at (step l.self.depth (steps l.self.depth))) (parse (step l.self.depth (steps l.self.depth))) (l._turn-end - l._turn) l.found l.tokens
