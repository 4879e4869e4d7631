use Rattle.std.proofs.Common.{arith, ◌∙◌}
use Rattle.sql_grammar.proofs.Digits.{is_small, is_great}
use Rattle.sql_grammar.proofs.words.number_value.Goals as goal

pub returns-then-value-digit-clause-value : goal.returns-then-value-digit-clause-value
returns-then-value-digit-clause-value c = is_great _ c.loop-digit.value c.loop-digit.digit-index c.from-digit.result c.loop-digit.invariant.value (omega arith) (c.from-digit.ensures ∙ c.saturating_sub.ensures) (omega arith)

pub returns-clause-value : goal.returns-clause-value
returns-clause-value c = is_small _ c.loop-digit.value c.loop-digit.digit-index c.loop-digit.invariant.value (omega arith) c.loop-digit.invariant.within
