use Rattle.std.proofs.Common.{◌≡◌, ◌-◌, length, take, drop, ap, ◌∙◌}
use Rattle.expr_parse.specs.declared.levels.Level.TheVariants.{Whole}
use Rattle.expr_parse.specs.Expressions.{expr, level, max_tokens}
use Rattle.expr_parse.proofs.ExpressionsOk.{level-ok}
use Rattle.expr_parse.proofs.Cut.{cut}
use Rattle.expr_parse.proofs.nested.expr.Goals as goal

pub returns : goal.returns
unfolding expr
returns c =
    let ts = c.args.tokens.now in
    let size : c.saturating_sub.result ≡ length (take max_tokens c.args.tokens.now) - length c.level-read.new.tokens = cc in
    cut (level c.args.depth Whole) (level-ok c.args.depth Whole) max_tokens ts c.level-read.new.tokens c.advance.new.self c.level-read.result
    (rw c.prefix-prefix.ensures at c.level-read.ensures) (c.advance.ensures ∙ ap (λ n. drop n ts) size)
