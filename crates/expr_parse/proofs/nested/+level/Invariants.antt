use Rattle.expr_parse.proofs.nested.+level.Given as goal

abbrev pub decreases-level : goal.decreases-level
decreases-level l = l.depth
