use Rattle.ddl_parse.proofs.program.+steps.Given as goal

abbrev pub decreases-steps : goal.decreases-steps
decreases-steps l = l.depth
