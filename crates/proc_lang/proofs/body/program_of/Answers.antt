use Rattle.std.proofs.Common.{◌∙◌, ap, map, ℕ, List}
use Rattle.sql_resolve.specs.Bound.{Heads}
use Rattle.proc_lang.specs.Bodies.{classes_of}
use Rattle.proc_lang.proofs.StepLemmas.{program_is}
use Rattle.proc_lang.proofs.body.program_of.Goals as goal

pub returns : goal.returns
returns c = program_is c.args.draft c.args.steps _ _ (c.in_ok-variables.ensures ∙ ap classes_of c.as_slice.ensures)
    (c.in_ok-results.ensures ∙ ap (λ (results : List (List ℕ × Heads)). map (λ (made : List ℕ × Heads). classes_of made.1) results) c.as_slice-2.ensures)
