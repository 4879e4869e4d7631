use Rattle.engine_meaning.proofs.InRounds.{carried-out}
use Rattle.engine_meaning.proofs.calls_in_rounds_end_as_they_mean.Goals as goal

pub returns : goal.returns
returns g = λ plan db c transaction states last answer is_plan is none shares runs. carried-out plan is_plan db c is none transaction states last answer shares runs
