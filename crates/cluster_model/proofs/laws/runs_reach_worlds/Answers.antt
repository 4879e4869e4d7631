use Rattle.cluster_model.proofs.Runs.{runs-to}
use Rattle.cluster_model.specs.World.{first_world}
use Rattle.cluster_model.proofs.laws.runs_reach_worlds.Goals as goal

pub returns : goal.returns
returns g c = let E = g.B.AnyDatabase.database in record {
  each = λ input es is r. record { input = is; runs = runs-to E es (first_world E input) r };
  only = λ input w r. (r.input, (r.runs.happenings, r.runs.is_run, r.runs.comes));
}
