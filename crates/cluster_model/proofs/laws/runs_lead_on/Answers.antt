use Rattle.cluster_model.proofs.Runs.{runs-to, runs-lead, runs-in-epoch, any-epoch, reached-on, run-first}
use Rattle.cluster_model.proofs.laws.runs_lead_on.Goals as goal

pub returns : goal.returns
returns g c = let E = g.B.AnyDatabase.database in record {
  on = λ w es more r. (runs-to E es w (run-first E es more w r), runs-lead E es more w r);
  in_epoch = λ w es more r one. runs-in-epoch E es more w r one;
  reached = λ input v w r s. reached-on E input v w r s;
  any = λ v w r. any-epoch E v w r;
}
