use Rattle.disk_laws.specs.Survival.{firm_entries}
use Rattle.transaction_laws.proofs.Runs.Laws.{ends-firm}
use Rattle.transaction_laws.proofs.Runs.Told.{all-answered}
use Rattle.transaction_laws.proofs.answers_of_initiators_are_of_firm_entries.Goals as goal

pub returns : goal.returns
returns g c = let E = g.B.AnyDatabase.database in record {
  ends = λ input w h g call e l r i is. ends-firm E input w r h g l i call e is;
  applied = λ input w h g call e l p r i is part. all-answered E w.deployment (firm_entries w) call e (ends-firm E input w r h g l i call e is) p part;
}
