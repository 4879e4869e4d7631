use Rattle.transaction_laws.proofs.Runs.Laws.{answers-firm}
use Rattle.transaction_laws.proofs.answers_to_clients_are_of_firm_entries.Goals as goal

pub returns : goal.returns
returns g c = λ input w h n call e l r i is. answers-firm g.B.AnyDatabase.database input w r h n l i call e is
