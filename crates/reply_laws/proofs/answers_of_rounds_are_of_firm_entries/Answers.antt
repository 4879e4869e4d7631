use Rattle.reply_laws.proofs.Laws.{rounds-firm}
use Rattle.reply_laws.proofs.answers_of_rounds_are_of_firm_entries.Goals as goal

pub returns : goal.returns
returns g c = λ input w i h m round partial l r there tells. rounds-firm g.B.AnyDatabase.database input w i h l r there m round partial tells
