use Rattle.reply_laws.proofs.Laws.{ends-firm}
use Rattle.reply_laws.proofs.ends_are_of_firm_entries.Goals as goal

pub returns : goal.returns
returns g c = λ input w i h m l r there tells. ends-firm g.B.AnyDatabase.database input w i h l r there m tells
