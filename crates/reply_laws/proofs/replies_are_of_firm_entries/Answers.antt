use Rattle.reply_laws.proofs.Laws.{replies-firm}
use Rattle.reply_laws.proofs.replies_are_of_firm_entries.Goals as goal

pub returns : goal.returns
returns g c = λ input w i h call end l r there tells. replies-firm g.B.AnyDatabase.database input w i h l r there call end tells
