use Rattle.std.proofs.Common.{sym, ◌∙◌}
use Rattle.table_store.proofs.StepLemmas.{length-past}
use Rattle.table_store.proofs.tables.Tables.begin_undo.Goals as goal

pub returns : goal.returns
returns c = rw (← c.self.view_is) (c.mark.ensures ∙ sym (length-past c.self.inside.undo.steps c.self.inside.tables.items))
