use Rattle.volt_index.proofs.IndexLemmas.{is_index}
use Rattle.volt_index.proofs.index.Index.len.Goals as goal

pub returns-clause-rules : goal.returns-clause-rules
returns-clause-rules c = rw (← c.self.view_is) (is_index c.self.inside.unique c.self.inside.map.entries c.self.invariant c.len.ensures.ordered)
