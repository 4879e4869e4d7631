use Rattle.std.proofs.Common.{◌∙◌}
use Rattle.volt_index.proofs.IndexLemmas.{clash_is}
use Rattle.volt_index.proofs.index.Index.clash.Goals as goal

pub returns-then-self : goal.returns-then-self
returns-then-self c =
    rw (← c.self.view_is, ← c.key.view_is) (c.copied.ensures ∙ c.get.ensures.value
    ∙ clash_is c.self.inside.unique c.self.inside.map.entries c.key.inside.entry c.if-self.true c.self.invariant c.key.invariant)
