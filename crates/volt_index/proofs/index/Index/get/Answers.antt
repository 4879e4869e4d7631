use Rattle.std.proofs.Common.{◌∙◌}
use Rattle.volt_index.proofs.IndexLemmas.{lookup_is, first_is}
use Rattle.volt_index.proofs.index.Index.get.Goals as goal

pub returns-then-self : goal.returns-then-self
returns-then-self c =
    rw (← c.self.view_is, ← c.key.view_is) (c.copied.ensures ∙ c.get.ensures.value
    ∙ lookup_is c.self.inside.unique c.self.inside.map.entries c.key.inside.entry c.if-self.true c.self.invariant c.key.invariant)

pub returns-else-self : goal.returns-else-self
returns-else-self c =
    rw (← c.self.view_is, ← c.key.view_is) (c.first_at.ensures.first
    ∙ first_is c.self.inside.map.entries c.key.inside.entry c.key.invariant c.first_at.ensures.ordered)
