use Rattle.std.proofs.Common.{ap, ◌∙◌}
use Rattle.volt_index.proofs.IndexLemmas.{put_shows, put_ties}
use Rattle.volt_index.proofs.index.Index.put.Goals as goal

pub invariant_of-self-2 : goal.invariant_of-self-2
invariant_of-self-2 c =
    put_ties c.self.inside.unique c.self.inside.map.entries c.insert.new.self.entries c.key.inside.entry.0 c.args.place c.in_ok-entry.entry c.self.invariant
    (c.in_ok-entry.ensures ∙ ap (λ n. (c.key.inside.entry.0, n)) c.tie.ensures) c.in_ok-insert.ensures.entries

pub returns-clause-put : goal.returns-clause-put
returns-clause-put c =
    rw (← c.self.view_is, ← c.key.view_is) (ap (λ es. record { unique = c.self.inside.unique; entries = es })
    (put_shows c.self.inside.unique c.self.inside.map.entries c.insert.new.self.entries c.key.inside.entry.0 c.args.place c.in_ok-entry.entry c.self.invariant
    (rw (← c.self.view_is, ← c.key.view_is) at c.requires)
    (c.in_ok-entry.ensures ∙ ap (λ n. (c.key.inside.entry.0, n)) c.tie.ensures) c.in_ok-insert.ensures.entries))
