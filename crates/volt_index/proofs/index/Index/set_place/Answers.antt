use Rattle.std.proofs.Common.{List, ℕ, is_some, ap, ◌∙◌}
use Rattle.volt_index.proofs.IndexLemmas.{lookup_is, set_shows, set_ties}
use Rattle.volt_index.proofs.index.Index.set_place.Goals as goal

pub invariant_of-self : goal.invariant_of-self
invariant_of-self c =
    let s = c.self.inside in
    set_ties s.unique s.map.entries c.set_unique.new.map.entries c.key.inside.entry c.args.place (rw (← c.self.view_is) at c.requires) c.self.invariant c.set_unique.ensures.entries

pub returns-clause-held : goal.returns-clause-held
returns-clause-held c =
    let s = c.self.inside in
    rw (← c.self.view_is, ← c.key.view_is) (c.set_unique.ensures.held
    ∙ ap is_some (lookup_is s.unique s.map.entries c.key.inside.entry (rw (← c.self.view_is) at c.requires) c.self.invariant c.key.invariant))

pub returns-clause-set : goal.returns-clause-set
returns-clause-set c =
    let s = c.self.inside in
    rw (← c.self.view_is, ← c.key.view_is) (ap (λ (es : List (List ℕ × ℕ)). record { unique = s.unique; entries = es })
    (set_shows s.unique s.map.entries c.set_unique.new.map.entries c.key.inside.entry c.args.place (rw (← c.self.view_is) at c.requires) c.self.invariant c.key.invariant c.set_unique.ensures.entries))
