use Rattle.std.proofs.Common.{List, ℕ, ap, sym, subst}
use Rattle.std.specs.BTreeMap.{is_at}
use Rattle.volt_index.specs.Entries.{entry_cmp}
use Rattle.volt_index.specs.Held.{AreTied}
use Rattle.volt_index.proofs.IndexLemmas.{take_unique_shows, take_unique_ties, take_plain_shows, AreTied-remove}
use Rattle.volt_index.proofs.index.Index.remove.Goals as goal

pub invariant_of-self : goal.invariant_of-self
invariant_of-self c =
    take_unique_ties c.self.inside.unique c.take_unique.result c.self.inside.map.entries c.take_unique.new.map.entries c.key.inside.entry c.self.invariant c.take_unique.ensures.entries

pub invariant_of-self-else-self : goal.invariant_of-self-else-self
invariant_of-self-else-self c =
    subst (AreTied c.self.inside.unique) (sym c.take_plain.ensures.entries)
    (AreTied-remove c.self.inside.unique c.self.inside.map.entries (is_at (entry_cmp (c.key.inside.entry.0, c.args.place))) c.self.invariant)

pub returns-then-self-clause-held : goal.returns-then-self-clause-held
returns-then-self-clause-held c =
    rw (← c.self.view_is, ← c.key.view_is) (take_unique_shows c.self.inside.unique c.take_unique.result c.self.inside.map.entries c.take_unique.new.map.entries
    c.key.inside.entry c.args.place c.if-self.true c.self.invariant c.key.invariant c.take_unique.ensures.ordered c.take_unique.ensures.held c.take_unique.ensures.entries).0

pub returns-then-self-clause-removed : goal.returns-then-self-clause-removed
returns-then-self-clause-removed c =
    rw (← c.self.view_is, ← c.key.view_is) (ap (λ (es : List (List ℕ × ℕ)). record { unique = c.self.inside.unique; entries = es })
    (take_unique_shows c.self.inside.unique c.take_unique.result c.self.inside.map.entries c.take_unique.new.map.entries
    c.key.inside.entry c.args.place c.if-self.true c.self.invariant c.key.invariant c.take_unique.ensures.ordered c.take_unique.ensures.held c.take_unique.ensures.entries).1)

pub returns-else-self-clause-held : goal.returns-else-self-clause-held
returns-else-self-clause-held c =
    rw (← c.self.view_is, ← c.key.view_is) (take_plain_shows c.self.inside.unique c.take_plain.result c.self.inside.map.entries c.take_plain.new.map.entries
    c.key.inside.entry.0 c.args.place c.if-self.false c.self.invariant c.take_plain.ensures.held c.take_plain.ensures.entries).0

pub returns-else-self-clause-removed : goal.returns-else-self-clause-removed
returns-else-self-clause-removed c =
    rw (← c.self.view_is, ← c.key.view_is) (ap (λ (es : List (List ℕ × ℕ)). record { unique = c.self.inside.unique; entries = es })
    (take_plain_shows c.self.inside.unique c.take_plain.result c.self.inside.map.entries c.take_plain.new.map.entries
    c.key.inside.entry.0 c.args.place c.if-self.false c.self.invariant c.take_plain.ensures.held c.take_plain.ensures.entries).1)
