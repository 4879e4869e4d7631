use Rattle.std.proofs.Common.{sym, ap, ◌∙◌}
use Rattle.std.specs.BTreeMap.{is_at}
use Rattle.volt_index.specs.Entries.{entry_cmp}
use Rattle.volt_index.proofs.IndexLemmas.{set_none}
use Rattle.volt_index.proofs.index.set_unique.Goals as goal

pub returns-in-None-clause-entries : goal.returns-in-None-clause-entries
returns-in-None-clause-entries c =
    ap (λ m. m.entries) c.get_mut.follows.holds-at-none
    ∙ set_none c.args.map.now.entries (is_at (entry_cmp c.args.entry.now)) c.args.place (sym c.in-None.ensures.value)
