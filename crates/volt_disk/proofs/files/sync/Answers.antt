use Rattle.std.proofs.Common.{ap, sym, ◌∙◌}
use Rattle.volt_disk.specs.Stored.{stored_synced, stored_at}
use Rattle.volt_disk.proofs.FileLemmas.{set_value-none}
use Rattle.volt_disk.proofs.files.sync.Goals as goal

pub returns-in_default-clause-after : goal.returns-in_default-clause-after
returns-in_default-clause-after c =
    ap (λ m. m.entries) c.get_mut.follows.holds-at-none
    ∙ sym (set_value-none c.args.number c.args.files.now.entries (stored_synced (stored_at c.args.number c.args.files.now.entries)) (sym c.in_default.ensures.value))
