use Rattle.std.proofs.Common.{◌∙◌, ap}
use Rattle.volt_catalog.specs.Names.{lower}
use Rattle.volt_catalog.proofs.NameLemmas.{fresh_at}
use Rattle.volt_catalog.proofs.names.Names.add.Goals as goal

pub returns-clause-fresh : goal.returns-clause-fresh
returns-clause-fresh c =
    fresh_at (λ name. name.items) c.self.inside.lowered.keys c.args.self.now c.in_ok-lowered.lowered.items (lower c.args.name.now) c.in_ok-insert.field-0 c.self.view_is
    (c.in_ok-lowered.ensures ∙ ap lower c.as_bytes.ensures.value) c.in_ok-insert.ensures.added
