use Rattle.std.proofs.Common.{◌∙◌, ap, is_some}
use Rattle.volt_catalog.specs.Names.{same_name}
use Rattle.volt_catalog.proofs.NameLemmas.{is_some-position}
use Rattle.volt_catalog.proofs.catalog.Catalog.has_table.Goals as goal

pub returns : goal.returns
returns c = c.is_some.ensures ∙ ap is_some c.table.ensures ∙ is_some-position (λ table. same_name c.args.name.now table.name) c.args.self.now.tables
