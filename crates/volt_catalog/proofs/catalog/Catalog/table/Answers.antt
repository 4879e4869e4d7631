use Rattle.std.proofs.Common.{Some, None, sym, ◌∙◌}
use Rattle.volt_catalog.proofs.CatalogLemmas.{number_is}
use Rattle.volt_catalog.proofs.catalog.Catalog.table.Goals as goal

pub returns-in-Some : goal.returns-in-Some
returns-in-Some c =
    number_is c.self.inside c.args.self.now c.as_str.result.now c.args.name.now (Some c.in-Some.number) c.self.invariant c.self.view_is c.as_str.ensures (sym c.in-Some.is ∙ c.number.ensures)

pub returns-in-None : goal.returns-in-None
returns-in-None c =
    number_is c.self.inside c.args.self.now c.as_str.result.now c.args.name.now None c.self.invariant c.self.view_is c.as_str.ensures (sym c.in-None.is ∙ c.number.ensures)
