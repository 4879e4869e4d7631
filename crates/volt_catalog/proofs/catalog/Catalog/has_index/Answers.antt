use Rattle.volt_catalog.proofs.CatalogLemmas.{index_named}
use Rattle.volt_catalog.proofs.catalog.Catalog.has_index.Goals as goal

pub returns : goal.returns
returns c =
    index_named c.self.inside c.args.self.now c.as_str.result.now c.args.name.now c.number.result c.is_some.result c.self.invariant c.self.view_is c.as_str.ensures c.number.ensures c.is_some.ensures
