use Rattle.std.proofs.Common.{◌∙◌, ap, map}
use Rattle.volt_catalog.specs.Names.{lower}
use Rattle.volt_catalog.proofs.NameLemmas.{found_at}
use Rattle.volt_catalog.proofs.names.Names.number.Goals as goal

pub returns-else-name-le-SHORT : goal.returns-else-name-le-SHORT
returns-else-name-le-SHORT c =
    found_at (λ name. name.items) c.as_slice.result.now c.args.self.now (lower c.as_bytes-name.result.now) (lower c.args.name.now) c.number_among.result
    (ap (map (λ name. name.items)) c.as_slice.ensures.keys ∙ c.self.view_is) (ap lower c.as_bytes-name.ensures.value) c.number_among.ensures
