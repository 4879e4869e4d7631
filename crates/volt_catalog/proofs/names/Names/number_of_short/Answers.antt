use Rattle.std.proofs.Common.{◌∙◌, ap}
use Rattle.volt_catalog.specs.Names.{lower}
use Rattle.volt_catalog.proofs.NameLemmas.{found_at}
use Rattle.volt_catalog.proofs.names.Names.number_of_short.Goals as goal

pub returns : goal.returns
returns c =
    found_at (λ name. name.items) c.self.inside.lowered.keys c.args.self.now c.make_ascii_lowercase.new.self (lower c.args.name.now) c.get_index_of.result c.self.view_is
    (c.make_ascii_lowercase.ensures.after ∙ ap lower c.copy_from_slice.ensures.after) c.get_index_of.ensures.index
