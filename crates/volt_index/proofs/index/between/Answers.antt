use Rattle.std.proofs.Common.{ap, sym, ◌∙◌}
use Rattle.std.proofs.lemmas.Cmp.{tied_itself}
use Rattle.std.specs.Ordering.{is_gt}
use Rattle.volt_index.specs.Entries.{entry_total}
use Rattle.volt_index.proofs.IndexLemmas.{nothing_between}
use Rattle.volt_index.proofs.index.between.Goals as goal

pub returns-else-le-clause-forward : goal.returns-else-le-clause-forward
returns-else-le-clause-forward c = ap is_gt (tied_itself entry_total c.args.to.now)

pub returns-else-le-clause-contains : goal.returns-else-le-clause-contains
returns-else-le-clause-contains c key tie =
    nothing_between c.args.from.now c.args.to.now key tie c.requires.from c.requires.to (sym c.le.ensures ∙ c.if-le.false)
