use Rattle.sql_merge.proofs.PutLemmas.{sorted-is}
use Rattle.sql_merge.proofs.entries.in_order.Goals as goal

pub returns : goal.returns
returns g c = λ join. sorted-is g.K.Ord.cmp g.met.K.Ord.total join c.args.entries.items c.sort.new.self.items c.in_ok-sort.ensures.sorted c.in_ok-sort.ensures.stable
