use Rattle.std.proofs.Common.{sym, ◌∙◌}
use Rattle.partition_ring.proofs.CopyLemmas.{put_copy}
use Rattle.partition_ring.proofs.layout.Layout.put_copy.Goals as goal

pub returns-in_ok-insert : goal.returns-in_ok-insert
returns-in_ok-insert c =
    put_copy c.args.self.now.hosts c.args.members.now c.args.ordered.now.keys c.insert.new.self.keys c.args.slot c.in-Some.start
    (sym c.start_of.ensures ∙ c.in-Some.is) c.in_ok-insert.ensures.keys
