use Rattle.cluster_core.proofs.ReadyLemmas.{IsInOrder-shown, AreAllRoutes-shown}
use Rattle.cluster_core.proofs.channels.Channels.first.Goals as goal

pub returns-then-not-is_empty-clause-ordered : goal.returns-then-not-is_empty-clause-ordered
returns-then-not-is_empty-clause-ordered c = IsInOrder-shown c.self.inside.queues.entries c.iter-route-items.ensures.ordered c.args.self.now c.self.view_is

pub returns-then-not-is_empty-clause-all : goal.returns-then-not-is_empty-clause-all
returns-then-not-is_empty-clause-all c = AreAllRoutes-shown c.self.inside.queues.entries c.iter-route-items.ensures.ordered c.args.self.now c.self.view_is

pub returns-clause-ordered : goal.returns-clause-ordered
returns-clause-ordered c = IsInOrder-shown c.self.inside.queues.entries c.iter-route-items.ensures.ordered c.args.self.now c.self.view_is

pub returns-clause-all : goal.returns-clause-all
returns-clause-all c = AreAllRoutes-shown c.self.inside.queues.entries c.iter-route-items.ensures.ordered c.args.self.now c.self.view_is
