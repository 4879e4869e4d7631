use Rattle.cluster_core.proofs.ReadyLemmas.{IsInOrder-shown, AreAllRoutes-shown}
use Rattle.cluster_core.proofs.channels.Channels.add_deliveries.Goals as goal

pub returns-in_err-push-clause-ordered : goal.returns-in_err-push-clause-ordered
returns-in_err-push-clause-ordered c = IsInOrder-shown c.self.inside.queues.entries c.iter-route-items.ensures.ordered c.args.self.now c.self.view_is

pub returns-in_err-push-clause-all : goal.returns-in_err-push-clause-all
returns-in_err-push-clause-all c = AreAllRoutes-shown c.self.inside.queues.entries c.iter-route-items.ensures.ordered c.args.self.now c.self.view_is

pub returns-clause-ordered : goal.returns-clause-ordered
returns-clause-ordered c = IsInOrder-shown c.self.inside.queues.entries c.iter-route-items.ensures.ordered c.args.self.now c.self.view_is

pub returns-clause-all : goal.returns-clause-all
returns-clause-all c = AreAllRoutes-shown c.self.inside.queues.entries c.iter-route-items.ensures.ordered c.args.self.now c.self.view_is
