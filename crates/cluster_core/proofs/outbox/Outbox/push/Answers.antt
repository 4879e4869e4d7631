use Rattle.cluster_core.proofs.Sends.{sent_to-push}
use Rattle.cluster_core.proofs.outbox.Outbox.push.Goals as goal

pub returns-clause-sends : goal.returns-clause-sends
returns-clause-sends c = λ b. rw (c.in_ok-push_back.ensures.items, ← c.self.view_is) (sent_to-push b c.args.to c.args.msg c.self.inside.messages.items)
