use Rattle.std.proofs.Common.{◌≡◌, ◌∷◌}
use Rattle.cluster_core.proofs.Sends.{sends_submit}
use Rattle.cluster_core.proofs.client.Client.submit.Goals as goal

pub returns-in_ok-push-2-clause-sends : goal.returns-in_ok-push-2-clause-sends
returns-in_ok-push-2-clause-sends c =
    let left : c.args.self.now.left ≡ c.in-Some.due ∷ c.pop_front.new.self.items = rw (← c.self.view_is) cc in
    rw left (sends_submit c.args.out.now c.push.new.self c.push-in-Some.new.self c.in-Some.due c.pop_front.new.self.items c.in_ok-push.ensures.sends c.in_ok-push-2.ensures.sends)
