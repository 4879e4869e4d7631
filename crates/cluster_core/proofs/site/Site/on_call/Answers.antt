use Rattle.std.proofs.Common.{List, [], ◌∷◌, ◌++◌, ap, ◌∙◌}
use Rattle.one_host_model.specs.declared.state.Waiting.{Waiting}
use Rattle.cluster_core.specs.declared.site.LogEnd.{LogEnd}
use Rattle.cluster_core.proofs.SiteSteps.{stands_called}
use Rattle.cluster_core.proofs.site.Site.on_call.Goals as goal

pub returns-clause-site : goal.returns-clause-site
returns-clause-site g c = λ s h.
    let w : Waiting = record { reply = c.in_ok-reply.reply; call = c.args.call; start = c.args.start; host = c.in-Agent.host } in
    let new : LogEnd = record { end = c.apply.new.self.log.end; on_disk = c.apply.new.self.log.on_disk; waiting = c.push_back.new.self } in
    let applied = c.in_ok-reply.ensures in
    rw c.in-Agent.is
    (stands_called g.E.Engine.meaning c.args.self.now.slot c.args.stamp c.args.self.now.log new (g.E.Engine.state c.args.self.now.engine) (g.E.Engine.state c.apply.new.self.engine) w c.args.client c.args.body s h
    applied.end applied.on_disk
    (c.in_ok-push_back.ensures.items ∙ ap (λ (ws : List Waiting). ws ++ w ∷ []) applied.waiting)
    applied.state applied.reply)
