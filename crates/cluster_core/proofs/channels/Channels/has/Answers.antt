use Rattle.std.proofs.Common.{◌≡◌, List, not, sym, ap, ◌∙◌}
use Rattle.one_host_model.specs.declared.message.Msg.{Msg}
use Rattle.one_host_model.specs.World.{is_some_message}
use Rattle.cluster_core.specs.declared.route.Route.{Route}
use Rattle.cluster_core.specs.Channels.{queue_of}
use Rattle.cluster_core.proofs.ChannelLemmas.{queue_of-shown, items_of, some-by_length}
use Rattle.cluster_core.proofs.channels.Channels.has.Goals as goal

pub returns-in-Some : goal.returns-in-Some
returns-in-Some c =
    ap not c.is_empty.ensures
    ∙ sym (some-by_length c.in-Some.queue.now.items c.in-Some.queue.now.len (sym c.in-Some.queue.now.ok.0))
    ∙ ap (λ q. is_some_message (items_of q)) c.in-Some.ensures.value
    ∙ ap is_some_message (sym (queue_of-shown c.self.inside.queues.entries c.args.from c.args.to))
    ∙ ap (λ (v : List (Route × List Msg)). is_some_message (queue_of v c.args.from c.args.to)) c.self.view_is

pub returns-in-None : goal.returns-in-None
returns-in-None c =
    ap (λ q. is_some_message (items_of q)) c.in-None.ensures.value
    ∙ ap is_some_message (sym (queue_of-shown c.self.inside.queues.entries c.args.from c.args.to))
    ∙ ap (λ (v : List (Route × List Msg)). is_some_message (queue_of v c.args.from c.args.to)) c.self.view_is
