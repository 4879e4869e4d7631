use Rattle.std.proofs.Common.{◌≡◌, List, [], ◌∷◌, ◌++◌, Some, Global, sym, ap, ◌∙◌, arith}
use Rattle.std.specs.declared.collections.VecDeque.{VecDeque}
use Rattle.std.specs.Map.{lookup}
use Rattle.std.specs.BTreeMap.{is_at}
use Rattle.cluster_core.specs.contracts.route.RouteOrd.TheImpl.{cmp-value}
use Rattle.one_host_model.specs.declared.message.Msg.{Msg}
use Rattle.cluster_core.specs.Channels.{queue_of, shown}
use Rattle.cluster_core.proofs.ChannelLemmas.{route, with_queue, queue_of-shown, items_of-unwrap_or, with_queue-shown, pushed_is_sent}
use Rattle.cluster_core.proofs.channels.Channels.push.Goals as goal

pub returns : goal.returns
returns c = λ f t.
    let before = queue_of (shown c.self.inside.queues.entries) in
    let r = route c.args.to c.args.from in
    let put = c.in_ok-self-inside.ensures.update.0 c.push_back.new.self in
    let found : c.or_insert-queue.result.now.items ≡ before c.args.from c.args.to =
    let value = rw c.in_ok-self-inside.ensures.value at c.or_insert-queue.ensures.value in
    ap (λ (q : VecDeque Msg Global). q.items) value
    ∙ items_of-unwrap_or (lookup (is_at (cmp-value.it r)) c.self.inside.queues.entries) c.new-none.result c.new-none.ensures.items
    ∙ sym (queue_of-shown c.self.inside.queues.entries c.args.from c.args.to) in
    let queue : c.push_back.new.self.items ≡ before c.args.from c.args.to ++ c.args.msg ∷ [] =
    c.in_ok-push_back.ensures.items ∙ ap (λ (xs : List Msg). xs ++ c.args.msg ∷ []) found in
    rw (← c.self.view_is)
    (with_queue-shown c.self.inside.queues.entries _ r (Some c.push_back.new.self) (λ q. grind (arith, put.0 q)) f t
    ∙ ap (λ (xs : List Msg). with_queue before r xs f t) queue
    ∙ pushed_is_sent before c.args.from c.args.to c.args.msg f t)
