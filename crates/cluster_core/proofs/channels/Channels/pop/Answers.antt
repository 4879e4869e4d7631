use Rattle.std.proofs.Common.{◌≡◌, List, Some, None, IsSome, drop, refl, sym, ap, subst, ◌∙◌}
use Rattle.std.specs.declared.collections.VecDeque.{VecDeque}
use Rattle.std.specs.Global.{Global}
use Rattle.one_host_model.specs.declared.message.Msg.{Msg}
use Rattle.one_host_model.specs.World.{rest}
use Rattle.cluster_core.specs.Channels.{queue_of, shown, first_message}
use Rattle.cluster_core.proofs.Delivered.{took_nothing}
use Rattle.cluster_core.proofs.ChannelLemmas.{route, with_queue, queue_of-shown, items_of, with_queue-shown, popped_is_took, drop-one, first_of-pop}
use Rattle.cluster_core.proofs.channels.Channels.pop.Goals as goal
use Rattle.cluster_core.proofs.channels.Channels.pop.Goals.{in-Some, in-None}

pub returns-clause-first : goal.returns-clause-first
returns-clause-first c =
    let here = queue_of-shown c.self.inside.queues.entries c.args.from c.args.to in
    rw (← c.self.view_is)
    (elim c.match-get_mut.branch [
      | in-Some w ↦ w.result-is ∙ first_of-pop _ _ _ w.pop_front.ensures.items w.pop_front.ensures.rest ∙ ap (λ q. first_message (items_of q)) w.in-Some.ensures.value ∙ ap first_message (sym here)
      | in-None w ↦ w.result-is ∙ ap (λ q. first_message (items_of q)) w.in-None.ensures.value ∙ ap first_message (sym here)
    ])

pub returns-clause-others : goal.returns-clause-others
returns-clause-others c = λ f t.
    let before = queue_of (shown c.self.inside.queues.entries) in
    let r = route c.args.to c.args.from in
    let here = queue_of-shown c.self.inside.queues.entries c.args.from c.args.to in
    rw (← c.self.view_is)
    (elim c.match-get_mut.branch [
      | in-Some w ↦
          let put = (c.get_mut.follows.holds w.pop_front.new.self).3 (subst IsSome w.in-Some.ensures.value refl) in
          let left = w.pop_front.ensures.rest ∙ drop-one w.in-Some.queue.now.items ∙ ap (λ q. rest (items_of q)) w.in-Some.ensures.value ∙ ap (rest {A = Msg}) (sym here) in
          rw w.self-inside-is (with_queue-shown c.self.inside.queues.entries _ r (Some w.pop_front.new.self) put.0 f t ∙ ap (λ (xs : List Msg). with_queue before r xs f t) left ∙ popped_is_took before c.args.from c.args.to f t)
      | in-None w ↦ rw (w.self-inside-is, c.get_mut.follows.holds-at-none) (sym (took_nothing before c.args.from c.args.to (ap (λ q. first_message (items_of q)) w.in-None.ensures.value ∙ ap first_message (sym here)) f t))
    ])
