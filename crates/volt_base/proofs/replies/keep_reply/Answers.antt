use Rattle.std.proofs.Common.{sym, ap, ◌∙◌, arith}
use Rattle.volt_base.specs.Replies.{with_reply}
use Rattle.std.proofs.lemmas.Bool.Decides.{nat_tests}
use Rattle.volt_base.proofs.Placing.{set_at}
use Rattle.volt_base.proofs.replies.keep_reply.Goals as goal

pub returns-then-index-reply-2 : goal.returns-then-index-reply-2
returns-then-index-reply-2 c =
    let i = c.loop-at.invariant in
    set_at c.loop-at.replies.items c.loop-at.at c.args.reply c.index.result.now c.index-then-index-reply.result.now
    (omega (arith, c.loop-at-test.true, i.all)) c.index.ensures c.index-then-index-reply.ensures
    (grind (arith, nat_tests, c.if-index-reply.true)) (grind (arith, nat_tests, c.if-index-reply-2.true))
    ∙ sym i.behind ∙ ap (with_reply c.args.reply) i.same_items
