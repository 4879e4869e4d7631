use Rattle.account_engine.proofs.Given.{is_given-reply_in}
use Rattle.account_engine.proofs.reply.replies_are_given.Goals as goal

pub returns : goal.returns
returns c = is_given-reply_in
