use Rattle.volt_text.proofs.Pieces.{closed_prefix, closed_none}
use Rattle.volt_text.proofs.piece.quoted_piece.Goals as goal

pub returns-in-Closed-default-true : goal.returns-in-Closed-default-true
returns-in-Closed-default-true c =
    rw c.new.ensures (closed_prefix c.args.text.now c.in-Closed-default-true.len (rw c.in-Closed-default-true.is_plain-test at c.in-Closed-default-true.ensures))

pub returns-in-Closed : goal.returns-in-Closed
returns-in-Closed c = closed_none c.args.text.now c.in-Closed.len (rw c.in-Closed.is_plain-test at (c.in-Closed.ensures))
