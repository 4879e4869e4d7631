use Rattle.std.proofs.Common.{arith}
use Rattle.volt_text.proofs.Cuts.{read_more}
use Rattle.volt_text.proofs.lexer.lex.Goals as goal

pub loop-at-preserved : goal.loop-at-preserved
loop-at-preserved c =
    let piece = c.in-Ok.piece in
    let found = rw c.split_at.ensures.back at c.in-Ok.ensures in
    read_more _ c.loop-at.at piece.len piece.kind c.loop-at.tokens.items _ c.loop-at.invariant (omega arith) found.1 found.2 c.in_ok-note-in-Ok.ensures
