use Rattle.std.proofs.Common.{◌+◌, ◌%◌, ◌*◌, ◌++◌, replicate, ap, ◌∙◌, arith}
use Rattle.std.proofs.lemmas.Result.{on_ok_weaker}
use Rattle.row_codec.proofs.Zeros.{zeros_more}
use Rattle.row_codec.proofs.packing.put_zeros.Goals as goal

pub loop-block-preserved : goal.loop-block-preserved
loop-block-preserved c =
    c.in_ok-put_few_zeros.ensures ∙ ap (λ s. s ++ replicate 64 0) c.loop-block.invariant
    ∙ zeros_more c.args.into.now.items (64 * c.loop-block._block) 64 (64 * (c.loop-block._block + 1)) (omega arith)

pub returns : goal.returns
returns c =
    let n = c.args.count in
    on_ok_weaker c.put_few_zeros-2.result (λ e. e ∙ ap (λ s. s ++ replicate (n % 64) 0) c.loop-block.invariant
    ∙ zeros_more c.args.into.now.items (64 * c.loop-block._block) (n % 64) n (omega arith)) c.put_few_zeros-2.ensures
