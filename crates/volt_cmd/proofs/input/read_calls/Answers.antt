use Rattle.volt_cmd.proofs.InputLemmas.{IsRead, is_read, calls_read, wrong_read}
use Rattle.volt_cmd.proofs.input.read_calls.Goals as goal

pub returns-in-Ok-clause-calls : goal.returns-in-Ok-clause-calls
returns-in-Ok-clause-calls g c =
    let before = g.S.Source.state c.args.source.now in
    let after = g.S.Source.state c.read_to_end.new.source in
    let read : IsRead before after c.as_slice.result.now = is_read before after _ _ _ c.as_slice.ensures.value c.as_slice.ensures.len c.in-Ok.ensures.gives c.in-Ok.ensures.to_end c.in-Ok.ensures.prefix c.in-Ok.ensures.whole in
    calls_read (λ calls. calls.items) before after c.as_slice.result.now read c.calls_of.result c.calls_of.ensures.calls

pub returns-in-Ok-clause-wrong : goal.returns-in-Ok-clause-wrong
returns-in-Ok-clause-wrong g c = λ line e.
    let before = g.S.Source.state c.args.source.now in
    let after = g.S.Source.state c.read_to_end.new.source in
    let read : IsRead before after c.as_slice.result.now = is_read before after _ _ _ c.as_slice.ensures.value c.as_slice.ensures.len c.in-Ok.ensures.gives c.in-Ok.ensures.to_end c.in-Ok.ensures.prefix c.in-Ok.ensures.whole in
    wrong_read before after c.as_slice.result.now line read (c.calls_of.ensures.wrong line e)
