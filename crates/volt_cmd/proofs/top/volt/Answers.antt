use Rattle.std.proofs.Common.{map, string_bytes, ap, Err}
use Rattle.volt_cmd.proofs.CauseLemmas.{no_cause}
use Rattle.volt_cmd.proofs.top.volt.Goals as goal

pub returns-in-Err-clause-complete : goal.returns-in-Err-clause-complete
returns-in-Err-clause-complete g c = λ command form still written.
    no_cause (map string_bytes c.args.words.now) (g.S.Source.state c.args.source.now) (g.S.Source.state c.read_and_run.new.source) c.in-Err.status c.in-Err.ensures.refused
    (λ is. c.in-Err.ensures.bad_use.0 (ap Err is)) (λ is. c.in-Err.ensures.read_fault (ap Err is)) (λ line is. c.in-Err.ensures.not_built line (ap Err is)) command form still
