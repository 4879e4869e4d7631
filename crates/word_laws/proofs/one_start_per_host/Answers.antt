use Rattle.word_laws.proofs.Chain.{words-agree, one-start-each}
use Rattle.word_laws.proofs.one_start_per_host.Goals as goal

pub returns : goal.returns
returns g c = λ input w m r d. one-start-each w (words-agree g.B.AnyDatabase.database input w r) m d
