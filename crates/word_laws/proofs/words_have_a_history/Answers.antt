use Rattle.word_laws.proofs.Chain.{words-agree}
use Rattle.word_laws.proofs.words_have_a_history.Goals as goal

pub returns : goal.returns
returns g c = λ input w r. words-agree g.B.AnyDatabase.database input w r
