use Rattle.word_laws.proofs.Chain.{words-agree, of-one-epoch, rising}
use Rattle.word_laws.proofs.members_rise_as_they_were_admitted.Goals as goal

pub returns : goal.returns
returns g c = λ input v w m n r s d e. rising v w (of-one-epoch g.B.AnyDatabase.database v w s (words-agree g.B.AnyDatabase.database input v r)) m n d e
