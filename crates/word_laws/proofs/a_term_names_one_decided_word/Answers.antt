use Rattle.word_laws.proofs.Chain.{words-agree, of-one-epoch, one-of-term}
use Rattle.word_laws.proofs.a_term_names_one_decided_word.Goals as goal

pub returns : goal.returns
returns g c = λ input v w m n r s d e t. one-of-term v w (of-one-epoch g.B.AnyDatabase.database v w s (words-agree g.B.AnyDatabase.database input v r)) m n d e t
