use Rattle.word_laws.proofs.Chain.{words-agree, of-one-epoch, chained}
use Rattle.word_laws.proofs.decided_words_form_a_chain.Goals as goal

pub returns : goal.returns
returns g c = λ input v w m n r s d e. chained v w (of-one-epoch g.B.AnyDatabase.database v w s (words-agree g.B.AnyDatabase.database input v r)) m n d e
