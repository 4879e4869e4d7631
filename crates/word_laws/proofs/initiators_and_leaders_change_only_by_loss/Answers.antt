use Rattle.word_laws.proofs.Chain.{words-agree, of-one-epoch, initiator-kept, leaders-kept}
use Rattle.word_laws.proofs.initiators_and_leaders_change_only_by_loss.Goals as goal

pub returns-clause-initiator : goal.returns-clause-initiator
returns-clause-initiator g c = λ input v w m n r s d e. initiator-kept v w (of-one-epoch g.B.AnyDatabase.database v w s (words-agree g.B.AnyDatabase.database input v r)) m n d e

pub returns-clause-leaders : goal.returns-clause-leaders
returns-clause-leaders g c = λ input v w m n D r s d e. leaders-kept v w (of-one-epoch g.B.AnyDatabase.database v w s (words-agree g.B.AnyDatabase.database input v r)) D m n d e
