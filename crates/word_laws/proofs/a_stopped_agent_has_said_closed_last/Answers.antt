use Rattle.word_laws.proofs.Closing.{closes-last, stays-silent}
use Rattle.word_laws.proofs.a_stopped_agent_has_said_closed_last.Goals as goal

pub returns : goal.returns
returns g c = record { closed = λ w h k from o runs stopped is other. closes-last g.B.AnyDatabase.database w h k from o runs stopped is other; silent = λ w h k b o some may stopped none. stays-silent g.B.AnyDatabase.database w h k b o some may stopped none }
