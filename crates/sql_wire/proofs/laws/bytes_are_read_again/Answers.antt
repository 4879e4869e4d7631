use Rattle.sql_wire.specs.Whole.{call_again, round_again, reply_again, answer_again}
use Rattle.sql_wire.proofs.laws.bytes_are_read_again.Goals as goal

pub returns-clause-calls : goal.returns-clause-calls
returns-clause-calls c = call_again

pub returns-clause-rounds : goal.returns-clause-rounds
returns-clause-rounds c = round_again

pub returns-clause-replies : goal.returns-clause-replies
returns-clause-replies c = reply_again

pub returns-clause-answers : goal.returns-clause-answers
returns-clause-answers c = answer_again
