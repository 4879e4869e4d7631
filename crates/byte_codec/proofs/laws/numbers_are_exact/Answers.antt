use Rattle.byte_codec.proofs.ExactReaders.{byte_exact, exact16, exact32, exact64}
use Rattle.byte_codec.proofs.WideNumbers.{wide_exact}
use Rattle.byte_codec.proofs.laws.numbers_are_exact.Goals as goal

pub returns-clause-one : goal.returns-clause-one
returns-clause-one c = byte_exact

pub returns-clause-two : goal.returns-clause-two
returns-clause-two c = exact16

pub returns-clause-four : goal.returns-clause-four
returns-clause-four c = exact32

pub returns-clause-eight : goal.returns-clause-eight
returns-clause-eight c = exact64

pub returns-clause-wide : goal.returns-clause-wide
returns-clause-wide c = wide_exact
