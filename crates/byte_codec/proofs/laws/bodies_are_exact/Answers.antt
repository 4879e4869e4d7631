use Rattle.byte_codec.proofs.ExactReaders.{body_exact}
use Rattle.byte_codec.proofs.laws.bodies_are_exact.Goals as goal

pub returns : goal.returns
returns c = body_exact
