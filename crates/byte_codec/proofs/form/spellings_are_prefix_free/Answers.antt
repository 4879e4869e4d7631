use Rattle.byte_codec.proofs.ExactReaders.{one_spelling_of}
use Rattle.byte_codec.proofs.form.spellings_are_prefix_free.Goals as goal

pub returns : goal.returns
returns g c = one_spelling_of g.F.Form.read_at g.F.Form.spelling g.F.Form.Fits g.met.F.Form.exact
