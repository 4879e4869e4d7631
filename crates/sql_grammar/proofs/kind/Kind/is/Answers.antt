use Rattle.std.proofs.Common.{refl}
use Rattle.sql_grammar.proofs.KindPlaces.{tags}
use Rattle.sql_grammar.proofs.kind.Kind.is.Goals as goal

pub returns : goal.returns
returns c = rw (c.eq.ensures, tags c.args.self, tags c.args.other) refl
