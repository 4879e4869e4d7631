use Rattle.std.proofs.Common.{◌≡◌, ◌<◌, length, get_or, arith}
use Rattle.std.proofs.lemmas.Str.{lead_after_ascii}
use Rattle.expr_parse.proofs.Halves.{quoted_some, quoted_first}
use Rattle.expr_parse.proofs.quoted.inside.Goals as goal

pub range-requires-clause-start_boundary : goal.range-requires-clause-start_boundary
range-requires-clause-start_boundary c =
    let some : 1 < length c.args.quoted.now = quoted_some c.args.quoted.now c.requires in
    let first : get_or c.args.quoted.now 0 0 ≡ 39 = quoted_first c.args.quoted.now c.requires in
    λ h. (omega arith, lead_after_ascii c.args.quoted.now 0 c.utf8.quoted (omega arith))
