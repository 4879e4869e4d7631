use Rattle.std.proofs.Common.{sym, ap, ◌∙◌}
use Rattle.std.specs.List.{take-map}
use Rattle.sql_meaning.specs.Selects.{within}
use Rattle.sql_merge.proofs.rows.within.Goals as goal

pub returns-then-most-len : goal.returns-then-most-len
returns-then-most-len c =
    rw (c.truncate.ensures.items, c.in-Some.is) (sym (take-map (λ e. e.1) c.in-Some.most c.args.entries.items))
