use Rattle.std.proofs.Common.{rules}
use Rattle.volt_form.proofs.LineLemmas.{lines_none, lines_some}
use Rattle.volt_form.proofs.lines.next_line.Goals as goal

pub returns-clause-none : goal.returns-clause-none
returns-clause-none c = search (rules, lines_none)

pub returns-clause-line : goal.returns-clause-line
returns-clause-line c = search (rules, lines_some)
