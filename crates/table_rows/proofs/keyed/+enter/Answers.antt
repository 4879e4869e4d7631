use Rattle.table_rows.proofs.EntryLemmas.{kept_all}
use Rattle.table_rows.proofs.keyed.+enter.Goals as goal

pub returns-then-is_err-clause-kept : goal.returns-then-is_err-clause-kept
returns-then-is_err-clause-kept t c =
    kept_all c.enter-done.result c.args.place c.in-Some.first.now c.enter.new.self c.back_out.new.self c.in-Some.rest.now c.enter-done.new.indexes c.args.indexes.now
    c.in-Some.ensures.cases.0 c.requires c.in_ok-enter.ensures.entered c.in_ok-enter.ensures.free c.back_out.ensures c.enter-done.ensures.kept
