use Rattle.std.proofs.Common.{inr, Err, ap, ◌∙◌}
use Rattle.volt_index.specs.Index.{clash_of}
use Rattle.table_rows.proofs.EntryLemmas.{taken_fault}
use Rattle.table_rows.proofs.keyed.KeyedIndex.enter.Goals as goal

pub returns-in-Err-Duplicate-clause-refused : goal.returns-in-Err-Duplicate-clause-refused
returns-in-Err-Duplicate-clause-refused c =
    inr (taken_fault c.args.self.now.changes (clash_of c.args.self.now.index c.args.self.now.fresh) c.in-Err-Duplicate.field-0-0 c.if-not-self.false
    ((c.insert.ensures.duplicate c.in-Err-Duplicate.field-0-0).0 (c.in-Err-Duplicate.is ∙ ap Err c.in-Err-Duplicate.field-0-is)))
