use Rattle.table_rows.proofs.ReadLemmas.{row_is, row_held}
use Rattle.table_rows.proofs.changes.place_of.Goals as goal

pub returns-clause-row : goal.returns-clause-row
returns-clause-row c = row_is c.args.slots.now c.args.indexes.now c.args.key.now c.first_place.result c.rules.ensures c.requires c.first_place.ensures

pub returns-clause-held : goal.returns-clause-held
returns-clause-held c = row_held c.args.slots.now c.args.indexes.now c.args.key.now c.first_place.result c.rules.ensures c.requires c.first_place.ensures
