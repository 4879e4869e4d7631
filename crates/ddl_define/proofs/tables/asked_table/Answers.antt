use Rattle.std.proofs.Common.{◌≡◌, refl}
use Rattle.ddl_define.specs.Found as found
use Rattle.ddl_define.proofs.TableLemmas.{asked_at}
use Rattle.ddl_define.proofs.tables.asked_table.Goals as goal

pub returns : goal.returns
returns c =
    let same : found.table_with c.args.text.now c.args.columns.items c.only_key.result ≡ found.asked c.args.text.now
    = asked_at c.args.text.now c.as_slice-items.result.now c.args.columns.items c.as_slice.result.now c.in_ok-keys.keys.items c.only_key.result
    (found.table_with c.args.text.now c.args.columns.items c.only_key.result) c.as_slice-items.ensures c.requires c.as_slice.ensures.value c.in_ok-keys.ensures c.only_key.ensures refl in
    rw same at c.table_with.ensures
