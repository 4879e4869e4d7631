use Rattle.std.proofs.Common.{◌≡◌, ◌⊎◌, ◌∙◌, Some, ap, sym, rules}
use Rattle.volt_catalog.specs.Catalog.{with_table}
use Rattle.volt_catalog.specs.declared.fault.CatalogFault.TheVariants.{NoMemory}
use Rattle.ddl_define.specs.Tables as spec
use Rattle.ddl_define.proofs.TableLemmas.{known_is, refused_unknown, refused_known, same_fault, table_is}
use Rattle.ddl_define.proofs.tables.create_table.Goals as goal

pub returns-then-not-have_key_columns-clause-refused : goal.returns-then-not-have_key_columns-clause-refused
returns-then-not-have_key_columns-clause-refused c =
    let known = known_is c.args.text.now c.as_slice-items.result.now c.in_ok-columns.columns.items c.as_slice.result.now c.have_key_columns.result c.as_slice-items.ensures
    c.in_ok-columns.ensures c.as_slice.ensures.value c.have_key_columns.ensures in
    refused_unknown c.args.catalog.now c.args.text.now c.as_slice-items.result.now c.in_ok-columns.columns.items c.from_vec-no_key.result c.in_ok-table.table c.refuse.result
    c.as_slice-items.ensures c.in_ok-columns.ensures (c.from_vec-no_key.ensures ∙ c.new.ensures.items) c.in_ok-table.ensures (sym known ∙ c.if-not-have_key_columns.true) c.refuse.ensures.fault

pub returns-in_err-add_table-clause-refused : goal.returns-in_err-add_table-clause-refused
returns-in_err-add_table-clause-refused c =
    let known = known_is c.args.text.now c.as_slice-items.result.now c.in_ok-columns.columns.items c.as_slice.result.now c.have_key_columns.result c.as_slice-items.ensures
    c.in_ok-columns.ensures c.as_slice.ensures.value c.have_key_columns.ensures in
    let refused : (c.in_err-add_table.field-0.0 ≡ NoMemory) ⊎ (spec.fault_of_table c.args.catalog.now c.args.text.now ≡ Some c.in_err-add_table.field-0.0)
    = refused_known c.args.catalog.now c.args.text.now c.in_ok-table-2.table c.in_err-add_table.field-0.0 c.in_ok-table-2.ensures (sym known ∙ c.if-not-have_key_columns.false) c.in_err-add_table.ensures.refused in
    search rules

pub returns-clause-added : goal.returns-clause-added
returns-clause-added c =
    let known = known_is c.args.text.now c.as_slice-items.result.now c.in_ok-columns.columns.items c.as_slice.result.now c.have_key_columns.result c.as_slice-items.ensures
    c.in_ok-columns.ensures c.as_slice.ensures.value c.have_key_columns.ensures in
    c.in_ok-add_table.ensures.added
    ∙ ap (with_table c.args.catalog.now) (table_is c.args.catalog.now c.args.text.now c.in_ok-table-2.table c.in_ok-table-2.ensures (sym known ∙ c.if-not-have_key_columns.false) c.in_ok-add_table.ensures.accepted)

pub returns-clause-accepted : goal.returns-clause-accepted
returns-clause-accepted c =
    let known = known_is c.args.text.now c.as_slice-items.result.now c.in_ok-columns.columns.items c.as_slice.result.now c.have_key_columns.result c.as_slice-items.ensures
    c.in_ok-columns.ensures c.as_slice.ensures.value c.have_key_columns.ensures in
    same_fault c.args.catalog.now c.args.text.now c.in_ok-table-2.table c.in_ok-table-2.ensures (sym known ∙ c.if-not-have_key_columns.false) ∙ c.in_ok-add_table.ensures.accepted
