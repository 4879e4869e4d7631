use Rattle.std.proofs.lemmas.List.Sorted.{IsPermutation-sym, IsPermutation-trans}
use Rattle.table_rows.specs.Standing.{rows_in}
use Rattle.table_chunks.proofs.LoadLemmas.{table_loaded}
use Rattle.table_chunks.proofs.laws.scans_are_loaded.Goals as goal

pub returns : goal.returns
returns c = λ table scan rows is scan_is same.
    table_loaded table rows is (IsPermutation-trans rows (rows_in table.schema.fields scan) table.rows (IsPermutation-sym (rows_in table.schema.fields scan) rows same) scan_is.rows)
