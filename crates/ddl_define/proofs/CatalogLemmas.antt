-- Tables of a catalog have few columns.
use Rattle.std.proofs.Common.{◌≡◌, ◌≤◌, ℕ, zero, suc, true, List, [], ◌∷◌, length, arith}
use Rattle.std.proofs.lemmas.Bool.Decides.{nat_tests}
use Rattle.std.specs.List.{list_all, slice_get}
use Rattle.volt_catalog.specs.declared.table.Table.{Table}
use Rattle.volt_catalog.specs.Catalog.{is_table}
use Rattle.ddl_define.specs.Names.{columns_in_table}

few_columns : (table : Table) → is_table table ≡ true → length table.columns ≤ 32
few_columns table is = grind (arith, nat_tests, is)

pub columns_few : (tables : List Table) (n : ℕ) → list_all is_table tables ≡ true → length (columns_in_table (slice_get tables n)) ≤ 32
columns_few [] n are = omega arith
columns_few (table ∷ tables) zero are = few_columns table (grind (arith, are))
columns_few (table ∷ tables) (suc n) are = columns_few tables n (grind (arith, are))
