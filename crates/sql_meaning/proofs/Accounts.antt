-- The example of accounts.
use Rattle.std.proofs.Common.{refl, lit≤}
use Rattle.volt_catalog.specs.Catalog.{IsCatalog}
use Rattle.sql_meaning.specs.Starter.{catalog}

pub is_catalog : IsCatalog catalog
is_catalog =
    record {
      few_tables = lit≤ tt;
      few_indexes = lit≤ tt;
      table_names = refl;
      index_names = refl;
      tables = refl;
      indexes = refl;
    }
