-- What the fields of a catalog stand for.
use Rattle.std.specs.Prelude.{◌≡◌, map}
use Rattle.volt_catalog.specs.declared.catalog.Catalog.TheInside.{Inside}
use Rattle.volt_catalog.specs.Names.{lower}
use Rattle.volt_catalog.specs.Rules.{Contents}
use Rattle.volt_catalog.specs.Catalog.{IsCatalog}

abbrev pub contents_of : Inside → Contents
contents_of held = record { tables = held.tables.items; indexes = held.indexes.items }

-- the rules are met, and the names are those of the tables and of the indexes, in lower case
pub record IsHeld (held : Inside) : Type 0 where
  pub rules : IsCatalog (contents_of held)
  pub table_names : held.table_names ≡ map (λ table. lower table.name) held.tables.items
  pub index_names : held.index_names ≡ map (λ index. lower index.name) held.indexes.items
