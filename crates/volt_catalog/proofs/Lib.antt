pub mod NameLemmas
pub mod ColumnLemmas
pub mod CatalogLemmas
pub mod RuleLemmas
pub mod PartLemmas
