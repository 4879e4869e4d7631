pub mod StepLemmas
pub mod ChangeLemmas
pub mod RollLemmas
pub mod SchemaLemmas
pub mod ScanLemmas
