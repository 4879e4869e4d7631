pub mod RecordLemmas
pub mod ManifestLemmas
