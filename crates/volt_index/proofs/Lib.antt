pub mod Utf8Bytes
pub mod KeyLemmas
pub mod KeyOrder
pub mod IndexLemmas
