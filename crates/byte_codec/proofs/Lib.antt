pub mod ManyReaders
pub mod ExactReaders
pub mod WideNumbers
