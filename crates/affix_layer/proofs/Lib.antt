pub mod Alignments
pub mod Bytes
pub mod Giving
pub mod Growing
pub mod Moving
pub mod Round
pub mod Serving
pub mod Standing
