pub mod MemLawful
pub mod MemPaths
pub mod MemRegular
