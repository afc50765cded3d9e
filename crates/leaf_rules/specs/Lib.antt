pub mod LeafMeanings
pub mod MemRules
