pub mod ListMeanings
pub mod ListRules
