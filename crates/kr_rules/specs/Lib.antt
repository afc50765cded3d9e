pub mod KrRules
pub mod KrMeanings
