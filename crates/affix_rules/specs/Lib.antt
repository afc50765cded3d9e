pub mod AffixMeanings
pub mod AffixRules
