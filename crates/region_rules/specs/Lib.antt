pub mod RegionMeanings
pub mod RegionRules
