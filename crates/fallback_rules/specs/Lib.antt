pub mod FallbackMeanings
pub mod FallbackRules
