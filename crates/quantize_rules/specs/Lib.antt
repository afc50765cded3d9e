pub mod QuantizeMeanings
pub mod QuantizeRules
