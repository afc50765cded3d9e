pub mod QuantizerMade
pub mod QuantizerModel
pub mod QuantizerOwns
pub mod QuantizerProper
