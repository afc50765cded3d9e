pub mod QuantizeLawful
