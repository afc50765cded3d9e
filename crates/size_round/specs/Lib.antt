pub mod SizeMeanings
pub mod Sizes
