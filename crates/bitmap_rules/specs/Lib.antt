pub mod BitmapRules
pub mod BitmapMeanings
