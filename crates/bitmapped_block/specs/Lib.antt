pub mod BitmapMade
pub mod BitmapModel
pub mod BitmapProper
pub mod BitmapSizes
pub mod UnitBits
pub mod UnitPlaces
pub mod WordBits
