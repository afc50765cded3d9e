pub mod BitmapFraming
pub mod BitmapLawful
pub mod BitmapParts
pub mod BitmapPlaces
pub mod BitmapRegular
