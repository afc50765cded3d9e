pub mod KrFraming
pub mod KrLawful
pub mod KrParts
pub mod KrRegular
pub mod KrTails
pub mod KrUnits
