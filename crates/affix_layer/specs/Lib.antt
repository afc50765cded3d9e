pub mod AffixBytes
pub mod AffixMade
pub mod AffixModel
pub mod AffixOwning
pub mod AffixProper
pub mod AffixWrites
