pub mod RegionLawful
pub mod RegionRegular
