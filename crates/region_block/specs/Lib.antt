pub mod RegionMade
pub mod RegionProper
pub mod RegionModel
