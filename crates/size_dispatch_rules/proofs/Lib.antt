pub mod BucketsLawful
pub mod BucketsRows
pub mod SameRows
pub mod SegregateLawful
pub mod SegregateRows
