pub mod SegregateRules
pub mod SegregateMeanings
pub mod BucketsRules
pub mod BucketsMeanings
