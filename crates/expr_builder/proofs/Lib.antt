pub mod WordMeanings
pub mod Builds
pub mod Places
