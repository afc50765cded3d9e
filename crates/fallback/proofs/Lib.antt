mod Crossing
mod GivingBack
mod Growing
mod Joining
mod Lengths
mod Opening
mod Pairs
mod Remaining
mod Serving
mod Telling
pub mod Holders
