pub mod Counting
pub mod Growing
pub mod Owning
pub mod Serving
pub mod Standing
pub mod Taking
