pub mod FallbackMade
pub mod FallbackModel
pub mod FallbackOwns
pub mod FallbackProper
pub mod FallbackStanding
pub mod MovingAcross
