pub mod CollectorMade
pub mod CollectorModel
pub mod CollectorOwns
pub mod CollectorProper
