pub mod KindLaws
pub mod NextPower
pub mod PowerLaws
pub mod UpLeast
