pub mod Fields
pub mod Grammar
pub mod Steps
pub mod Parts
pub mod Text
pub mod Spelling
pub mod Laws
