pub mod Asking
pub mod Growing
pub mod Opened
pub mod Resizing
pub mod Serving
