pub mod Among
pub mod Owning
pub mod Planning
pub mod Slices
pub mod RowParts
pub mod RowKept
pub mod RowCalls
mod Reporting
pub mod Altering
pub mod Clearing
