pub mod Numbers
pub mod PutLemmas
pub mod LineFacts
pub mod Outcomes
pub mod Answered
pub mod Going
pub mod ReportLemmas
pub mod Running
pub mod HandingOn
pub mod Whole
pub mod Asking
pub mod Tells
pub mod Clauses
pub mod Obeying
pub mod RootLemmas
mod RunsAlong
