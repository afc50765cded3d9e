pub mod Altered
pub mod Ticket
pub mod Events
pub mod Owned
pub mod Plans
pub mod Reports
pub mod Rows
pub mod Tables
