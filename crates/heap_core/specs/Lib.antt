pub mod Heap
pub mod Holding
pub mod Moves
pub mod Names
pub mod Performing
pub mod Steps
pub mod World
pub mod RunFacts
