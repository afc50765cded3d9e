pub mod Shape
pub mod RulesOf
pub mod Proper
pub mod ShapeMeanings
pub mod Replay
pub mod Examples
