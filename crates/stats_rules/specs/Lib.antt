pub mod Counting
pub mod StatsMeanings
pub mod StatsRules
