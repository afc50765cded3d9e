pub mod FactLemmas
mod StatsLines
