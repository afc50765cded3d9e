pub mod StatsLawful
