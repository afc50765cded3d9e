pub mod AffixLawful
