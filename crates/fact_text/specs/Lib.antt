pub mod FactText
