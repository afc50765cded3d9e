pub mod QuotaMeanings
pub mod QuotaRules
