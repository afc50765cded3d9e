pub mod QuotaMade
pub mod QuotaModel
pub mod QuotaOwning
pub mod QuotaProper
