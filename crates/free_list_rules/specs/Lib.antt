pub mod FreeListMeanings
pub mod FreeListRules
