pub mod FreeListMade
pub mod FreeListModel
pub mod FreeListOwns
pub mod FreeListProper
