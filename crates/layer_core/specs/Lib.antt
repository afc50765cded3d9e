pub mod LeafMade
pub mod LeafModel
pub mod NullMade
pub mod NullModel
pub mod ShortRows
