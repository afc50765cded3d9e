pub mod ShapeOf
pub mod Sound
