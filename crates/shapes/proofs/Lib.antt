pub mod ProperParts
pub mod ShapeLaws
