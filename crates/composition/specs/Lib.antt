pub mod LeafModel
pub mod AnyModel
pub mod LevelModel
pub mod QuarterModel
pub mod HalfModel
pub mod ThreeQuartersModel
pub mod CompositionModel
