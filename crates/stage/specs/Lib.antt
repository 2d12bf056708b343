pub mod Layers
pub mod Gates
