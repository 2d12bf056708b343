pub mod Hold
pub mod Vectors
