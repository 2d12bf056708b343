pub mod Laws
pub mod Algebra
pub mod Blocks
pub mod Words
pub mod Sizes
pub mod Lowest
