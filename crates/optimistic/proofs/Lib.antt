pub mod Raising
pub mod Aside
