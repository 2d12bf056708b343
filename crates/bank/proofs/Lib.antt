pub mod Picking
pub mod AllLines
