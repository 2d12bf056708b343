pub mod Blocks
pub mod Parts
pub mod States
pub mod Traces
