pub mod Stalling
pub mod Stalled
