pub mod Lows
pub mod Staged
pub mod Layered
pub mod Occupying
pub mod Arriving
