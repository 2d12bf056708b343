pub mod Lows
pub mod Refusing
