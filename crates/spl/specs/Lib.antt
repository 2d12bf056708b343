pub mod Faults
pub mod Codes
pub mod Blocking
pub mod Layer
pub mod Head
pub mod Root
pub mod Blocked
pub mod Names
