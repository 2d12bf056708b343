pub mod Calls
pub mod Lines
pub mod Sessions
pub mod Stages
