pub mod View
pub mod Faults
pub mod Calls
pub mod Picks
