pub mod Routing
pub mod Whole
pub mod Answering
pub mod Arriving
pub mod Played
