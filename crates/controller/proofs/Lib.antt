pub mod Order
pub mod Picked
pub mod Keeps
pub mod Served
