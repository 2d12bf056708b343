pub mod Changed
pub mod Laid
pub mod Pumping
pub mod Playing
