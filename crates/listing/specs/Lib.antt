pub mod Cursors
pub mod Faults
pub mod Listing
pub mod Numbers
pub mod Refusals
