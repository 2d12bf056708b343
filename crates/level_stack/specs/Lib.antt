pub mod Faults
pub mod Stacks
