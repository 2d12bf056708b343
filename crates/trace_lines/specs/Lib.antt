pub mod Cut
pub mod Faults
pub mod Forms
pub mod Grammar
pub mod Numerals
