pub mod Lists
pub mod Raising
pub mod Serving
