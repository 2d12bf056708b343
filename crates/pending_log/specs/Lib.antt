pub mod Bytes
pub mod Hold
pub mod Places
