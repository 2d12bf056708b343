pub mod Bytes
pub mod Search
pub mod Places
pub mod Bitmaps
