pub mod Places
pub mod Fills
