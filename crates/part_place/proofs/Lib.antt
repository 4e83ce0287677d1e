pub mod Places
pub mod Heads
pub mod Ends
pub mod Looks
