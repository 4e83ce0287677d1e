pub mod Words
pub mod Limits
pub mod Circle
pub mod Brought
