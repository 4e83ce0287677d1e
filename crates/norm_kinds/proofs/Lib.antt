pub mod Floors
pub mod Records
pub mod Stored
pub mod Labels
pub mod Long
