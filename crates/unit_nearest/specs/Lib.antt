pub mod Doubles
pub mod Steps
pub mod NoUnits
