pub mod Tally
pub mod Parts
