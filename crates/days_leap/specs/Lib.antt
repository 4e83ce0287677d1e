pub mod Leap
pub mod Parts
