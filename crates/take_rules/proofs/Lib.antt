pub mod Weights
pub mod Bounds
pub mod Times
