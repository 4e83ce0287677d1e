pub mod Types
pub mod Narrow
