pub mod Held
pub mod Scatter
pub mod Columns
