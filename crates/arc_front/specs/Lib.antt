pub mod Front
pub mod Parts
