pub mod Arc
pub mod Parts
