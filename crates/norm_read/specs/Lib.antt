pub mod Normal
pub mod Parts
