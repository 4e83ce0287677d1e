pub mod Writing
pub mod Both
