pub mod Files
pub mod Pairs
