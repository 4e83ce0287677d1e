pub mod Section
pub mod Writing
pub mod Told
