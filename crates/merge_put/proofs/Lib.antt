pub mod Known
pub mod Loaded
pub mod Laid
pub mod Placed
pub mod Sums
pub mod Steps
