pub mod Writing
pub mod Seated
pub mod Laid
