pub mod Laid
pub mod Taken
pub mod Back
