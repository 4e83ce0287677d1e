pub mod Trips
pub mod Refusals
