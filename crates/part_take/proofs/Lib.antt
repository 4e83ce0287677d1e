pub mod Taken
pub mod Dones
pub mod Moves
