pub mod Fields
pub mod Held
pub mod Made
pub mod Moves
