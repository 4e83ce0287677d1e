pub mod Arcs
pub mod Again
pub mod Rooms
