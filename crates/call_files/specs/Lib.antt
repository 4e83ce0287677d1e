pub mod Arcs
pub mod Reading
pub mod Writing
pub mod Taking
