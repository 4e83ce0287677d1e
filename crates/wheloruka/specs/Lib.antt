pub mod Numbers
pub mod Reading
pub mod Sequence
pub mod Taking
pub mod Writing
