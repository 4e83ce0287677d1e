pub mod Numbers
pub mod Calls
pub mod Files
pub mod Writes
pub mod Widths
pub mod Sequence
