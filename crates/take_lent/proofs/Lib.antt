pub mod Copies
pub mod Wide
pub mod Entries
pub mod Whole
