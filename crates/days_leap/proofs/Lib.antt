pub mod Counts
pub mod Listed
pub mod Days
pub mod Sixes
