pub mod Backward
pub mod Ends
