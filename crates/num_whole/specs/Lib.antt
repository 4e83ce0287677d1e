pub mod Tests
pub mod Answer
pub mod Lists
pub mod Sums
