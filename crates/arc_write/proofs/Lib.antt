pub mod Back
pub mod Forth
pub mod Answers
