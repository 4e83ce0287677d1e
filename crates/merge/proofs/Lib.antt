pub mod Outcomes
pub mod Answers
pub mod Written
pub mod Laws
pub mod Forms
