pub mod Words
pub mod Stands
