pub mod Words
pub mod Signs
pub mod Parts
pub mod Written
pub mod Stands
