pub mod Owners
pub mod Agreement
