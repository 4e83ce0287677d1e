pub mod Gathered
pub mod Known
pub mod Laws
