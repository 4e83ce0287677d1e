pub mod Chosen
pub mod United
