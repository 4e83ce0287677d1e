pub mod Gather
