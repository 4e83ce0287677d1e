pub mod Unpack
pub mod Parts
