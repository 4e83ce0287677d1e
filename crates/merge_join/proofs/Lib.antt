pub mod Union
pub mod Shared
pub mod Joining
pub mod Places
pub mod Alike
