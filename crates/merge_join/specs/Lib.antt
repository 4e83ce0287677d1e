pub mod Join
pub mod Alike
pub mod Walk
