pub mod Judged
pub mod Rooms
