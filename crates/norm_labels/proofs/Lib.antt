pub mod Ascending
pub mod Seats
pub mod Tables
pub mod Values
pub mod Places
pub mod Breaks
pub mod Soundness
pub mod On
