pub mod Seats
pub mod Table
pub mod Labels
