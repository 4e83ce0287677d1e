pub mod Digits
pub mod Marks
pub mod Lists
pub mod Stations
pub mod Partials
