pub mod Calendar
pub mod Parts
