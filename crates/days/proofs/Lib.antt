pub mod Calendar
pub mod Undo
