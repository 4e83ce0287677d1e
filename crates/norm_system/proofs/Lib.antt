pub mod Labels
pub mod Sound
