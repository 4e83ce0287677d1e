pub mod Beginning
pub mod Feeding
pub mod OneGo
pub mod Entries
pub mod Sequence
