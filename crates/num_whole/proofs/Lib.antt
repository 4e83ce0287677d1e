pub mod Ints
pub mod Cases
pub mod Walks
pub mod Tables
pub mod Adding
pub mod Padded
pub mod Alls
pub mod Ascends
