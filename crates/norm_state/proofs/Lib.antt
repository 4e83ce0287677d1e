pub mod Laid
pub mod Numbers
pub mod Labels
pub mod Sums
pub mod Laws
