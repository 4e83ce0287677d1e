pub mod Going
pub mod Given
