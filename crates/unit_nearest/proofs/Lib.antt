pub mod Laws
pub mod Near
pub mod Signs
pub mod Values
pub mod Steps
pub mod Claims
pub mod Back
