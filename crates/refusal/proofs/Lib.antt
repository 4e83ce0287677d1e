pub mod Apart
pub mod Firsts
