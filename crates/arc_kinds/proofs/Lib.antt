pub mod Judging
pub mod Local
pub mod Records
