pub mod Laying
pub mod Back
