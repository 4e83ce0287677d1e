pub mod Stops
pub mod Goes
