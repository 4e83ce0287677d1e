pub mod Capacities
