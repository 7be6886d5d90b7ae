pub mod Runs
pub mod Arrivals
