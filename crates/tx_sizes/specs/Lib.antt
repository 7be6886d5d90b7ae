pub mod Forest
pub mod Measures
pub mod Counts
pub mod Laws
pub mod Ordinary
