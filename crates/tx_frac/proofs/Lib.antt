pub mod Lowest
pub mod Multiples
pub mod Operations
pub mod Written
pub mod lemmas
