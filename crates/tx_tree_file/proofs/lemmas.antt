-- The lemmas that proofs of crates above may cite.
pub mod Lines
pub mod WordCuts
pub mod Words
