-- The lemmas that proofs of crates above may cite.
pub mod Parents
