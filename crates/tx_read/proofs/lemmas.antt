-- The lemmas that proofs of crates above may cite.
pub mod Cases
pub mod LocalReaders
pub mod Locality
pub mod ManyItems
pub mod ManyLocal
