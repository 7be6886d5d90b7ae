-- The lemmas that proofs of crates above may cite.
pub mod Ancestry
pub mod Placed
pub mod SelectorLaws
pub mod TextLaws
