pub mod NumberLemmas
pub mod PiecesLemmas
pub mod lemmas
