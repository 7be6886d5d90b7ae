pub mod SendingLemmas
pub mod Reading
