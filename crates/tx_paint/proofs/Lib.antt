pub mod GlyphLemmas
pub mod FormedLemmas
pub mod PlaceLemmas
pub mod LawLemmas
pub mod MadeLemmas
