pub mod FirstBytes
pub mod Fronts
pub mod Longest
pub mod LongestTokens
pub mod Numbers
pub mod OneKind
pub mod Scanning
pub mod lemmas
