pub mod Bits
pub mod Deciding
pub mod FirstPlace
pub mod Open
pub mod Standings
pub mod Steps
