pub mod Bars
pub mod Scroll
pub mod Clip
pub mod Ticks
pub mod Laws
