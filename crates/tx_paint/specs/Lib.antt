pub mod Pens
pub mod Glyphs
pub mod Edges
pub mod Bars
pub mod Drawing
pub mod Laws
