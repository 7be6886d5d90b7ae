pub mod Along
pub mod Colour
pub mod Marks
pub mod Region
