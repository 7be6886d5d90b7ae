pub mod Item
pub mod Laws
pub mod Sizes
pub mod Axis
pub mod Shape
pub mod Ordinary
