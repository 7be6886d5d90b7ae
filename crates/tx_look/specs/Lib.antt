pub mod Layers
pub mod Boxes
pub mod Content
pub mod Ordinary
