pub mod Picture
pub mod Given
pub mod Backgrounds
pub mod Drawings
pub mod Cells
pub mod Ticks
pub mod Laws
