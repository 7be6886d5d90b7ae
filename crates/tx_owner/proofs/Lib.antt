mod Ranges
mod Links
mod Filters
mod Greatest
mod Cells
mod Topmost
mod Spots
mod Owned
