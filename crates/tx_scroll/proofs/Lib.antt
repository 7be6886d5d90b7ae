mod InOrder
mod Ticking
mod Regions
mod Defined
