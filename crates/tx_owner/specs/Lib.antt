pub mod Owner
pub mod Owners
pub mod Laws
pub mod Panes
pub mod Lines
pub mod Topmost
