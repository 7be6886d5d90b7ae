pub mod Canvas
pub mod Drawing
pub mod Gather
pub mod Laws
pub mod Machine
pub mod Numbers
pub mod Sequence
pub mod Update
