pub mod Answer
pub mod Number
pub mod Pieces
pub mod Reading
pub mod Words
