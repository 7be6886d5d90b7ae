pub mod LineReading
pub mod Laws
pub mod Lines
pub mod Script
pub mod ScriptReading
pub mod Verbs
pub mod Words
