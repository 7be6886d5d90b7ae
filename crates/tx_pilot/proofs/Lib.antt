pub mod Describe
pub mod EndReaders
pub mod InputReaders
pub mod LineLaws
pub mod ScriptLaws
pub mod ScriptSteps
pub mod Steps
pub mod WordReaders
