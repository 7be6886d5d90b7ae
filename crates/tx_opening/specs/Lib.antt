pub mod OpeningFaults
pub mod OpeningReading
pub mod OpeningState
