pub mod FirstFaults
pub mod Judged
