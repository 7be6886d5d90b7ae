pub mod Faults
pub mod Loading
pub mod Memory
pub mod Sending
pub mod Sink
pub mod Source
pub mod Store
pub mod Ticks
