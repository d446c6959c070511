pub mod Faults
pub mod Source
pub mod Sink
pub mod Calls
pub mod MemSource
pub mod MemSink
pub mod SureSink
pub mod Standard
