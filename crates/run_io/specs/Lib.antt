pub mod Bytes
pub mod DoorSourceState
pub mod Fault
pub mod MemorySinkState
pub mod MemorySourceState
pub mod Script
pub mod StdSourceState
