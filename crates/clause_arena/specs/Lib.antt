pub mod Arena
pub mod Named
pub mod Naming
pub mod Layout
pub mod Kept
pub mod Compaction
