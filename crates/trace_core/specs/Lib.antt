pub mod Known
pub mod Layout
pub mod Propagation
pub mod Trace
pub mod Marking
pub mod Checked
pub mod Ready
pub mod Law
