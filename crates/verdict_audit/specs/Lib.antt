pub mod Proof
pub mod Case
pub mod Problem
pub mod Audit
pub mod Law
