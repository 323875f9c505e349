pub mod Names
pub mod Law
pub mod Packed
pub mod Place
pub mod Reached
pub mod Trimmed
