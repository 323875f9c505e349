pub mod Members
pub mod Opposite
pub mod Ascending
pub mod InOrder
pub mod Greatest
pub mod Entailment
pub mod Counting
