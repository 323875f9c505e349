pub mod Keeping
pub mod Made
pub mod Waiting
pub mod Again
pub mod Decided
