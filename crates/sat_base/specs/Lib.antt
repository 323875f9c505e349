pub mod Limits
pub mod Lit
pub mod Truth
pub mod Law
