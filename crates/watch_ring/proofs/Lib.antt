pub mod Lists
pub mod Chains
pub mod Steps
pub mod Kept
pub mod Cleared
