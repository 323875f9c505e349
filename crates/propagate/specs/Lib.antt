pub mod Store
pub mod Pairing
pub mod Lists
pub mod Places
pub mod Layout
pub mod Choice
pub mod Walk
