pub mod Block
pub mod Line
pub mod Text
pub mod Written
