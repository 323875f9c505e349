pub mod Entries
pub mod Seats
pub mod Steps
pub mod Passes
pub mod PutBack
pub mod Numbered
pub mod TakenIn
