pub mod Lists
pub mod Circles
pub mod Entered
pub mod Walks
pub mod Seen
pub mod Heaps
pub mod Choice
pub mod Filled
