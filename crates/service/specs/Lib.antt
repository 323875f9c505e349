pub mod Passes
pub mod Holds
pub mod Replies
pub mod Law
pub mod Worked
