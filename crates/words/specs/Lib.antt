pub mod Parser
pub mod Accepted
pub mod Given
