pub mod Views
pub mod Push
pub mod Pop
pub mod Grow
pub mod Levels
pub mod Laid
pub mod Complete
