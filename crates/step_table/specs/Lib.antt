pub mod Hint
pub mod Hints
pub mod Layout
pub mod Table
