pub mod Trail
pub mod UnderTrail
pub mod Truth
pub mod Standing
pub mod Layout
