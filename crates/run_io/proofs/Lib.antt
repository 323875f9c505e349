pub mod Always
mod Inputs
pub mod Laws
pub mod Parts
