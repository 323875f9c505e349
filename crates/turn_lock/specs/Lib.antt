pub mod Entries
pub mod Turns
pub mod Passes
pub mod Lending
pub use Rattle.atomic_table.specs.Seated
