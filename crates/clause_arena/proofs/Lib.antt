pub mod Tabulated
pub mod Laid
pub mod Front
pub mod Swapped
pub mod NameLists
pub mod Compacted
pub mod KeptOf
