pub mod Sections
pub mod Emits
pub mod Longs
