pub mod Knowns
pub mod Problems
pub mod Tolds
pub mod Numerals
