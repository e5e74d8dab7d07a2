pub mod Rows
pub mod Owed
pub mod Emitted
pub mod Digits
