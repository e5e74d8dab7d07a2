pub mod Hex
pub mod Replies
pub mod Desks
pub mod Scripts
