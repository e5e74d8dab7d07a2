pub mod Verdicts
pub mod Sounds
pub mod Follows
