pub mod Asks
pub mod Past
pub mod Answer
pub mod Question
