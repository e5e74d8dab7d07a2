pub mod Program
pub mod Tables
pub mod Encoded
pub mod WellFormed
pub mod Slots
