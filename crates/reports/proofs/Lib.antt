pub mod Playing
pub mod Onward
