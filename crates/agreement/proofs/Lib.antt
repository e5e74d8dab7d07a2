pub mod Steps
pub mod Pairs
pub mod Stands
pub mod Traces
pub mod Correspond
pub mod Orders
pub mod Matches
pub mod Agreeing
