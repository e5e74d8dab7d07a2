pub mod Setups
pub mod Totals
pub mod Hosts
