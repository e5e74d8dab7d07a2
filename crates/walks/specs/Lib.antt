pub mod Outcomes
pub mod Runs
pub mod Leaves
pub mod Paths
pub mod Cursors
pub mod Tallies
pub mod Walks
pub mod Counts
