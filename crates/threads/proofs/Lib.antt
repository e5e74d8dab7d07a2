pub mod Runs
pub mod Lawfuls
