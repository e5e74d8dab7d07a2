pub mod Tables
pub mod Plays
pub mod Drives
pub mod Surveys
pub mod Walks
