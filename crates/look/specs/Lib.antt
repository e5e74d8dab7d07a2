pub mod Looks
pub mod Surveys
pub mod Requests
