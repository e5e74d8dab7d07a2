pub mod Numbers
pub mod Verdict
pub mod Bodies
pub mod Lines
pub mod Rows
pub mod Wrote
